-- What the calls with handles answer.
use Rattle.std.specs.Prelude.{◌≡◌, ◌≢◌, ◌⊎◌, ◌≤◌, ℕ, Bool, true, false, List, Some, None, Result, Ok, Err, length, take, slice_get}
use Rattle.x10_kinds.specs.Limits.{number_of}
use Rattle.x10_kinds.specs.declared.stop.Stop.{Stop}
use Rattle.x10_kinds.specs.declared.stop.Stop.TheVariants as stop
use Rattle.x10_copy.specs.declared.refusal.Refusal.{Refusal}
use Rattle.x10_copy.specs.declared.refusal.Refusal.TheVariants as refusal
use Rattle.x10_place.specs.declared.line.Line.{Line}
use Rattle.x10_place.specs.declared.sent.Outgoing.{Outgoing}
use Rattle.x10_place.specs.declared.sent.Sent.{Sent}
use Rattle.x10_flights.specs.Flights.{Flight, FlightsState, flight_of}
use Rattle.x10_place.specs.StandsFor.{PlaceState, line_as}
use Rattle.x10_world.specs.Queries.{HasNoPlace, HasPlace}
use Rattle.x10_handles.specs.declared.unopened.Unopened.{Unopened}
use Rattle.x10_handles.specs.declared.unopened.Unopened.TheVariants as unopened
use Rattle.x10_handles.specs.Stations.{IsFrameOut}
use Rattle.x10_cli.specs.Lines.{shown}
use Rattle.x10_c.specs.declared.numbers.FaultNumbers.{FaultNumbers}
use Rattle.x10_c.specs.Numbers.{frame_kind, no_fault}
use Rattle.x10_c.specs.Calls.{HasRoom}

-- a fault with no numbers beside its kind, and one with a count
abbrev pub plain : ℕ → FaultNumbers
plain kind = record { kind = kind; function = 0; pc = 0; at = 0 }

abbrev pub counted : (kind at : ℕ) → FaultNumbers
counted kind at = record { kind = kind; function = 0; pc = 0; at = at }

-- ---- a place is opened

abbrev pub opening_status : Result Unit Unopened → ℕ
opening_status (Ok u) = 0
opening_status (Err unopened.Places) = 1
opening_status (Err unopened.Memory) = 2
opening_status (Err unopened.NoModule) = 7
opening_status (Err unopened.InUse) = 8

-- ---- a step of a place, or an event of a world

abbrev pub stop_numbers : Stop → FaultNumbers
stop_numbers stop.Memory = plain 602
stop_numbers (stop.Limit limit) = counted 603 (number_of limit)
stop_numbers stop.Stopped = plain 921

abbrev pub step_status : Result Bool Stop → ℕ
step_status (Ok true) = 0
step_status (Ok false) = 9
step_status (Err why) = 2

abbrev pub step_told : Result Bool Stop → FaultNumbers
step_told (Ok moved) = no_fault
step_told (Err why) = stop_numbers why

-- ---- bytes come in

abbrev pub refusal_numbers : Refusal → FaultNumbers
refusal_numbers (refusal.Frame fault) = plain (frame_kind fault)
refusal_numbers refusal.NotHere = plain 911
refusal_numbers refusal.Function = plain 912
refusal_numbers refusal.Kind = plain 913
refusal_numbers refusal.Home = plain 914
refusal_numbers refusal.Ref = plain 915
refusal_numbers refusal.Finish = plain 916
refusal_numbers refusal.Segment = plain 917
refusal_numbers refusal.Memory = plain 602
refusal_numbers (refusal.Limit limit) = counted 603 (number_of limit)
refusal_numbers refusal.Stopped = plain 921

-- 2 where the place has stopped, and 1 where it is as before
abbrev pub refusal_status : Refusal → ℕ
refusal_status refusal.Memory = 2
refusal_status (refusal.Limit limit) = 2
refusal_status refusal.Stopped = 2
refusal_status why = 1

abbrev pub receive_status : Result Unit Refusal → ℕ
receive_status (Ok u) = 0
receive_status (Err why) = refusal_status why

abbrev pub receive_told : Result Unit Refusal → FaultNumbers
receive_told (Ok u) = no_fault
receive_told (Err why) = refusal_numbers why

-- ---- what was put out, and printed

-- One of the frames that the last step put out is written to a buffer: its place, its length, and
-- its bytes where there is room.
pub record IsSentTo (sent : Sent) (number status to needed : ℕ) (old new : List ℕ) : Type 0 where
  pub is_status : (status ≡ 0) ⊎ (status ≡ 6) ⊎ (status ≡ 9)
  pub none : status ≡ 9 → IsFrameOut sent number None
  pub some : status ≢ 9 → (o : Outgoing) × IsFrameOut sent number (Some o)
      × (to ≡ o.to) × (needed ≡ length o.bytes.items)
      × (status ≡ 0 → take needed new ≡ o.bytes.items)
  pub room : HasRoom status needed old new

-- A line that a place printed is written to a buffer: a number in decimal, or a text. Of memory
-- nothing is said.
pub record IsLineTo (lines : List Line) (number status needed : ℕ) (old new : List ℕ) : Type 0 where
  pub is_status : (status ≡ 0) ⊎ (status ≡ 2) ⊎ (status ≡ 6) ⊎ (status ≡ 9)
  pub none : status ≡ 9 → length lines ≤ number
  pub some : (status ≡ 0) ⊎ (status ≡ 6) → (line : Line) × (slice_get lines number ≡ Some line)
      × (needed ≡ length (shown (line_as line)))
      × (status ≡ 0 → take needed new ≡ shown (line_as line))
  pub room : HasRoom status needed old new

-- A frame in flight is written to a buffer: its place, its length, and its bytes where there is
-- room.
pub record IsFlightTo (flights : FlightsState) (number status to needed : ℕ)
    (old new : List ℕ) : Type 0 where
  pub is_status : (status ≡ 0) ⊎ (status ≡ 6) ⊎ (status ≡ 9)
  pub none : status ≡ 9 → flight_of flights number ≡ None
  pub some : status ≢ 9 → (f : Flight) × (flight_of flights number ≡ Some f) × (to ≡ f.to)
      × (needed ≡ length f.bytes) × (status ≡ 0 → take needed new ≡ f.bytes)
  pub room : HasRoom status needed old new

-- A line that a place of a world printed is written to a buffer, or there is no such place.
abbrev pub IsLineOfWorld : List PlaceState → (place number status needed : ℕ)
    → List ℕ → List ℕ → Type 0
IsLineOfWorld places place number status needed old new =
    (HasNoPlace places place × (status ≡ 9) × (new ≡ old))
    ⊎ HasPlace places place (λ p. IsLineTo p.lines number status needed old new)
