-- What a place does that is behind a handle.
use Rattle.std.specs.Prelude.{◌≡◌, ◌≢◌, ◌≤◌, ℕ, Bool, true, false, List, [], ◌∷◌, ◌++◌, slice_get, Option, Some, None, Result, Ok, Err, IfOk, IfErr, MatchOption}
use Rattle.slab.specs.Slab.{get}
use Rattle.x10_kinds.specs.declared.limit.Limit.{Limit}
use Rattle.x10_kinds.specs.declared.stop.Stop.{Stop}
use Rattle.x10_kinds.specs.declared.stop.Stop.TheVariants as stop
use Rattle.x10_copy.specs.declared.refusal.Refusal.{Refusal}
use Rattle.x10_copy.specs.declared.refusal.Refusal.TheVariants as refusal
use Rattle.x10_place.specs.declared.place.Stepped.{Stepped}
use Rattle.x10_place.specs.declared.place.Stepped.TheVariants as stepped
use Rattle.x10_place.specs.declared.sent.Outgoing.{Outgoing}
use Rattle.x10_place.specs.declared.sent.Sent.{Sent}
use Rattle.x10_place.specs.Messages.{no_sent}
use Rattle.x10_place.specs.Stays.{StayState, IsDoneHere}
use Rattle.x10_place.specs.Opening.{IsNextKey}
use Rattle.x10_place.specs.StandsFor.{store_of, LeadsAll, Keeps, IsIdleAt, IsOverfull, IsHindered, AreOutside}
use Rattle.x10_place.specs.Receiving.{IsTaken, IsRefusedBytes, IsOfFrame, stops}
use Rattle.x10_handles.specs.declared.station.Station.{Station}

-- what a step tells that moved and put something out, or found nothing to do
abbrev pub told : Bool → Sent → Stepped
told true sent = stepped.Moved sent
told false sent = stepped.Idle

-- A step of the activity with a key, as a place makes it (x10_place). What it puts out is kept, and
-- nothing where it doesn't move.
pub record IsStepped (old : Station) (key : ℕ) (result : Result Bool Stop)
    (new : Station) : Type 0 where
  pub idle : old.place.stopped ≢ true → IsIdleAt old.place key
      → (result ≡ Ok false) × (new.place ≡ old.place)
  pub only : old.place.stopped ≢ true → result ≡ Ok false → IsIdleAt old.place key
  pub some : (a : StayState) → get old.place.stays key ≡ Some a → a.away ≡ false
      → AreOutside old.place.stays key
      → IfOk result (λ moved. LeadsAll old.place key (told moved new.sent) new.place)
  pub stopped : old.place.stopped ≡ true → result ≡ Err stop.Stopped
  pub refused : old.place.stopped ≢ true → IfErr result (IsHindered old.place key)
  pub full : old.place.stopped ≢ true → (limit : Limit) → IsOverfull old.place key limit
      → result ≡ Err (stop.Limit limit)
  pub stop : IfErr result (λ why. new.place ≡ record old.place { stopped = true })
  pub goes : IfOk result (λ moved. new.place.stopped ≢ true)
  pub kept : Keeps old.place new.place
  pub silent : result ≢ Ok true → new.sent ≡ no_sent

-- Bytes come to a place, as it receives them (x10_place). What its last step put out is kept.
pub record IsReceived (old : Station) (bytes : List ℕ) (result : Result Unit Refusal)
    (new : Station) : Type 0 where
  pub ok : IfOk result (λ u. IsTaken old.place bytes new.place)
  pub refused : old.place.stopped ≢ true → IfErr result (IsRefusedBytes old.place bytes)
  pub read : old.place.stopped ≢ true → IfErr result (IsOfFrame old.place.places bytes)
  pub stopped : old.place.stopped ≡ true → result ≡ Err refusal.Stopped
  pub left : IfErr result (λ why. new.place ≡ record old.place { stopped = stops why })
  pub goes : IfOk result (λ u. new.place.stopped ≢ true)
  pub kept : Keeps old.place new.place
  pub sent : new.sent ≡ old.sent

-- the least key in use from a number on, or none
abbrev pub IsFrom : Station → ℕ → Option ℕ → Type 0
IsFrom s from found = MatchOption found ((k : ℕ) → from ≤ k → get s.place.stays k ≡ None)
    (IsNextKey s.place.stays from)

-- the root finish may end, as place 0 knows by its own counts and by what was reported to it
abbrev pub IsClosed : Station → Type 0
IsClosed s = (s.place.id ≡ 0) × IsDoneHere (store_of s.place) 0

-- ---- what a step put out, as frames: the message first

abbrev pub frame_if : Option Outgoing → List Outgoing
frame_if None = []
frame_if (Some frame) = frame ∷ []

abbrev pub frames_out : Sent → List Outgoing
frames_out s = frame_if s.message ++ frame_if s.report

-- the frame with a number, or none
abbrev pub IsFrameOut : Sent → ℕ → Option Outgoing → Type 0
IsFrameOut s number found = slice_get (frames_out s) number ≡ found
