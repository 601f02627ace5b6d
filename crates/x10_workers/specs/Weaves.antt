-- How the turns of a log are found in the trails of its places.
use Rattle.std.specs.Prelude.{◌≡◌, ℕ, ◌+◌, ◌<◌, ◌≤◌, List, [], ◌∷◌, ◌++◌, Option, Some, None, MatchOption, IsTrue, false}
use Rattle.std.specs.Prelude.{length, map, replicate, take, slice_get, slice_set}
use Rattle.x10_kinds.specs.declared.stop.Stop.TheVariants as stop
use Rattle.x10_place.specs.StandsFor.{line_as}
use Rattle.x10_hall.specs.declared.turn.Turn.{Turn}
use Rattle.x10_hall.specs.Halls.{PostedFrame, Numbered, frame_of, told}
use Rattle.x10_workers.specs.declared.fault.AuditFault.{AuditFault}
use Rattle.x10_workers.specs.declared.fault.AuditFault.TheVariants as fault
use Rattle.x10_workers.specs.declared.trail.OwnTurn.{OwnTurn}
use Rattle.x10_workers.specs.declared.trail.Trail.{Trail}
use Rattle.x10_workers.specs.Trails.{IsShort}

-- how many turns of each trail are in the log so far, and the frames that were posted, each under its number until it is taken
pub record Woven : Type 0 where
  pub cursors : List ℕ
  pub flying : List (Option PostedFrame)

-- nothing was logged
abbrev pub nothing_woven : ℕ → Woven
nothing_woven places = record { cursors = replicate places 0; flying = [] }

-- frames that fly
abbrev pub all_flying : List PostedFrame → List (Option PostedFrame)
all_flying frames = map (λ f. Some f) frames

-- the frame with a number flies to a place, and is taken
pub record TakesOff (flying : List (Option PostedFrame)) (place : ℕ) (f : Numbered)
    (after : List (Option PostedFrame)) : Type 0 where
  pub flies : slice_get flying f.number ≡ Some (Some (record { to = place; bytes = f.bytes }))
  pub after_is : after ≡ slice_set flying f.number None

-- frames, one after another
abbrev pub TakesOffEach : List (Option PostedFrame) → ℕ → List Numbered → List (Option PostedFrame)
    → Type 0
TakesOffEach flying place [] after = after ≡ flying
TakesOffEach flying place (f ∷ fs) after = (middle : List (Option PostedFrame))
    × TakesOff flying place f middle × TakesOffEach middle place fs after

-- a turn of a log tells what a place kept of its turn
pub record IsTurnOf (own : OwnTurn) (t : Turn) : Type 0 where
  pub taken : map (λ f. f.number) own.taken.items ≡ t.taken.items
  pub keys : own.keys ≡ t.keys
  pub frames : map frame_of own.frames.items ≡ map frame_of t.frames.items
  pub lines : map line_as own.lines.items ≡ map line_as t.lines.items

-- what a place kept of its next turn: the one at its cursor in its trail
pub record IsNextTurn (trails : List Trail) (cursors : List ℕ) (place cursor : ℕ)
    (own : OwnTurn) : Type 0 where
  pub trail : Trail
  pub trail_is : slice_get trails place ≡ Some trail
  pub cursor_is : slice_get cursors place ≡ Some cursor
  pub own_is : slice_get trail.turns cursor ≡ Some own

-- A turn of the log is the next one of its place's trail; what it took was flying to this place, and what it put out flies
-- under the next numbers.
pub record Weaves (trails : List Trail) (x : Woven) (t : Turn) (y : Woven) : Type 0 where
  pub cursor : ℕ
  pub own : OwnTurn
  pub middle : List (Option PostedFrame)
  pub next : IsNextTurn trails x.cursors t.place cursor own
  pub same : IsTurnOf own t
  pub takes : TakesOffEach x.flying t.place (map told own.taken.items) middle
  pub new_is : y ≡ record {
    cursors = slice_set x.cursors t.place (cursor + 1);
    flying = middle ++ all_flying (map frame_of t.frames.items);
  }

-- a turn of a log is of one of so many places, and no longer than a turn may be
pub record IsWithin (places : ℕ) (t : Turn) : Type 0 where
  pub place : t.place < places
  pub short : IsShort (length t.taken.items) (length t.keys)

abbrev pub AreWithin : ℕ → List Turn → Type 0
AreWithin places log = (at : ℕ) (t : Turn) → slice_get log at ≡ Some t → IsWithin places t

-- turns of a log, one after another
pub data WeavesAll (trails : List Trail) (x : Woven) : List Turn → Woven → Type 0 where
  weaves_none : WeavesAll trails x [] x
  weaves_more : (turns : List Turn) (t : Turn) (y z : Woven) → WeavesAll trails x turns y
      → Weaves trails y t z → WeavesAll trails x (turns ++ t ∷ []) z

-- all turns of each trail are in the log
abbrev pub AreAllWoven : List Trail → Woven → Type 0
AreAllWoven trails x = (id : ℕ) (t : Trail) → slice_get trails id ≡ Some t
    → slice_get x.cursors id ≡ Some (length t.turns)

-- all turns of a log are found in the trails, all of these are in the log, and the root finish may end as place 0 knows it
pub record IsWovenWhole (trails : List Trail) (log : List Turn) : Type 0 where
  pub last : Woven
  pub weaves : WeavesAll trails (nothing_woven (length trails)) log last
  pub all : AreAllWoven trails last
  pub trail : Trail
  pub trail_is : slice_get trails 0 ≡ Some trail
  pub closed : IsTrue trail.closed

-- The first turns of a log are found in the trails, up to a number. The next one isn't; or there is none, and a trail has more.
pub record IsDifference (trails : List Trail) (x : Woven) (log : List Turn)
    (number : ℕ) : Type 0 where
  pub within : number ≤ length log
  pub now : Woven
  pub before : WeavesAll trails x (take number log) now
  pub differs : MatchOption (slice_get log number) (AreAllWoven trails now → ⊥)
      (λ t. (after : Woven) → Weaves trails now t after → ⊥)

-- all turns of a log are found in the trails, and all of these in it, but the root finish may not end
pub record IsStillOpen (trails : List Trail) (x : Woven) (log : List Turn) : Type 0 where
  pub last : Woven
  pub weaves : WeavesAll trails x log last
  pub all : AreAllWoven trails last
  pub still : (t : Trail) → slice_get trails 0 ≡ Some t → t.closed ≡ false

-- why a log is not found in trails
abbrev pub IsNotWoven : List Trail → Woven → List Turn → AuditFault → Type 0
IsNotWoven trails x log (fault.Differs number) = IsDifference trails x log number
IsNotWoven trails x log fault.Open = IsStillOpen trails x log
IsNotWoven trails x log (fault.Stop why) = why ≡ stop.Memory

abbrev pub ExplainsWeave : List Trail → List Turn → AuditFault → Type 0
ExplainsWeave trails log why = IsNotWoven trails (nothing_woven (length trails)) log why
