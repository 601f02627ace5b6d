-- Steps of several activities, one after another.
use Rattle.std.specs.Prelude.{◌≡◌, ◌≢◌, ◌⊎◌, ℕ, ◌+◌, List, None, Some, slice_get, true, false}
use Rattle.slab.specs.Slab.{get, slab_len}
use Rattle.x10_kinds.specs.declared.stop.Stop.{Stop}
use Rattle.x10_place.specs.declared.place.Stepped.{Stepped}
use Rattle.x10_place.specs.declared.place.Stepped.TheVariants as stepped
use Rattle.x10_place.specs.declared.sent.Sent.{Sent}
use Rattle.x10_place.specs.Messages.{no_sent}
use Rattle.x10_place.specs.Stays.{StayState}
use Rattle.x10_place.specs.StandsFor.{PlaceState, Keeps, LeadsAll, AreOutside, IsIdleAt, IsHindered}
use Rattle.x10_place.specs.Stretches.{HasBegun}

-- What a step of the activity with a key does, where it isn't refused: it moves, or finds nothing to do.
pub record IsPace (key : ℕ) (p : PlaceState) (answer : Stepped) (q : PlaceState) : Type 0 where
  pub on : p.stopped ≢ true
  pub idle : IsIdleAt p key → (answer ≡ stepped.Idle) × (q ≡ p)
  pub only : answer ≡ stepped.Idle → IsIdleAt p key
  pub some : (a : StayState) → get p.stays key ≡ Some a → a.away ≡ false
      → AreOutside p.stays key → LeadsAll p key answer q
  pub goes : q.stopped ≢ true
  pub kept : Keeps p q

-- nothing is put out
abbrev pub IsQuiet : Stepped → Type 0
IsQuiet answer = (answer ≡ stepped.Idle) ⊎ (answer ≡ stepped.Moved no_sent)

-- how many of one step move
abbrev pub moves_in : Stepped → ℕ
moves_in stepped.Idle = 0
moves_in (stepped.Moved sent) = 1

-- One step of a sweep that goes on, and how many moves were counted before it and after: nothing is put out, the key that the
-- next activity gets is still free, and as many activities are here as were.
pub record GoesOn (key m : ℕ) (p : PlaceState) (n : ℕ) (q : PlaceState) : Type 0 where
  pub answer : Stepped
  pub quiet : IsQuiet answer
  pub pace : IsPace key p answer q
  pub none_begun : get q.stays p.stays.vacant_key ≡ None
  pub none_ended : slab_len q.stays ≡ slab_len p.stays
  pub count : n ≡ m + moves_in answer

-- one that ends it: it moves, and puts something out, or begins or ends an activity
pub record EndsSweep (key m : ℕ) (p : PlaceState) (sent : Sent) (n : ℕ) (q : PlaceState) : Type 0 where
  pub pace : IsPace key p (stepped.Moved sent) q
  pub parts : (sent ≢ no_sent) ⊎ HasBegun p q ⊎ (slab_len q.stays ≢ slab_len p.stays)
  pub count : n ≡ m + 1

-- one that is refused
pub record IsRefusedPace (key : ℕ) (p : PlaceState) (why : Stop) (q : PlaceState) : Type 0 where
  pub stopped : q ≡ record p { stopped = true }
  pub hindered : p.stopped ≢ true → IsHindered p key why

-- A step of each of the first so many keys, none of which puts anything out, and how many of these steps move.
pub data Sweeps (keys : List ℕ) (p : PlaceState) : ℕ → ℕ → PlaceState → Type 0 where
  unswept : Sweeps keys p 0 0 p
  swept : (n m k key : ℕ) (q r : PlaceState) → Sweeps keys p n m q → slice_get keys n ≡ Some key
      → GoesOn key m q k r → Sweeps keys p (n + 1) k r

-- the same, but that the last one may put something out
pub data SweepsTo (keys : List ℕ) (p : PlaceState) : ℕ → ℕ → Sent → PlaceState → Type 0 where
  quietly : (n m : ℕ) (q : PlaceState) → Sweeps keys p n m q → SweepsTo keys p n m no_sent q
  loudly : (n m k key : ℕ) (sent : Sent) (q r : PlaceState) → Sweeps keys p n m q
      → slice_get keys n ≡ Some key → EndsSweep key m q sent k r → SweepsTo keys p (n + 1) k sent r

-- the last of so many steps put something out, or began or ended an activity
pub record HasEndedIn (keys : List ℕ) (p : PlaceState) (n m : ℕ) (sent : Sent)
    (q : PlaceState) : Type 0 where
  pub before : ℕ
  pub count : n ≡ before + 1
  pub moved : ℕ
  pub last : PlaceState
  pub sweeps : Sweeps keys p before moved last
  pub key : ℕ
  pub is_key : slice_get keys before ≡ Some key
  pub ends : EndsSweep key moved last sent m q

-- So many steps were made, and the next was refused: the place has stopped, and is else as these steps left it.
pub record IsHaltedSweep (keys : List ℕ) (p : PlaceState) (n m : ℕ) (why : Stop)
    (q : PlaceState) : Type 0 where
  pub last : PlaceState
  pub sweeps : Sweeps keys p n m last
  pub key : ℕ
  pub is_next : slice_get keys n ≡ Some key
  pub refused : IsRefusedPace key last why q
