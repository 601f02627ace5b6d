-- The table of states: a state, or none, before each instruction.
use Rattle.std.specs.Prelude.{◌≡◌, ℕ, ◌*◌, ◌<◌, Bool, true, false, List, length, Option, Some, None, slice_get, slice_set}
use Rattle.x10_kinds.specs.Ranks.{sum_below}
use Rattle.x10_model.specs.Assignments.{State}
use Rattle.x10_verify.specs.declared.known.Known.{Known}
use Rattle.x10_verify.specs.declared.states.Mark.{Mark}
use Rattle.x10_verify.specs.declared.states.Mark.TheVariants.{Unreached, Waiting, Done}
use Rattle.x10_verify.specs.declared.states.Entry.{Entry}
use Rattle.x10_verify.specs.Known.{state_of}
use Rattle.x10_verify.specs.Effects.{IsKept}
use Rattle.x10_verify.specs.Merging.{IsMet, rank_of, heights}

abbrev pub state_if : Mark → Known → Option State
state_if Unreached k = None
state_if _ k = Some (state_of k)

abbrev pub state_in : Option Entry → Option State
state_in None = None
state_in (Some e) = state_if e.mark e.known

-- the state before an instruction
abbrev pub stated : List Entry → ℕ → Option State
stated table q = state_in (slice_get table q)

abbrev pub is_waiting : Mark → Bool
is_waiting Waiting = true
is_waiting _ = false

abbrev pub waits_in : Option Entry → Bool
waits_in None = false
waits_in (Some e) = is_waiting e.mark

-- whether an instruction waits to be looked at
abbrev pub waits : List Entry → ℕ → Bool
waits table q = waits_in (slice_get table q)

abbrev pub IsFresh : List Entry → Type 0
IsFresh table = (q : ℕ) → stated table q ≡ None

-- ---- one way more

-- the state after one way more: the new one if it is the first, else the least above both
abbrev pub IsMetIn : Option State → State → State → Type 0
IsMetIn None s u = u ≡ s
IsMetIn (Some v) s u = IsKept v → IsKept s → IsMet v s u

-- how often an entry can still change, at most
abbrev pub height_if : Mark → Known → ℕ
height_if Unreached k = heights
height_if _ k = rank_of k

abbrev pub height_in : Option Entry → ℕ
height_in None = 0
height_in (Some e) = height_if e.mark e.known

pub record Receives (old : Entry) (known : Known) (new : Entry) (changed : Bool) : Type 0 where
  pub reached : state_if new.mark new.known ≡ Some (state_of new.known)
  pub met : IsMetIn (state_if old.mark old.known) (state_of known) (state_of new.known)
  pub same : changed ≡ false → new ≡ old
  pub waiting : changed ≡ true → new.mark ≡ Waiting
  pub falls : changed ≡ true → height_if new.mark new.known < height_if old.mark old.known

-- one entry has received a state
pub record Arrives (old : List Entry) (target : ℕ) (known : Known) (new : List Entry)
    (changed : Bool) : Type 0 where
  pub entry : Entry
  pub before : Entry
  pub was : slice_get old target ≡ Some before
  pub received : Receives before known entry changed
  pub is : new ≡ slice_set old target entry

-- the table with a waiting instruction done
pub record Takes (old : List Entry) (at : ℕ) (known : Known) (new : List Entry) : Type 0 where
  pub before : Entry
  pub was : slice_get old at ≡ Some before
  pub known_is : before.known ≡ known
  pub waited : is_waiting before.mark ≡ true
  pub is : new ≡ slice_set old at (record { mark = Done; known = before.known })

-- an instruction has been looked at
abbrev pub IsDone : List Entry → ℕ → Type 0
IsDone table at = (known : Known) × (slice_get table at
    ≡ Some (record { mark = Done; known = known }))

-- how often the table can still change, at most
unfoldable pub total : List Entry → ℕ
total table = sum_below (length table) (λ q. height_in (slice_get table q))
