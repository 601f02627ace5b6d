-- What the calls of a program in C are answered.
use Rattle.std.specs.Borrow.{Bor, MutBor}
use denote.RawPtr.{Testable}
use Rattle.std.specs.Ptr.{as_ptr, as_mut_ptr}
use Rattle.std.specs.Str.{IsUtf8}
use Rattle.std.specs.Prelude.{◌≡◌, ◌≢◌, ◌⊎◌, ◌<◌, ◌≤◌, ◌==◌, ℕ, List, [], Option, Some, None, Result, Ok, Err, length, take, drop, false, if◌then◌else◌}
use Rattle.x10_model.specs.Modules.{Module}
use Rattle.x10_model.specs.Structure.{bounds_of}
use Rattle.x10_task.specs.declared.task.Verb.{Verb}
use Rattle.x10_task.specs.declared.task.Verb.TheVariants as verb
use Rattle.x10_cli.specs.declared.fault.Fault.{Fault}
use Rattle.x10_cli.specs.Answers.{CanBeDone, Prints, IsDue, IsImage, LeavesRefused, LeavesStopped, begins_as_image, status_of}
use Rattle.x10_c.specs.declared.numbers.FaultNumbers.{FaultNumbers}
use Rattle.x10_c.specs.Numbers.{no_fault, numbers_of}

-- a pointer may be compared with null: it is less than 2^63 bytes from the front of what it points into
abbrev pub IsAddress : {X : Type 0} → Bor X → Type 0
IsAddress at = Testable (as_ptr at)

abbrev pub IsMutAddress : {X : Type 0} → MutBor X → Type 0
IsMutAddress at = Testable (as_mut_ptr at)

-- how many places are asked for, where 0 asks for the module's least number
abbrev pub asked_of : ℕ → Option ℕ
asked_of places = if places == 0 then None else Some places

-- the fault of a call that has one, as numbers
abbrev pub told_of : Result Unit Fault → FaultNumbers
told_of (Ok u) = no_fault
told_of (Err f) = numbers_of f

abbrev pub status_in : Result Unit Fault → ℕ
status_in (Ok u) = 0
status_in (Err f) = status_of f

-- bytes aren't the text that a command takes
abbrev pub IsNoText : Verb → List ℕ → Type 0
IsNoText verb.Asm bytes = IsUtf8 bytes → ⊥
IsNoText verb.Check bytes = (begins_as_image bytes ≡ false) × (IsUtf8 bytes → ⊥)
IsNoText _ bytes = ⊥

-- what a command has come to that began with nothing printed, with what it printed
abbrev pub Came : Verb → Option ℕ → List ℕ → Result Unit Fault → List ℕ → Type 0
Came v asked bytes (Ok u) text = CanBeDone v asked bytes
    × Prints v false asked bytes (Some []) (Some text)
Came v asked bytes (Err f) text = IsDue asked bytes f
    × (status_of f ≡ 1 → CanBeDone v asked bytes → ⊥)
    × (status_of f ≡ 1 → LeavesRefused v (Some []) (Some text))
    × (status_of f ≡ 2 → LeavesStopped v false false asked bytes (Some []) (Some text))
    × (status_of f ≡ 4 → IsNoText v bytes)

-- why a call ends with a status
abbrev pub IsTold : List ℕ → Option ℕ → ℕ → FaultNumbers → Type 0
IsTold bytes asked status told = (f : Fault) × (told ≡ numbers_of f) × (status ≡ status_of f)
    × IsDue asked bytes f

-- these are the bounds of the functions of the module whose image the bytes are
abbrev pub IsBounded : List ℕ → List ℕ → Type 0
IsBounded bytes bounds = (m : Module) × IsImage bytes m × (bounds_of m ≡ Ok bounds)

-- where a buffer has room for so many items, what is behind them is as before; else all of it is
pub record HasRoom (status needed : ℕ) (old new : List ℕ) : Type 0 where
  pub fits : status ≢ 6 → needed ≤ length old
  pub rest : status ≢ 6 → drop needed new ≡ drop needed old
  pub small : status ≡ 6 → length old < needed
  pub kept : status ≡ 6 → new ≡ old

-- what a call answers that does a command with some bytes and has a buffer for what it prints: the
-- status, the fault, how many bytes are printed, and the buffer before and after it
pub record Answers (v : Verb) (asked : Option ℕ) (bytes : List ℕ) (status : ℕ)
    (told : FaultNumbers) (needed : ℕ) (old new : List ℕ) : Type 0 where
  pub is_status : (status ≡ 6) ⊎ ((r : Result Unit Fault) × (status ≡ status_in r))
  pub done : status ≡ 0 → CanBeDone v asked bytes
  pub printed : status ≡ 0 → Prints v false asked bytes (Some []) (Some (take needed new))
  pub clear : status ≡ 0 → told ≡ no_fault
  pub refused : status ≡ 1 → CanBeDone v asked bytes → ⊥
  pub due : status ≢ 0 → status ≢ 6 → IsTold bytes asked status told
  pub left_refused : status ≡ 1 → LeavesRefused v (Some []) (Some (take needed new))
  pub left_stopped : status ≡ 2
      → LeavesStopped v false false asked bytes (Some []) (Some (take needed new))
  pub no_text : status ≡ 4 → IsNoText v bytes
  pub room : HasRoom status needed old new
  pub wanted : status ≡ 6 → (r : Result Unit Fault) × (text : List ℕ) × Came v asked bytes r text
      × (told ≡ told_of r) × (needed ≡ length text)
