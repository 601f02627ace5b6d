-- What a command has come to that wrote to memory.
use Rattle.std.proofs.Common.{◌≡◌, ℕ, Bool, List, [], Option, Some, Result, Ok, Err, false, sym, ap, subst, ◌∙◌, inl, inr, arith}
use Rattle.std.specs.Prelude.{◌⊎◌, IfOk, IfErr, OnOk}
use Rattle.x10_task.specs.declared.task.Verb.{Verb}
use Rattle.x10_cli.specs.declared.fault.Fault.{Fault}
use Rattle.x10_cli.specs.declared.fault.Fault.TheVariants as fault
use Rattle.x10_cli.specs.Answers.{CanBeDone, Prints, IsDue, LeavesRefused, LeavesStopped, status_of}
use Rattle.x10_c.specs.Calls.{Came}
use Rattle.x10_c.specs.Settling.{Keeps, Settles}

-- what is known of a command's answer and of what it wrote
pub record Facts (v : Verb) (json : Bool) (asked : Option ℕ) (bytes : List ℕ) (done : Result Unit Fault) (old text : List ℕ) : Type 0 where
  pub can : IfOk done (λ _. CanBeDone v asked bytes)
  pub prints : OnOk done (Prints v json asked bytes (Some old) (Some text))
  pub cannot : IfErr done (λ e. status_of e ≡ 1 → CanBeDone v asked bytes → ⊥)
  pub due : IfErr done (IsDue asked bytes)
  pub refused : IfErr done (λ e. status_of e ≡ 1 → LeavesRefused v (Some old) (Some text))
  pub stopped : IfErr done (λ e. status_of e ≡ 2 → LeavesStopped v json false asked bytes (Some old) (Some text))

-- what is left where no write failed
pub from_kept : (done : Result Unit Fault) (n : ℕ) (K Q : Type 0) → (K → Q) → (4 ≡ n → ⊥) → IfErr done (λ e. (e ≡ fault.File) ⊎ K)
    → IfErr done (λ e. status_of e ≡ n → Q)
from_kept (Ok u) n K Q by other k = tt
from_kept (Err f) n K Q by other (inl is) = λ s. absurd (other (sym (ap status_of is) ∙ s))
from_kept (Err f) n K Q by other (inr k) = λ s. by k

module _ (v : Verb) (asked : Option ℕ) (bytes text : List ℕ) where
  Undone : Fault → Type 0
  Undone f = IsDue asked bytes f
      × (status_of f ≡ 1 → CanBeDone v asked bytes → ⊥)
      × (status_of f ≡ 1 → LeavesRefused v (Some []) (Some text))
      × (status_of f ≡ 2 → LeavesStopped v false false asked bytes (Some []) (Some text))

  same : (f : Fault) (r : Result Unit Fault) (new : List ℕ) → (status_of f ≡ 4 → ⊥) → Undone f → (r ≡ Err f) × (new ≡ text)
      → Came v asked bytes r new
  unfolding Undone
  same f r new other u s = subst (λ (q : Result Unit Fault). Came v asked bytes q new) (sym s.0)
      (subst (λ (t : List ℕ). Came v asked bytes (Err f) t) (sym s.1) (u.0, u.1, u.2, u.3, λ e. absurd (other e)))

  lost : (r : Result Unit Fault) (new : List ℕ) → LeavesStopped v false false asked bytes (Some []) (Some [])
      → (r ≡ Err fault.Memory) × (new ≡ []) → Came v asked bytes r new
  lost r new empty s = subst (λ (q : Result Unit Fault). Came v asked bytes q new) (sym s.0)
      (subst (λ (t : List ℕ). Came v asked bytes (Err fault.Memory) t) (sym s.1)
      (tt, (λ e. absurd (omega (arith, e))), (λ e. absurd (omega (arith, e))), (λ e. empty), (λ e. absurd (omega (arith, e)))))

  failed : (f : Fault) (r : Result Unit Fault) (new : List ℕ) → LeavesStopped v false false asked bytes (Some []) (Some []) → Undone f
      → Keeps f text r new → Came v asked bytes r new
  failed fault.File r new empty u s = lost r new empty s
  failed (fault.Asm f) r new empty u s = same (fault.Asm f) r new (λ e. omega (arith, e)) u s
  failed (fault.Image f) r new empty u s = same (fault.Image f) r new (λ e. omega (arith, e)) u s
  failed (fault.Verify f) r new empty u s = same (fault.Verify f) r new (λ e. omega (arith, e)) u s
  failed (fault.Bounds f) r new empty u s = same (fault.Bounds f) r new (λ e. omega (arith, e)) u s
  failed fault.Places r new empty u s = same fault.Places r new (λ e. omega (arith, e)) u s
  failed fault.Memory r new empty u s = same fault.Memory r new (λ e. omega (arith, e)) u s
  failed fault.StopMemory r new empty u s = same fault.StopMemory r new (λ e. omega (arith, e)) u s
  failed (fault.StopLimit l) r new empty u s = same (fault.StopLimit l) r new (λ e. omega (arith, e)) u s
  failed fault.Limit r new empty u s = same fault.Limit r new (λ e. omega (arith, e)) u s
  failed fault.Turns r new empty u s = same fault.Turns r new (λ e. omega (arith, e)) u s
  failed (fault.Refused p) r new empty u s = same (fault.Refused p) r new (λ e. omega (arith, e)) u s
  failed (fault.Differs t) r new empty u s = same (fault.Differs t) r new (λ e. omega (arith, e)) u s
  failed fault.Thread r new empty u s = same fault.Thread r new (λ e. omega (arith, e)) u s
  failed (fault.Frame f) r new empty u s = same (fault.Frame f) r new (λ e. omega (arith, e)) u s
  failed (fault.Log f) r new empty u s = same (fault.Log f) r new (λ e. omega (arith, e)) u s
  failed fault.LogImage r new empty u s = same fault.LogImage r new (λ e. omega (arith, e)) u s
  failed (fault.LogDiffers t) r new empty u s = same (fault.LogDiffers t) r new (λ e. omega (arith, e)) u s
  failed fault.LogOpen r new empty u s = same fault.LogOpen r new (λ e. omega (arith, e)) u s

  came : (done r : Result Unit Fault) (new : List ℕ) → LeavesStopped v false false asked bytes (Some []) (Some [])
      → Facts v false asked bytes done [] text → Settles done text r new → Came v asked bytes r new
  unfolding Undone
  came (Ok u) r new empty x s = subst (λ (q : Result Unit Fault). Came v asked bytes q new) (sym s.0)
      (subst (λ (t : List ℕ). Came v asked bytes (Ok u) t) (sym s.1) (x.can, x.prints))
  came (Err f) r new empty x s = failed f r new empty (x.due, x.cannot, x.refused, x.stopped) s

pub came_by : (v : Verb) (json : Bool) (told asked : Option ℕ) (bytes old text : List ℕ) (done r : Result Unit Fault) (new : List ℕ)
    → json ≡ false → told ≡ asked → old ≡ [] → LeavesStopped v false false asked bytes (Some []) (Some [])
    → Facts v json told bytes done old text → Settles done text r new → Came v asked bytes r new
came_by v json told asked bytes old text done r new j t o empty x s = came v asked bytes text done r new empty
    (subst (λ (l : List ℕ). Facts v false asked bytes done l text) o
    (subst (λ (a : Option ℕ). Facts v false a bytes done old text) t
    (subst (λ (b : Bool). Facts v b told bytes done old text) j x))) s
