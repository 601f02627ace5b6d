-- What a call gives whose buffer has room.
use Rattle.std.proofs.Common.{◌≡◌, ◌≤◌, ℕ, List, [], Option, Some, Result, Ok, Err, false, length, sym, subst, ◌∙◌, inr, arith}
use Rattle.std.specs.Prelude.{take, drop}
use Rattle.x10_task.specs.declared.task.Verb.{Verb}
use Rattle.x10_cli.specs.declared.fault.Fault.{Fault}
use Rattle.x10_cli.specs.declared.fault.Fault.TheVariants as fault
use Rattle.x10_cli.specs.Answers.{Prints, LeavesRefused, LeavesStopped, status_of}
use Rattle.x10_c.specs.declared.numbers.FaultNumbers.{FaultNumbers}
use Rattle.x10_c.specs.Calls.{Answers, Came, status_in, told_of}

-- no fault is told as done, or as a buffer that is too small
few : (f : Fault) → (status_of f ≡ 0 → ⊥) × (status_of f ≡ 6 → ⊥)
few (fault.Asm f) = (λ e. omega (arith, e), λ e. omega (arith, e))
few (fault.Image f) = (λ e. omega (arith, e), λ e. omega (arith, e))
few (fault.Verify f) = (λ e. omega (arith, e), λ e. omega (arith, e))
few (fault.Bounds f) = (λ e. omega (arith, e), λ e. omega (arith, e))
few fault.Places = (λ e. omega (arith, e), λ e. omega (arith, e))
few fault.Memory = (λ e. omega (arith, e), λ e. omega (arith, e))
few fault.StopMemory = (λ e. omega (arith, e), λ e. omega (arith, e))
few (fault.StopLimit l) = (λ e. omega (arith, e), λ e. omega (arith, e))
few fault.Limit = (λ e. omega (arith, e), λ e. omega (arith, e))
few fault.Turns = (λ e. omega (arith, e), λ e. omega (arith, e))
few (fault.Refused p) = (λ e. omega (arith, e), λ e. omega (arith, e))
few (fault.Differs t) = (λ e. omega (arith, e), λ e. omega (arith, e))
few fault.Thread = (λ e. omega (arith, e), λ e. omega (arith, e))
few fault.File = (λ e. omega (arith, e), λ e. omega (arith, e))
few (fault.Frame f) = (λ e. omega (arith, e), λ e. omega (arith, e))
few (fault.Log f) = (λ e. omega (arith, e), λ e. omega (arith, e))
few fault.LogImage = (λ e. omega (arith, e), λ e. omega (arith, e))
few (fault.LogDiffers t) = (λ e. omega (arith, e), λ e. omega (arith, e))
few fault.LogOpen = (λ e. omega (arith, e), λ e. omega (arith, e))

module _ (v : Verb) (asked : Option ℕ) (bytes text old new : List ℕ) (status needed : ℕ) (told : FaultNumbers) (written : take needed new ≡ text)
    (rest : drop needed new ≡ drop needed old) (fits : needed ≤ length old) where
  done_given : (u : Unit {0}) → status ≡ 0 → told ≡ told_of (Ok u) → Came v asked bytes (Ok u) text → Answers v asked bytes status told needed old new
  done_given u is say came = record {
    is_status = inr (Ok u, is);
    done = λ e. came.0;
    printed = λ e. subst (λ t. Prints v false asked bytes (Some []) (Some t)) (sym written) came.1;
    clear = λ e. say;
    refused = λ e. absurd (omega (arith, is, e));
    due = λ some small. absurd (some is);
    left_refused = λ e. absurd (omega (arith, is, e));
    left_stopped = λ e. absurd (omega (arith, is, e));
    no_text = λ e. absurd (omega (arith, is, e));
    room = record {
      fits = λ e. fits;
      rest = λ e. rest;
      small = λ e. absurd (omega (arith, is, e));
      kept = λ e. absurd (omega (arith, is, e));
    };
    wanted = λ e. absurd (omega (arith, is, e));
  }

  fault_given : (f : Fault) → status ≡ status_of f → told ≡ told_of (Err f) → Came v asked bytes (Err f) text
      → Answers v asked bytes status told needed old new
  fault_given f is say came = record {
    is_status = inr (Err f, is);
    done = λ e. absurd ((few f).0 (sym is ∙ e));
    printed = λ e. absurd ((few f).0 (sym is ∙ e));
    clear = λ e. absurd ((few f).0 (sym is ∙ e));
    refused = λ e. came.1 (sym is ∙ e);
    due = λ some small. (f, say, is, came.0);
    left_refused = λ e. subst (λ t. LeavesRefused v (Some []) (Some t)) (sym written) (came.2 (sym is ∙ e));
    left_stopped = λ e. subst (λ t. LeavesStopped v false false asked bytes (Some []) (Some t)) (sym written) (came.3 (sym is ∙ e));
    no_text = λ e. came.4 (sym is ∙ e);
    room = record {
      fits = λ e. fits;
      rest = λ e. rest;
      small = λ e. absurd ((few f).1 (sym is ∙ e));
      kept = λ e. absurd ((few f).1 (sym is ∙ e));
    };
    wanted = λ e. absurd ((few f).1 (sym is ∙ e));
  }

  pub given : (r : Result Unit Fault) → status ≡ status_in r → told ≡ told_of r → Came v asked bytes r text
      → Answers v asked bytes status told needed old new
  given (Ok u) is say came = done_given u is say came
  given (Err f) is say came = fault_given f is say came
