-- What the commands say that run a module, with one thread.
use Rattle.std.proofs.Common.{◌≡◌, ℕ, Bool, false, List, Option, Result, Ok, Err, refl, sym, ap, ◌∙◌, inl, inr, arith}
use Rattle.std.specs.Prelude.{◌≢◌, ◌⊎◌, IfOk, IfErr, OnOk}
use Rattle.std.specs.Io.KnownBytes.{Appends, Keeps}
use Rattle.x10_verify.specs.Certified.{Certified}
use Rattle.x10_world.specs.Endings.{IsImageOf, lines_at}
use Rattle.x10_world.specs.Opening.{IsOpenedWorld}
use Rattle.x10_world.specs.Rounds.{NoneIsLeft, RunsTo}
use Rattle.x10_world.specs.StandsForWorld.{WorldState}
use Rattle.x10_task.specs.declared.task.Verb.TheVariants as verb
use Rattle.x10_cli.specs.Lines.{all_lines}
use Rattle.x10_cli.specs.declared.fault.Fault.{Fault}
use Rattle.x10_cli.specs.declared.fault.Fault.TheVariants as fault
use Rattle.x10_cli.specs.Answers.{IsDue, Prints, LeavesStopped, places_for, status_of}
use Rattle.x10_cli.proofs.LinesPrinted.{has_run, has_begun}

-- ---- faults of another status than 1

due_by : (asked : Option ℕ) (bytes : List ℕ) (e : Fault) → status_of e ≢ 1 → IsDue asked bytes e
due_by asked bytes (fault.Asm f) h = absurd (h refl)
due_by asked bytes (fault.Image f) h = absurd (h refl)
due_by asked bytes (fault.Verify f) h = absurd (h refl)
due_by asked bytes (fault.Bounds f) h = absurd (h refl)
due_by asked bytes fault.Places h = absurd (h refl)
due_by asked bytes (fault.Frame f) h = absurd (h refl)
due_by asked bytes (fault.Log f) h = absurd (h refl)
due_by asked bytes fault.LogImage h = absurd (h refl)
due_by asked bytes (fault.LogDiffers turn) h = absurd (h refl)
due_by asked bytes fault.LogOpen h = absurd (h refl)
due_by asked bytes _ h = tt

-- they are due whatever the file is
pub due_unless : {T : Type 0} (r : Result T Fault) (asked : Option ℕ) (bytes : List ℕ) → IfErr r (λ e. status_of e ≢ 1) → IfErr r (IsDue asked bytes)
due_unless (Ok x) asked bytes h = tt
due_unless (Err e) asked bytes h = due_by asked bytes e h

pub unless_refused : {T : Type 0} (r : Result T Fault) (A : Type 0) → IfErr r (λ e. status_of e ≢ 1) → IfErr r (λ e. status_of e ≡ 1 → A)
unless_refused (Ok x) A h = tt
unless_refused (Err e) A h = λ s. absurd (h s)

pub done_by : {T : Type 0} (r : Result T Fault) (A : Type 0) → A → IfOk r (λ _. A)
done_by (Ok x) A a = a
done_by (Err e) A a = tt

pub no_file : (e : Fault) → e ≡ fault.File → status_of e ≡ 2 → ⊥
no_file e f s =
    let h : 4 ≡ 2 = sym (ap status_of f) ∙ s in
    omega (arith, h)

-- ---- what is printed, and what is left where a run stops

pub run_printed : {T : Type 0} (json : Bool) (r : Result T Fault) (bytes : List ℕ) (v : Certified) (asked : Option ℕ) (x y : WorldState)
    (a b : Option (List ℕ)) → IsImageOf bytes v → IsOpenedWorld v (places_for asked v) x → RunsTo x y → OnOk r (NoneIsLeft y)
    → OnOk r (Appends a b (all_lines json 0 (lines_at y.places))) → OnOk r (Prints verb.Run json asked bytes a b)
run_printed json (Ok t) bytes v asked x y a b is opened to ended p = (v, lines_at y.places, is, has_run v (places_for asked v) x y opened to ended, p)
run_printed json (Err e) bytes v asked x y a b is opened to ended p = tt

run_begun : (json : Bool) (e : Fault) (bytes : List ℕ) (v : Certified) (asked : Option ℕ) (x y : WorldState) (a b : Option (List ℕ))
    → IsImageOf bytes v → IsOpenedWorld v (places_for asked v) x → RunsTo x y
    → (e ≡ fault.File) ⊎ Keeps a b ⊎ Appends a b (all_lines json 0 (lines_at y.places))
    → status_of e ≡ 2 → LeavesStopped verb.Run json false asked bytes a b
run_begun json e bytes v asked x y a b is opened to (inl f) s = absurd (no_file e f s)
run_begun json e bytes v asked x y a b is opened to (inr (inl k)) s = inl k
run_begun json e bytes v asked x y a b is opened to (inr (inr p)) s =
    inr (v, lines_at y.places, is, has_begun v (places_for asked v) x y opened to, p)

pub run_left : {T : Type 0} (json : Bool) (r : Result T Fault) (bytes : List ℕ) (v : Certified) (asked : Option ℕ) (x y : WorldState)
    (a b : Option (List ℕ)) → IsImageOf bytes v → IsOpenedWorld v (places_for asked v) x → RunsTo x y
    → IfErr r (λ e. (e ≡ fault.File) ⊎ Keeps a b ⊎ Appends a b (all_lines json 0 (lines_at y.places)))
    → IfErr r (λ e. status_of e ≡ 2 → LeavesStopped verb.Run json false asked bytes a b)
run_left json (Ok t) bytes v asked x y a b is opened to p = tt
run_left json (Err e) bytes v asked x y a b is opened to p = run_begun json e bytes v asked x y a b is opened to p
