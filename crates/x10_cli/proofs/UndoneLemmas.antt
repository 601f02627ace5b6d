-- What a command leaves that isn't done.
use Rattle.std.proofs.Common.{◌≡◌, ℕ, Bool, true, false, List, [], length, Option, Some, None, Result, Ok, Err, sym, ap, subst, ◌∙◌, inl, inr, arith, append-nil}
use Rattle.std.specs.Prelude.{◌⊎◌, IfErr}
use Rattle.std.specs.Io.KnownBytes.{Appends, Keeps}
use Rattle.std.proofs.KnownBytes.{Appends-kept, Keeps-refl, Keeps-trans}
use Rattle.x10_cli.specs.declared.fault.Fault.{Fault}
use Rattle.x10_cli.specs.declared.fault.Fault.TheVariants as fault
use Rattle.x10_task.specs.declared.task.Verb.{Verb}
use Rattle.x10_task.specs.declared.task.Verb.TheVariants as verb
use Rattle.x10_task.specs.declared.task.Window.{Window}
use Rattle.x10_cli.specs.Answers.{LeavesAsked, LeavesRefused, LeavesRun, LeavesShown, LeavesStopped, status_of}
use Rattle.x10_cli.specs.Events.{HasShownSome, Shows, ShowsWindow}
use Rattle.x10_model.specs.declared.event.Event.{Event}
use Rattle.x10_verify.specs.Certified.{Certified}
use Rattle.x10_world.specs.StandsForWorld.{WorldState}

pub kept_self : (a : Option (List ℕ)) → Keeps a a
kept_self a = Keeps-refl a

-- nothing was written, since no write failed
pub kept_by : (e : Fault) (n : ℕ) (a b : Option (List ℕ)) → (e ≡ fault.File) ⊎ Keeps a b → status_of e ≡ n → (4 ≡ n → ⊥) → Keeps a b
kept_by e n a b (inl f) s other = absurd (other (sym (ap status_of f) ∙ s))
kept_by e n a b (inr k) s other = k

-- ---- by command

pub leaves_refused : {T : Type 0} (r : Result T Fault) (v w : Verb) (a b : Option (List ℕ)) → v ≡ w → (Keeps a b → LeavesRefused w a b)
    → IfErr r (λ e. (e ≡ fault.File) ⊎ Keeps a b) → IfErr r (λ e. status_of e ≡ 1 → LeavesRefused v a b)
leaves_refused (Ok x) v w a b is leaves k = tt
leaves_refused (Err e) v w a b is leaves k = λ s. subst (λ (x : Verb). LeavesRefused x a b) (sym is)
    (leaves (kept_by e 1 a b k s (λ x. omega (arith, x))))

pub leaves_stopped : {T : Type 0} (r : Result T Fault) (v w : Verb) (json : Bool) (threads : Bool) (asked : Option ℕ) (bytes : List ℕ)
    (a b : Option (List ℕ)) → v ≡ w → (Keeps a b → LeavesStopped w json threads asked bytes a b) → IfErr r (λ e. (e ≡ fault.File) ⊎ Keeps a b)
    → IfErr r (λ e. status_of e ≡ 2 → LeavesStopped v json threads asked bytes a b)
leaves_stopped (Ok x) v w json threads asked bytes a b is leaves k = tt
leaves_stopped (Err e) v w json threads asked bytes a b is leaves k =
    λ s. subst (λ (x : Verb). LeavesStopped x json threads asked bytes a b) (sym is) (leaves (kept_by e 2 a b k s (λ x. omega (arith, x))))

-- nothing was appended
pub none_appended : (a b : Option (List ℕ)) → Appends a b [] → Keeps a b
none_appended None b p = tt
none_appended (Some x) None p = absurd p
none_appended (Some x) (Some y) p = p ∙ append-nil x

-- ---- what is left stays where nothing more is written

shows_kept : (v : Verb) (ended : Bool) (n : ℕ) (x y : WorldState) (events : List Event) (a b c : Option (List ℕ)) → Shows v ended n x events y a b
    → Keeps b c → Shows v ended n x events y a c
shows_kept v ended n x y events a b c s k = record {
  manner = s.manner;
  is_manner = s.is_manner;
  runs = s.runs;
  text = s.text;
  shown = s.shown;
  printed = Appends-kept a b c s.text s.printed k;
}

pub refused_kept : (v : Verb) (a b c : Option (List ℕ)) → LeavesRefused v a b → Keeps b c → LeavesRefused v a c
refused_kept verb.Check a b c p k = (p.0, Appends-kept a b c p.0 p.1 k)
refused_kept verb.Asm a b c p k = Keeps-trans a b c p k
refused_kept verb.List a b c p k = Keeps-trans a b c p k
refused_kept verb.ListVerbose a b c p k = Keeps-trans a b c p k
refused_kept verb.Verify a b c p k = Keeps-trans a b c p k
refused_kept verb.Bounds a b c p k = Keeps-trans a b c p k
refused_kept verb.Run a b c p k = Keeps-trans a b c p k
refused_kept verb.Runs a b c p k = Keeps-trans a b c p k
refused_kept verb.Audit a b c p k = Keeps-trans a b c p k
refused_kept verb.Trace a b c p k = Keeps-trans a b c p k
refused_kept verb.TraceVerbose a b c p k = Keeps-trans a b c p k
refused_kept verb.Draw a b c p k = Keeps-trans a b c p k
refused_kept verb.DrawPage a b c p k = Keeps-trans a b c p k
refused_kept verb.Frame a b c p k = Keeps-trans a b c p k
refused_kept verb.Explain a b c p k = Keeps-trans a b c p k

pub window_kept : {v : Verb} {w : Window} {ended : Bool} {x : WorldState} {skipped events : List Event} {y : WorldState}
    {a b c : Option (List ℕ)} → Keeps b c → ShowsWindow v w ended x skipped events y a b → ShowsWindow v w ended x skipped events y a c
window_kept {v} {w} {ended} {x} {skipped} {events} {y} {a} {b} {c} k s = record {
  start = s.start;
  skips = s.skips;
  shows = shows_kept v ended (length skipped) s.start y events a b c s.shows k;
  window = s.window;
}

some_shown : {v : Verb} {w : Window} {c : Certified} {places : ℕ} {a b d : Option (List ℕ)} → Keeps b d → HasShownSome v w c places a b
    → HasShownSome v w c places a d
some_shown k h = record {
  first = h.first;
  opened = h.opened;
  shows = record { skipped = h.shows.skipped; events = h.shows.events; last = h.shows.last; shows = window_kept k h.shows.shows };
}

left_kept : (v : Verb) (w : Window) (asked : Option ℕ) (bytes : List ℕ) (a b c : Option (List ℕ)) → Keeps b c → LeavesShown v w asked bytes a b
    → LeavesShown v w asked bytes a c
left_kept v w asked bytes a b c k (inl p) = inl (Keeps-trans a b c p k)
left_kept v w asked bytes a b c k (inr p) = inr (p.0, p.1, some_shown k p.2)

pub left_asked_kept : (v : Verb) (w : Window) (asked : Option ℕ) (bytes : List ℕ) (a b c : Option (List ℕ)) → LeavesAsked v w asked bytes a b
    → Keeps b c → LeavesAsked v w asked bytes a c
left_asked_kept verb.Trace w asked bytes a b c p k = left_kept verb.Trace w asked bytes a b c k p
left_asked_kept verb.TraceVerbose w asked bytes a b c p k = left_kept verb.TraceVerbose w asked bytes a b c k p
left_asked_kept verb.Draw w asked bytes a b c p k = left_kept verb.Draw w asked bytes a b c k p
left_asked_kept verb.DrawPage w asked bytes a b c p k = left_kept verb.DrawPage w asked bytes a b c k p
left_asked_kept verb.Run w asked bytes a b c p k = tt
left_asked_kept verb.Runs w asked bytes a b c p k = tt
left_asked_kept verb.Audit w asked bytes a b c p k = tt
left_asked_kept verb.Asm w asked bytes a b c p k = tt
left_asked_kept verb.List w asked bytes a b c p k = tt
left_asked_kept verb.ListVerbose w asked bytes a b c p k = tt
left_asked_kept verb.Check w asked bytes a b c p k = tt
left_asked_kept verb.Verify w asked bytes a b c p k = tt
left_asked_kept verb.Bounds w asked bytes a b c p k = tt
left_asked_kept verb.Frame w asked bytes a b c p k = tt
left_asked_kept verb.Explain w asked bytes a b c p k = tt

run_kept : (json : Bool) (threads : Bool) (asked : Option ℕ) (bytes : List ℕ) (a b c : Option (List ℕ)) → LeavesRun json threads asked bytes a b
    → Keeps b c → LeavesRun json threads asked bytes a c
run_kept json false asked bytes a b c p k = (p.0, p.1, p.2, p.3, Appends-kept a b c _ p.4 k)
run_kept json true asked bytes a b c p k = (p.0, p.1, p.2, p.3, p.4, Appends-kept a b c _ p.5 k)

pub stopped_kept : (v : Verb) (json : Bool) (threads : Bool) (asked : Option ℕ) (bytes : List ℕ) (a b c : Option (List ℕ))
    → LeavesStopped v json threads asked bytes a b → Keeps b c → LeavesStopped v json threads asked bytes a c
stopped_kept verb.Run json threads asked bytes a b c (inl p) k = inl (Keeps-trans a b c p k)
stopped_kept verb.Run json threads asked bytes a b c (inr p) k = inr (run_kept json threads asked bytes a b c p k)
stopped_kept verb.Trace json threads asked bytes a b c p k = (p.0, left_kept verb.Trace p.0 asked bytes a b c k p.1)
stopped_kept verb.TraceVerbose json threads asked bytes a b c p k = (p.0, left_kept verb.TraceVerbose p.0 asked bytes a b c k p.1)
stopped_kept verb.Draw json threads asked bytes a b c p k = (p.0, left_kept verb.Draw p.0 asked bytes a b c k p.1)
stopped_kept verb.DrawPage json threads asked bytes a b c p k = (p.0, left_kept verb.DrawPage p.0 asked bytes a b c k p.1)
stopped_kept verb.Runs json threads asked bytes a b c p k = Keeps-trans a b c p k
stopped_kept verb.Audit json threads asked bytes a b c p k = Keeps-trans a b c p k
stopped_kept verb.Asm json threads asked bytes a b c p k = Keeps-trans a b c p k
stopped_kept verb.List json threads asked bytes a b c p k = Keeps-trans a b c p k
stopped_kept verb.ListVerbose json threads asked bytes a b c p k = Keeps-trans a b c p k
stopped_kept verb.Check json threads asked bytes a b c p k = (p.0, Appends-kept a b c p.0 p.1 k)
stopped_kept verb.Verify json threads asked bytes a b c p k = Keeps-trans a b c p k
stopped_kept verb.Bounds json threads asked bytes a b c p k = Keeps-trans a b c p k
stopped_kept verb.Frame json threads asked bytes a b c p k = Keeps-trans a b c p k
stopped_kept verb.Explain json threads asked bytes a b c p k = Keeps-trans a b c p k

-- ---- a check

reported_by : (e : Fault) (n : ℕ) (a b : Option (List ℕ)) → (e ≡ fault.File) ⊎ ((text : List ℕ) × Appends a b text) → status_of e ≡ n → (4 ≡ n → ⊥)
    → (text : List ℕ) × Appends a b text
reported_by e n a b (inl f) s other = absurd (other (sym (ap status_of f) ∙ s))
reported_by e n a b (inr k) s other = k

pub report_refused : {T : Type 0} (r : Result T Fault) (v : Verb) (a b : Option (List ℕ)) → v ≡ verb.Check
    → IfErr r (λ e. (e ≡ fault.File) ⊎ ((text : List ℕ) × Appends a b text)) → IfErr r (λ e. status_of e ≡ 1 → LeavesRefused v a b)
report_refused (Ok x) v a b is h = tt
report_refused (Err e) v a b is h = λ s. subst (λ (x : Verb). LeavesRefused x a b) (sym is) (reported_by e 1 a b h s (λ x. omega (arith, x)))

pub report_stopped : {T : Type 0} (r : Result T Fault) (v : Verb) (json : Bool) (threads : Bool) (asked : Option ℕ) (bytes : List ℕ)
    (a b : Option (List ℕ)) → v ≡ verb.Check → IfErr r (λ e. (e ≡ fault.File) ⊎ ((text : List ℕ) × Appends a b text))
    → IfErr r (λ e. status_of e ≡ 2 → LeavesStopped v json threads asked bytes a b)
report_stopped (Ok x) v json threads asked bytes a b is h = tt
report_stopped (Err e) v json threads asked bytes a b is h =
    λ s. subst (λ (x : Verb). LeavesStopped x json threads asked bytes a b) (sym is) (reported_by e 2 a b h s (λ x. omega (arith, x)))

-- ---- a run

pub run_refused : {T : Type 0} (r : Result T Fault) (v w : Verb) (a b : Option (List ℕ)) → v ≡ w → (Keeps a b → LeavesRefused w a b)
    → IfErr r (λ e. status_of e ≡ 1 → Keeps a b) → IfErr r (λ e. status_of e ≡ 1 → LeavesRefused v a b)
run_refused (Ok x) v w a b is leaves k = tt
run_refused (Err e) v w a b is leaves k = λ s. subst (λ (x : Verb). LeavesRefused x a b) (sym is) (leaves (k s))

pub run_stopped : {T : Type 0} (r : Result T Fault) (v w : Verb) (json : Bool) (threads told : Bool) (asked : Option ℕ) (bytes : List ℕ)
    (a b : Option (List ℕ)) → v ≡ w → threads ≡ told → IfErr r (λ e. status_of e ≡ 2 → LeavesStopped w json told asked bytes a b)
    → IfErr r (λ e. status_of e ≡ 2 → LeavesStopped v json threads asked bytes a b)
run_stopped (Ok x) v w json threads told asked bytes a b is same k = tt
run_stopped (Err e) v w json threads told asked bytes a b is same k =
    λ s. subst (λ (x : Verb). LeavesStopped x json threads asked bytes a b) (sym is)
    (subst (λ (t : Bool). LeavesStopped w json t asked bytes a b) (sym same) (k s))

-- ---- statuses

pub file_by : (e : Fault) (n : ℕ) → e ≡ fault.File → status_of e ≡ n → (4 ≡ n → ⊥) → ⊥
file_by e n f s other = other (sym (ap status_of f) ∙ s)

pub same_status : (n k : ℕ) (f : Fault) → (n ≡ status_of f) ⊎ (n ≡ 4) → n ≡ k → (4 ≡ k → ⊥) → status_of f ≡ k
same_status n k f (inl e) s other = sym e ∙ s
same_status n k f (inr e) s other = absurd (other (sym e ∙ s))

-- at status 1 and 2 no write failed
pub told_status : (n : ℕ) (f : Fault) → (n ≡ status_of f) ⊎ (n ≡ 4) → (n ≡ 1) ⊎ (n ≡ 2) → n ≡ status_of f
told_status n f (inl e) s = e
told_status n f (inr e) (inl s) = absurd (let h : 4 ≡ 1 = sym e ∙ s in omega (arith, h))
told_status n f (inr e) (inr s) = absurd (let h : 4 ≡ 2 = sym e ∙ s in omega (arith, h))

pub no_failure : (n : ℕ) → (n ≡ 1) ⊎ (n ≡ 2) → n ≡ 4 → ⊥
no_failure n (inl s) e =
    let h : 4 ≡ 1 = sym e ∙ s in
    omega (arith, h)
no_failure n (inr s) e =
    let h : 4 ≡ 2 = sym e ∙ s in
    omega (arith, h)
