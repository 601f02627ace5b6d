-- What a run leaves whose events are counted.
use Rattle.std.proofs.Common.{◌≡◌, ℕ, Bool, List, Option, Some, None, Result, Ok, Err, refl, sym, ap, subst, ◌∙◌, inl, inr, arith}
use Rattle.std.specs.Prelude.{◌⊎◌, IfErr, OnOk}
use Rattle.std.specs.Io.KnownBytes.{Appends, Keeps}
use Rattle.std.proofs.KnownBytes.{Appends-kept, Keeps-trans}
use Rattle.x10_verify.specs.Certified.{Certified}
use Rattle.x10_world.specs.Endings.{IsImageOf, lines_at}
use Rattle.x10_world.specs.Opening.{IsOpenedWorld}
use Rattle.x10_world.specs.Rounds.{RunsTo}
use Rattle.x10_world.specs.StandsForWorld.{WorldState}
use Rattle.x10_world.specs.declared.rounds.Unfinished.{Unfinished}
use Rattle.x10_stats.specs.Lines.{stats_lines}
use Rattle.x10_stats.specs.Counts.{CountsState, IsCut, counts_at_first}
use Rattle.x10_task.specs.declared.task.Verb.TheVariants as verb
use Rattle.x10_cli.specs.declared.fault.Fault.{Fault}
use Rattle.x10_cli.specs.declared.fault.Fault.TheVariants as fault
use Rattle.x10_cli.specs.Answers.{IsOfModule, Prints, of_halt, places_for, status_of}
use Rattle.x10_cli.specs.Lines.{all_lines}
use Rattle.x10_cli.specs.Counts.{Course, CountsAll, CountsSome, LeavesCounts, LeavesSomeCounts, PrintsCounts}
use Rattle.x10_cli.proofs.LinesPrinted.{has_run}
use Rattle.x10_cli.proofs.RunLemmas.{no_file}

-- ---- it stays where nothing more is written

counts_kept : (m : Certified) (first : WorldState) (Went : Course) (json : Bool) (text a b c : Option (List ℕ)) → PrintsCounts m first Went json text a b
    → Keeps b c → PrintsCounts m first Went json text a c
counts_kept m first Went json text a b c p k = record {
  last = p.last;
  counts = p.counts;
  runs = p.runs;
  went = p.went;
  printed = Appends-kept a b c _ p.printed k;
  told = p.told;
}

pub all_kept : (asked : Option ℕ) (bytes : List ℕ) (Went : Certified → Course) (json : Bool) (text a b c : Option (List ℕ))
    → LeavesCounts asked bytes Went json text a b → Keeps b c → LeavesCounts asked bytes Went json text a c
all_kept asked bytes Went json text a b c p k = (p.0, p.1, p.2, p.3, counts_kept p.0 p.1 (Went p.0) json text a b c p.4 k)

pub some_kept : (asked : Option ℕ) (bytes : List ℕ) (limit : ℕ) (kept : Bool) (f : Fault) (json : Bool) (text a b c : Option (List ℕ))
    → LeavesSomeCounts asked bytes limit kept f json text a b → Keeps b c → LeavesSomeCounts asked bytes limit kept f json text a c
some_kept asked bytes limit kept f json text a b c (inl p) k = inl (p.0, p.1, Keeps-trans a b c p.2 k)
some_kept asked bytes limit kept f json text a b c (inr p) k = inr (all_kept asked bytes (CountsSome limit kept f) json text a b c p k)

-- ---- a run that has ended

pub counts_printed : (asked : Option ℕ) (bytes : List ℕ) (limit : ℕ) (kept json : Bool) (text a b : Option (List ℕ))
    → LeavesCounts asked bytes (CountsAll limit kept) json text a b → Prints verb.Run json asked bytes a b
counts_printed asked bytes limit kept json text a b p = (
  p.0,
  lines_at p.4.last.places,
  p.2,
  has_run p.0 (places_for asked p.0) p.1 p.4.last p.3 p.4.runs p.4.went.1,
  p.4.printed,
)

pub counts_left : {T : Type 0} (r : Result T Fault) (asked : Option ℕ) (bytes : List ℕ) (c : Certified) (first : WorldState) (limit : ℕ)
    (kept json : Bool) (text a b : Option (List ℕ)) → IsImageOf bytes c → IsOpenedWorld c (places_for asked c) first
    → OnOk r (PrintsCounts c first (CountsAll limit kept c) json text a b)
    → OnOk r (LeavesCounts asked bytes (CountsAll limit kept) json text a b)
counts_left (Ok t) asked bytes c first limit kept json text a b is opened p = (c, first, is, opened, p)
counts_left (Err e) asked bytes c first limit kept json text a b is opened p = tt

-- ---- one that stopped

abbrev pub Stops : Certified → WorldState → ℕ → Bool → Fault → Bool → Option (List ℕ) → Option (List ℕ) → Option (List ℕ) → Type 0
Stops c first limit kept e json text a b = (e ≡ fault.File) ⊎ ((e ≡ fault.Memory) × (text ≡ None) × Keeps a b)
    ⊎ PrintsCounts c first (CountsSome limit kept e c) json text a b

stop_left : (e : Fault) (asked : Option ℕ) (bytes : List ℕ) (c : Certified) (first : WorldState) (limit : ℕ) (kept json : Bool)
    (text a b : Option (List ℕ)) → IsImageOf bytes c → IsOpenedWorld c (places_for asked c) first → Stops c first limit kept e json text a b
    → status_of e ≡ 2 → LeavesSomeCounts asked bytes limit kept e json text a b
stop_left e asked bytes c first limit kept json text a b is opened (inl f) s = absurd (no_file e f s)
stop_left e asked bytes c first limit kept json text a b is opened (inr (inl k)) s = inl k
stop_left e asked bytes c first limit kept json text a b is opened (inr (inr p)) s = inr (c, first, is, opened, p)

pub stops_left : {T : Type 0} (r : Result T Fault) (asked : Option ℕ) (bytes : List ℕ) (c : Certified) (first : WorldState) (limit : ℕ)
    (kept json : Bool) (text a b : Option (List ℕ)) → IsImageOf bytes c → IsOpenedWorld c (places_for asked c) first
    → IfErr r (λ e. Stops c first limit kept e json text a b)
    → IfErr r (λ e. status_of e ≡ 2 → LeavesSomeCounts asked bytes limit kept e json text a b)
stops_left (Ok t) asked bytes c first limit kept json text a b is opened p = tt
stops_left (Err e) asked bytes c first limit kept json text a b is opened p = stop_left e asked bytes c first limit kept json text a b is opened p

-- ---- from what was counted

pub some_counts : (c : Certified) (first last : WorldState) (limit : ℕ) (kept : Bool) (why : Unfinished) (e : Fault) (s t : CountsState) (json : Bool)
    (text a b : Option (List ℕ)) → RunsTo first last → e ≡ of_halt why → s ≡ counts_at_first c kept first → IsCut s first limit t last why
    → Appends a b (all_lines json 0 (lines_at last.places)) → text ≡ Some (stats_lines c t last.places)
    → PrintsCounts c first (CountsSome limit kept e c) json text a b
some_counts c first last limit kept why e s t json text a b to is start cut printed told = record {
  last = last;
  counts = t;
  runs = to;
  went = (why, is, subst (λ u. IsCut u first limit t last why) start cut);
  printed = printed;
  told = told;
}

-- a fault of a module with status 2 is want of memory
pub module_memory : (e : Fault) → IsOfModule e → status_of e ≡ 2 → e ≡ fault.Memory
module_memory (fault.Image f) k s = absurd (omega (arith, s))
module_memory (fault.Verify f) k s = absurd (omega (arith, s))
module_memory fault.Memory k s = refl
module_memory _ k s = absurd k

pub opened_memory : (e : Fault) → (e ≡ fault.Places) ⊎ (e ≡ fault.Memory) → status_of e ≡ 2 → e ≡ fault.Memory
opened_memory e (inl p) s =
    let h : 1 ≡ 2 = sym (ap status_of p) ∙ s in
    absurd (omega (arith, h))
opened_memory e (inr m) s = m
