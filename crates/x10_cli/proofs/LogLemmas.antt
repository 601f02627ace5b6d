-- What the commands say of the log of a run with threads.
use Rattle.std.proofs.Common.{◌≡◌, ℕ, Bool, List, Option, Some, None, Result, Ok, Err, refl, sym, ap, subst, ◌∙◌, inl, inr, arith, [], ◌∷◌, map, suc}
use Rattle.std.specs.List.{AllByRecursion}
use Rattle.std.proofs.lemmas.Bool.{cases_lt}
use Rattle.std.specs.Prelude.{◌⊎◌, IfErr, OnOk, option_map}
use Rattle.std.specs.Io.KnownBytes.{Appends, Keeps}
use Rattle.std.proofs.KnownBytes.{Appends-kept, Keeps-trans}
use Rattle.x10_kinds.specs.declared.stop.Stop.TheVariants as stop
use Rattle.x10_model.specs.Places as machine
use Rattle.x10_model.specs.declared.limits.TheConstants.{MOST_PLACES}
use Rattle.x10_verify.specs.Certified.{Certified, IsCertified}
use Rattle.x10_hall.specs.declared.turn.Turn.{Turn}
use Rattle.x10_world.specs.Endings.{IsImageOf, lines_in}
use Rattle.x10_world.specs.Opening.{IsForbidden}
use Rattle.x10_workers.specs.Plays.{IsPlayed}
use Rattle.x10_workers.specs.Weaves.{AreWithin}
use Rattle.x10_workers.specs.Reports.{AreLinesBy, IsTold}
use Rattle.x10_workers.specs.declared.fault.AuditFault.{AuditFault}
use Rattle.x10_workers.specs.declared.fault.AuditFault.TheVariants as audit
use Rattle.x10_workers.specs.declared.halt.WorkFault.{WorkFault}
use Rattle.x10_workers.specs.declared.halt.WorkFault.TheVariants as work
use Rattle.x10_log.specs.Logs.{LogValue, spelled, turn_value, value_of}
use Rattle.x10_log.specs.Limits.{FitsLog, IsLimited, IsWithin}
use Rattle.x10_log.specs.declared.fault.LogCause.{LogCause}
use Rattle.x10_log.specs.declared.fault.LogCause.TheVariants as log
use Rattle.x10_log.specs.declared.fault.LogFault.{LogFault}
use Rattle.x10_log.specs.declared.log.Log.{Log}
use Rattle.x10_cli.specs.declared.fault.Fault.{Fault}
use Rattle.x10_cli.specs.declared.fault.Fault.TheVariants as fault
use Rattle.x10_cli.specs.Answers.{IsDue, IsOfModule, lines_told, of_audit, of_log, of_work, places_for, status_of}
use Rattle.x10_cli.specs.Lines.{all_lines}
use Rattle.x10_cli.specs.Logs.{HasAudited, HasLogText, HasLogTold, HasOtherPlaces, IsAuditDue, IsLogText, IsNoLog, IsUnplayed, LeavesEnded, LeavesLog, ReadsLog}
use Rattle.x10_cli.proofs.Answered.{refused_by}
use Rattle.x10_cli.proofs.UndoneLemmas.{kept_by, none_appended, same_status}

-- ---- a run that has ended

-- turns that are short are within the limits of a log
all_within : (places : ℕ) (turns : List Turn) → AreWithin places turns → AllByRecursion (IsWithin places) (map turn_value turns)
all_within places [] within = tt
all_within places (t ∷ ts) within =
    let first = within 0 t refl in
    (record { place = first.place; taken = first.short.few_taken; keys = first.short.few_keys }, all_within places ts (λ at u is. within (suc at) u is))

limited : (v : Certified) (digest : List ℕ) (places : ℕ) (turns : List Turn) → IsCertified v → (IsForbidden v places → ⊥) → AreWithin places turns
    → IsLimited (value_of digest places turns)
limited v digest places turns certified permitted within = record {
  some = elim (cases_lt places v.program.least_places) [
    | inl less ↦ absurd (permitted (inl less))
    | inr ge ↦ (let least = certified.fits.least_places.0 in omega (arith, ge, least))
  ];
  few = elim (cases_lt MOST_PLACES places) [
    | inl more ↦ absurd (permitted (inr more))
    | inr ge ↦ ge
  ];
  turns = all_within places turns within;
}

ended_by : (json : Bool) (bytes : List ℕ) (v : Certified) (asked : Option ℕ) (text : Option (List ℕ)) (turns : List Turn)
    (outputs : List (List machine.Line)) (a b : Option (List ℕ)) → IsImageOf bytes v → IsPlayed v (places_for asked v) turns outputs
    → (IsForbidden v (places_for asked v) → ⊥) → AreWithin (places_for asked v) turns
    → HasLogText bytes text (places_for asked v) turns → Appends a b (all_lines json 0 outputs) → LeavesEnded asked json bytes text a b
ended_by json bytes v asked None turns outputs a b is plays permitted within has p = has
ended_by json bytes v asked (Some text) turns outputs a b is plays permitted within has p = (
  v,
  record { image = is; turns = turns; log = has; outputs = outputs; plays = plays; printed = p },
  limited v has.digest (places_for asked v) turns is.certified permitted within,
)

pub run_ended : {T : Type 0} (json : Bool) (r : Result T Fault) (bytes : List ℕ) (v : Certified) (asked : Option ℕ) (n : ℕ)
    (text : Option (List ℕ)) (turns : List Turn) (outputs : List (List machine.Line)) (a b : Option (List ℕ)) → IsImageOf bytes v → n ≡ places_for asked v
    → IsPlayed v n turns outputs → (IsForbidden v n → ⊥) → AreWithin n turns → OnOk r (HasLogText bytes text n turns)
    → OnOk r (Appends a b (all_lines json 0 outputs)) → OnOk r (LeavesEnded asked json bytes text a b)
run_ended json (Ok t) bytes v asked n text turns outputs a b is en plays permitted within has p =
    ended_by json bytes v asked text turns outputs a b is (subst (λ k. IsPlayed v k turns outputs) en plays)
    (subst (λ k. IsForbidden v k → ⊥) en permitted) (subst (λ k. AreWithin k turns) en within)
    (subst (λ k. HasLogText bytes text k turns) en has) p
run_ended json (Err e) bytes v asked n text turns outputs a b is en plays permitted within has p = tt

pub ended_kept : (asked : Option ℕ) (json : Bool) (bytes : List ℕ) (text : Option (List ℕ)) (a b c : Option (List ℕ))
    → LeavesEnded asked json bytes text a b → Keeps b c → LeavesEnded asked json bytes text a c
ended_kept asked json bytes None a b c p k = p
ended_kept asked json bytes (Some text) a b c p k = (
  p.0,
  record {
    image = p.1.image;
    turns = p.1.turns;
    log = p.1.log;
    outputs = p.1.outputs;
    plays = p.1.plays;
    printed = Appends-kept a b c _ p.1.printed k;
  },
  p.2,
)

-- ---- a run that stopped

some_by : (json : Bool) (bytes : List ℕ) (v : Certified) (asked : Option ℕ) (n : ℕ) (text : Option (List ℕ)) (turns : List Turn)
    (outputs : List (List machine.Line)) (a b : Option (List ℕ)) → IsImageOf bytes v → n ≡ places_for asked v → AreLinesBy n turns outputs
    → HasLogText bytes text n turns → Appends a b (all_lines json 0 outputs) → LeavesLog asked json bytes text a b
some_by json bytes v asked n None turns outputs a b is en lines has p = absurd has
some_by json bytes v asked n (Some text) turns outputs a b is en lines has p = (
  v,
  record {
    image = is;
    turns = turns;
    log = subst (λ k. IsLogText bytes text k turns) en has;
    outputs = outputs;
    lines = subst (λ k. AreLinesBy k turns outputs) en lines;
    printed = p;
  },
)

-- without a report there is no log, and nothing was printed
none_by : (asked : Option ℕ) (json : Bool) (bytes : List ℕ) (text : Option (List ℕ)) (a b : Option (List ℕ)) → text ≡ None → Keeps a b
    → LeavesLog asked json bytes text a b
none_by asked json bytes text a b e k = subst (λ t. LeavesLog asked json bytes t a b) (sym e) k

pub log_left : (json : Bool) (bytes : List ℕ) (v : Certified) (asked : Option ℕ) (n turns : ℕ) (f : WorkFault) (text a b : Option (List ℕ))
    → IsImageOf bytes v → n ≡ places_for asked v → IsTold n turns f → HasLogTold bytes text n f → Appends a b (all_lines json 0 (lines_told f))
    → LeavesLog asked json bytes text a b
log_left json bytes v asked n turns (work.Stop place why report) text a b is en told has p =
    some_by json bytes v asked n text report.log.items (lines_in report.outputs.items) a b is en told has p
log_left json bytes v asked n turns (work.Turns report) text a b is en told has p =
    some_by json bytes v asked n text report.log.items (lines_in report.outputs.items) a b is en told.0 has p
log_left json bytes v asked n turns (work.Refused place why) text a b is en told has p = none_by asked json bytes text a b has (none_appended a b p)
log_left json bytes v asked n turns (work.Differs turn) text a b is en told has p = none_by asked json bytes text a b has (none_appended a b p)
log_left json bytes v asked n turns work.Memory text a b is en told has p = none_by asked json bytes text a b has (none_appended a b p)
log_left json bytes v asked n turns work.Places text a b is en told has p = none_by asked json bytes text a b has (none_appended a b p)
log_left json bytes v asked n turns work.Thread text a b is en told has p = none_by asked json bytes text a b has (none_appended a b p)

pub log_kept : (asked : Option ℕ) (json : Bool) (bytes : List ℕ) (text : Option (List ℕ)) (a b c : Option (List ℕ))
    → LeavesLog asked json bytes text a b → Keeps b c → LeavesLog asked json bytes text a c
log_kept asked json bytes None a b c p k = Keeps-trans a b c p k
log_kept asked json bytes (Some text) a b c p k = (
  p.0,
  record {
    image = p.1.image;
    turns = p.1.turns;
    log = p.1.log;
    outputs = p.1.outputs;
    lines = p.1.lines;
    printed = Appends-kept a b c _ p.1.printed k;
  },
)

none_of : {S : Type 0} (g : S → List ℕ) (o : Option S) → option_map g o ≡ None → o ≡ None
none_of g None e = refl
none_of g (Some x) e = absurd cc

-- a run that was refused has no log
pub no_log : {S : Type 0} (g : S → List ℕ) (bytes : List ℕ) (o : Option S) (n : ℕ) (f : WorkFault) (told : Fault) → told ≡ of_work f
    → HasLogTold bytes (option_map g o) n f → status_of told ≡ 1 → o ≡ None
no_log g bytes o n f told e h s =
    none_of g o (subst (λ (x : WorkFault). HasLogTold bytes (option_map g o) n x) (refused_by f (ap status_of (sym e) ∙ s)) h)

-- ---- an audit

pub audited_by : {T : Type 0} (json : Bool) (r : Result T Fault) (bytes text : List ℕ) (v : Certified) (l : Log)
    (outputs : List (List machine.Line)) (a b : Option (List ℕ)) → IsImageOf bytes v → ReadsLog bytes text l
    → IsPlayed v l.places l.turns.items outputs → OnOk r (Appends a b (all_lines json 0 outputs)) → OnOk r (HasAudited json bytes text a b)
audited_by json (Ok t) bytes text v l outputs a b is reads plays p = (
  v,
  l.places,
  record {
    image = is;
    turns = l.turns.items;
    log = record { digest = l.digest; is_digest = reads.is_digest; is_text = reads.is_text };
    outputs = outputs;
    plays = plays;
    printed = p;
  },
)
audited_by json (Err e) bytes text v l outputs a b is reads plays p = tt

pub audited_kept : (json : Bool) (bytes text : List ℕ) (a b c : Option (List ℕ)) → HasAudited json bytes text a b → Keeps b c
    → HasAudited json bytes text a c
audited_kept json bytes text a b c p k = (
  p.0,
  p.1,
  record {
    image = p.2.image;
    turns = p.2.turns;
    log = p.2.log;
    outputs = p.2.outputs;
    plays = p.2.plays;
    printed = Appends-kept a b c _ p.2.printed k;
  },
)

-- nothing is printed where an audit is refused or stops
pub left_by : (n : ℕ) (f : Fault) (a b c : Option (List ℕ)) → (n ≡ status_of f) ⊎ (n ≡ 4) → (n ≡ 1) ⊎ (n ≡ 2)
    → (f ≡ fault.File) ⊎ Keeps a b → Keeps b c → Keeps a c
left_by n f a b c st (inl s) k q =
    Keeps-trans a b c (kept_by f 1 a b k (same_status n 1 f st s (λ x. omega (arith, x))) (λ x. omega (arith, x))) q
left_by n f a b c st (inr s) k q =
    Keeps-trans a b c (kept_by f 2 a b k (same_status n 2 f st s (λ x. omega (arith, x))) (λ x. omega (arith, x))) q

printed_by : (bytes text : List ℕ) (e : Fault) → (e ≡ fault.File) ⊎ (e ≡ fault.Memory) → IsAuditDue bytes text e
printed_by bytes text e (inl h) = subst (IsAuditDue bytes text) (sym h) tt
printed_by bytes text e (inr h) = subst (IsAuditDue bytes text) (sym h) tt

pub due_printed : {T : Type 0} (r : Result T Fault) (bytes text : List ℕ) → IfErr r (λ e. (e ≡ fault.File) ⊎ (e ≡ fault.Memory))
    → IfErr r (IsAuditDue bytes text)
due_printed (Ok x) bytes text h = tt
due_printed (Err e) bytes text h = printed_by bytes text e h

pub due_places : (bytes text : List ℕ) (e : Fault) → e ≡ fault.Places → HasOtherPlaces bytes text → IsAuditDue bytes text e
due_places bytes text e h other = subst (IsAuditDue bytes text) (sym h) other

-- a fault of the image or its module is due for an audit too
pub due_module : (bytes text : List ℕ) (f : Fault) → IsDue None bytes f → IsOfModule f → IsAuditDue bytes text f
due_module bytes text (fault.Image f) h k = h
due_module bytes text (fault.Verify f) h k = h
due_module bytes text fault.Memory h k = tt
due_module bytes text _ h k = absurd k

log_by : (bytes text : List ℕ) (c : LogCause) (f : LogFault) → ((c ≡ log.Memory → ⊥) → IsNoLog text) → IsAuditDue bytes text (of_log c f)
log_by bytes text log.Memory f h = tt
log_by bytes text log.Head f h = h (λ e. cc)
log_by bytes text log.Place f h = h (λ e. cc)
log_by bytes text log.Taken f h = h (λ e. cc)
log_by bytes text log.Key f h = h (λ e. cc)
log_by bytes text log.Frame f h = h (λ e. cc)
log_by bytes text log.Printed f h = h (λ e. cc)
log_by bytes text log.Count f h = h (λ e. cc)
log_by bytes text log.Spelling f h = h (λ e. cc)
log_by bytes text log.Ending f h = h (λ e. cc)

pub due_log : (bytes text : List ℕ) (f : LogFault) (told : Fault)
    → ((l : LogValue) → IsLimited l → FitsLog l → text ≡ spelled l → f.cause ≡ log.Memory) → told ≡ of_log f.cause f → IsAuditDue bytes text told
due_log bytes text f told h e =
    subst (IsAuditDue bytes text) (sym e) (log_by bytes text f.cause f (λ not l limited fits is. not (h l limited fits is)))

audit_by : (bytes text : List ℕ) (why : AuditFault) → IsUnplayed bytes text why → IsAuditDue bytes text (of_audit why)
audit_by bytes text (audit.Differs turn) h = h
audit_by bytes text audit.Open h = h
audit_by bytes text (audit.Stop (stop.Limit limit)) h = h
audit_by bytes text (audit.Stop stop.Memory) h = (stop.Memory, refl, h)
audit_by bytes text (audit.Stop stop.Stopped) h = (stop.Stopped, refl, h)

pub due_audit : (bytes text : List ℕ) (why : AuditFault) (told : Fault) → IsUnplayed bytes text why → told ≡ of_audit why
    → IsAuditDue bytes text told
due_audit bytes text why told h e = subst (IsAuditDue bytes text) (sym e) (audit_by bytes text why h)
