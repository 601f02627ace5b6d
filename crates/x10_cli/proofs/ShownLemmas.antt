-- What the commands say that show the log of a run with threads.
use Rattle.std.proofs.Common.{◌≡◌, ℕ, Bool, List, [], ◌∷◌, ◌++◌, Option, Result, Ok, Err, sym, ap, subst, ◌∙◌, inl, inr, append_assoc}
use Rattle.std.specs.Prelude.{◌⊎◌, IfErr, OnOk}
use Rattle.std.specs.Io.KnownBytes.{Keeps}
use Rattle.std.proofs.KnownBytes.{Keeps-trans}
use Rattle.x10_kinds.specs.declared.stop.Stop.{Stop}
use Rattle.x10_kinds.specs.declared.stop.Stop.TheVariants as stop
use Rattle.x10_model.specs.declared.event.Event.{Event}
use Rattle.x10_model.specs.Worlds.{Ideal, Run, WithinBounds}
use Rattle.x10_verify.specs.Certified.{Certified}
use Rattle.x10_hall.specs.declared.turn.Turn.{Turn}
use Rattle.x10_world.specs.Opening.{IsOpenedWorld}
use Rattle.x10_world.specs.StandsForWorld.{WorldState, setting_of_world}
use Rattle.x10_world.proofs.RunLemmas.{keeps_more, run_on, setting_kept}
use Rattle.x10_workers.specs.Plays.{events_in}
use Rattle.x10_task.specs.declared.task.Verb.{Verb}
use Rattle.x10_task.specs.declared.task.Window.{Window}
use Rattle.x10_cli.specs.declared.fault.Fault.{Fault}
use Rattle.x10_cli.specs.declared.fault.Fault.TheVariants as fault
use Rattle.x10_cli.specs.Answers.{of_stop, status_of}
use Rattle.x10_cli.specs.Events.{RunsBy}
use Rattle.x10_cli.specs.Shown.{HoldsOfLog, ShowsAll, ShowsFirst, HasShownLog, HasShownSomeOfLog, IsLogOfRun, IsShownDue, IsStoppedAgain, IsStoppedAt, IsStoppedIn}
use Rattle.x10_cli.specs.Logs.{IsAuditDue}
use Rattle.x10_cli.proofs.RunLemmas.{no_file}
use Rattle.x10_cli.proofs.UndoneLemmas.{window_kept}

-- ---- faults that are due

-- a fault that is due for an audit is due where the log is shown
pub shown_audited : (bytes text : List ℕ) (f : Fault) → IsAuditDue bytes text f → IsShownDue bytes text f
shown_audited bytes text (fault.StopLimit limit) h = inl h
shown_audited bytes text fault.StopMemory h = inl h
shown_audited bytes text _ h = h

again_by : (bytes text : List ℕ) (why : Stop) → IsStoppedAgain bytes text (of_stop why) → IsShownDue bytes text (of_stop why)
again_by bytes text (stop.Limit limit) h = inr h
again_by bytes text stop.Memory h = inr h
again_by bytes text stop.Stopped h = inr h

stopped_by : (bytes text : List ℕ) (v : Certified) (places : ℕ) (turns : List Turn) (x : WorldState) (e : Fault)
    → IsLogOfRun bytes text v places turns → IsOpenedWorld v places x
    → (e ≡ fault.File) ⊎ (e ≡ fault.Memory) ⊎ IsStoppedIn x (events_in turns) e → IsShownDue bytes text e
stopped_by bytes text v places turns x e of_run opened (inl h) = subst (λ f. IsShownDue bytes text f) (sym h) tt
stopped_by bytes text v places turns x e of_run opened (inr (inl h)) = subst (λ f. IsShownDue bytes text f) (sym h) tt
stopped_by bytes text v places turns x e of_run opened (inr (inr h)) =
    let again : IsStoppedAgain bytes text e =
    record { c = v; places = places; turns = turns; of_run = of_run; first = x; opened = opened; holds = h } in
    subst (λ f. IsShownDue bytes text f) (sym h.stops.1)
    (again_by bytes text h.stops.0 (subst (λ f. IsStoppedAgain bytes text f) h.stops.1 again))

pub shown_stopped : {T : Type 0} (r : Result T Fault) (bytes text : List ℕ) (v : Certified) (places : ℕ) (turns : List Turn) (x : WorldState)
    → IsLogOfRun bytes text v places turns → IsOpenedWorld v places x
    → IfErr r (λ e. (e ≡ fault.File) ⊎ (e ≡ fault.Memory) ⊎ IsStoppedIn x (events_in turns) e) → IfErr r (IsShownDue bytes text)
shown_stopped (Ok t) bytes text v places turns x of_run opened h = tt
shown_stopped (Err e) bytes text v places turns x of_run opened h = stopped_by bytes text v places turns x e of_run opened h

-- ---- events, one after another

-- one event more was made
pub split_more : (made left rest all : List Event) (event : Event) → left ≡ event ∷ rest → made ++ left ≡ all → (made ++ event ∷ []) ++ rest ≡ all
split_more made left rest all event is split = append_assoc made (event ∷ []) rest ∙ ap (λ es. made ++ es) (sym is) ∙ split

-- or it was refused
pub stops_in : (x y : WorldState) (made left rest all : List Event) (event : Event) (e : Fault) → left ≡ event ∷ rest → made ++ left ≡ all
    → RunsBy x made y → IsStoppedAt y event e → IsStoppedIn x all e
stops_in x y made left rest all event e is split runs stops = record {
  made = made;
  event = event;
  rest = rest;
  all = ap (λ es. made ++ es) (sym is) ∙ split;
  last = y;
  runs = runs;
  stops = stops;
}

pub stops_traced : (x y : WorldState) (made left rest all : List Event) (event : Event) (e : Fault) → left ≡ event ∷ rest → made ++ left ≡ all
    → RunsBy x made y → (e ≡ fault.File) ⊎ (e ≡ fault.Memory) ⊎ IsStoppedAt y event e
    → (e ≡ fault.File) ⊎ (e ≡ fault.Memory) ⊎ IsStoppedIn x all e
stops_traced x y made left rest all event e is split runs (inl h) = inl h
stops_traced x y made left rest all event e is split runs (inr (inl h)) = inr (inl h)
stops_traced x y made left rest all event e is split runs (inr (inr h)) = inr (inr (stops_in x y made left rest all event e is split runs h))

-- what is left is named otherwise
pub split_same : (made left rest all : List Event) → left ≡ rest → made ++ left ≡ all → made ++ rest ≡ all
split_same made left rest all is split = ap (λ es. made ++ es) (sym is) ∙ split

-- ---- behind events that were skipped

pub by_both : (x y z : WorldState) (events more : List Event) → RunsBy x events y → RunsBy y more z → RunsBy x (events ++ more) z
by_both x y z events more first second = record {
  kept = keeps_more x y z first.kept second.kept;
  runs = λ w stand.
      (let a = first.runs w stand in
      let b = second.runs a.last a.stands in
      let run : Run Ideal (setting_of_world x) (WithinBounds x.bounds) a.last more b.last =
      subst (λ s. Run Ideal s (WithinBounds x.bounds) a.last more b.last) (setting_kept x y first.kept)
      (subst (λ bs. Run Ideal (setting_of_world y) (WithinBounds bs) a.last more b.last) first.kept.bounds b.run) in
      record {
        last = b.last;
        run = run_on Ideal (setting_of_world x) (WithinBounds x.bounds) w a.last b.last events more a.run run;
        stands = b.stands;
      });
}

pub stops_later : (x y : WorldState) (skipped left all : List Event) (e : Fault) → skipped ++ left ≡ all → RunsBy x skipped y
    → IsStoppedIn y left e → IsStoppedIn x all e
stops_later x y skipped left all e split runs s = record {
  made = skipped ++ s.made;
  event = s.event;
  rest = s.rest;
  all = append_assoc skipped s.made (s.event ∷ s.rest) ∙ ap (λ es. skipped ++ es) s.all ∙ split;
  last = s.last;
  runs = by_both x y s.last skipped s.made runs s.runs;
  stops = s.stops;
}

pub why_later : (x y : WorldState) (skipped left all : List Event) (r : Result Bool Fault) → skipped ++ left ≡ all → RunsBy x skipped y
    → IfErr r (λ e. (e ≡ fault.File) ⊎ (e ≡ fault.Memory) ⊎ IsStoppedIn y left e)
    → IfErr r (λ e. (e ≡ fault.File) ⊎ (e ≡ fault.Memory) ⊎ IsStoppedIn x all e)
why_later x y skipped left all (Ok t) split runs h = tt
why_later x y skipped left all (Err e) split runs (inl f) = inl f
why_later x y skipped left all (Err e) split runs (inr (inl m)) = inr (inl m)
why_later x y skipped left all (Err e) split runs (inr (inr s)) = inr (inr (stops_later x y skipped left all e split runs s))

-- ---- what a command shows

module _ {T : Type 0} (r : Result T Fault) (bytes text : List ℕ) (c : Certified) (places : ℕ) (turns : List Turn) (x : WorldState)
    (a b : Option (List ℕ)) (of_run : IsLogOfRun bytes text c places turns) (opened : IsOpenedWorld c places x) where
  -- what holds of this world and the events of these turns
  of_log : (P : WorldState → List Event → Type 0) → P x (events_in turns) → HoldsOfLog bytes text P
  of_log P h = record { c = c; places = places; turns = turns; of_run = of_run; first = x; opened = opened; holds = h }

  pub log_shown : (v : Verb) (w : Window) → OnOk r (ShowsAll v w x (events_in turns) a b) → OnOk r (HasShownLog v w bytes text a b)
  log_shown v w p = done r p
    where
      done : (q : Result T Fault) → OnOk q (ShowsAll v w x (events_in turns) a b) → OnOk q (HasShownLog v w bytes text a b)
      done (Ok t) p = of_log (λ z events. ShowsAll v w z events a b) p
      done (Err e) p = tt

  pub log_shown_some : (v : Verb) (w : Window) → IfErr r (λ e. (e ≡ fault.File) ⊎ Keeps a b ⊎ ShowsFirst v w x (events_in turns) a b)
      → IfErr r (λ e. status_of e ≡ 2 → Keeps a b ⊎ HasShownSomeOfLog v w bytes text a b)
  log_shown_some v w p = done r p
    where
      left : (e : Fault) → (e ≡ fault.File) ⊎ Keeps a b ⊎ ShowsFirst v w x (events_in turns) a b → status_of e ≡ 2
          → Keeps a b ⊎ HasShownSomeOfLog v w bytes text a b
      left e (inl f) s = absurd (no_file e f s)
      left e (inr (inl k)) s = inl k
      left e (inr (inr p)) s = inr (of_log (λ z events. ShowsFirst v w z events a b) p)

      done : (q : Result T Fault) → IfErr q (λ e. (e ≡ fault.File) ⊎ Keeps a b ⊎ ShowsFirst v w x (events_in turns) a b)
          → IfErr q (λ e. status_of e ≡ 2 → Keeps a b ⊎ HasShownSomeOfLog v w bytes text a b)
      done (Ok t) p = tt
      done (Err e) p = left e p

-- ---- what was shown stays where nothing more is written

all_kept : {v : Verb} {w : Window} {x : WorldState} {all : List Event} {a b c : Option (List ℕ)} → Keeps b c → ShowsAll v w x all a b
    → ShowsAll v w x all a c
all_kept k h = record {
  skipped = h.skipped;
  events = h.events;
  rest = h.rest;
  split = h.split;
  last = h.last;
  ended = h.ended;
  shows = window_kept k h.shows;
  ends = h.ends;
}

first_kept : {v : Verb} {w : Window} {x : WorldState} {all : List Event} {a b c : Option (List ℕ)} → Keeps b c → ShowsFirst v w x all a b
    → ShowsFirst v w x all a c
first_kept k h = record {
  skipped = h.skipped;
  events = h.events;
  rest = h.rest;
  split = h.split;
  last = h.last;
  shows = window_kept k h.shows;
}

-- something else holds of a log where it follows
log_holds : (bytes text : List ℕ) (P Q : WorldState → List Event → Type 0) → ((x : WorldState) (events : List Event) → P x events → Q x events)
    → HoldsOfLog bytes text P → HoldsOfLog bytes text Q
log_holds bytes text P Q follows h = record {
  c = h.c;
  places = h.places;
  turns = h.turns;
  of_run = h.of_run;
  first = h.first;
  opened = h.opened;
  holds = follows h.first (events_in h.turns) h.holds;
}

pub shown_kept : (v : Verb) (w : Window) (bytes text : List ℕ) (a b c : Option (List ℕ)) → HasShownLog v w bytes text a b → Keeps b c
    → HasShownLog v w bytes text a c
shown_kept v w bytes text a b c h k =
    log_holds bytes text (λ x events. ShowsAll v w x events a b) (λ x events. ShowsAll v w x events a c) (λ x events s. all_kept k s) h

pub some_shown_kept : (v : Verb) (w : Window) (bytes text : List ℕ) (a b c : Option (List ℕ)) → Keeps a b ⊎ HasShownSomeOfLog v w bytes text a b
    → Keeps b c → Keeps a c ⊎ HasShownSomeOfLog v w bytes text a c
some_shown_kept v w bytes text a b c (inl h) k = inl (Keeps-trans a b c h k)
some_shown_kept v w bytes text a b c (inr h) k = inr (log_holds bytes text (λ x events. ShowsFirst v w x events a b)
    (λ x events. ShowsFirst v w x events a c) (λ x events s. first_kept k s) h)
