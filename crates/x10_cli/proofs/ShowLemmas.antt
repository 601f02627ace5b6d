-- What is shown of a run's events.
use Rattle.std.proofs.Common.{◌≡◌, ℕ, ◌+◌, Bool, false, List, [], ◌∷◌, ◌++◌, length, Option, Result, Ok, Err, refl, sym, ap, subst, ◌∙◌, inl, inr}
use Rattle.std.specs.Prelude.{◌≢◌, ◌⊎◌, IfOk, IfErr, OnOk}
use Rattle.std.specs.Io.KnownBytes.{Appends, Keeps}
use Rattle.std.proofs.KnownBytes.{Appends-kept, Appends-nil, Appends-trans, Keeps-trans}
use Rattle.std.proofs.lemmas.List.{append-nil}
use Rattle.x10_model.specs.declared.event.Event.{Event}
use Rattle.x10_model.specs.Modules.{Module}
use Rattle.x10_model.specs.Worlds.{World, Ideal, Happens, done, WithinBounds}
use Rattle.x10_verify.specs.Certified.{Certified}
use Rattle.x10_verify.specs.Flows.{FlowFacts}
use Rattle.x10_world.specs.declared.done.Done.{Done}
use Rattle.x10_world.specs.Endings.{IsImageOf}
use Rattle.x10_world.specs.Happenings.{HasDone}
use Rattle.x10_world.specs.Opening.{IsOpenedWorld}
use Rattle.x10_world.specs.Rounds.{NoneIsLeft}
use Rattle.x10_world.specs.StandsForWorld.{WorldState, KeepsSetting, MakesEvent, StandsForWorld, setting_of_world}
use Rattle.x10_world.proofs.RunLemmas.{keeps_more, keeps_self, run_more, setting_kept, within}
use Rattle.x10_moments.specs.Moments.{AreShown, Shown, next_moment}
use Rattle.x10_task.specs.declared.task.Verb.{Verb}
use Rattle.x10_task.specs.declared.task.Verb.TheVariants as verb
use Rattle.x10_task.specs.declared.task.Window.{Window}
use Rattle.x10_cli.specs.declared.fault.Fault.{Fault}
use Rattle.x10_cli.specs.declared.fault.Fault.TheVariants as fault
use Rattle.x10_cli.specs.Answers.{CanBeDone, LeavesAsked, LeavesShown, LeavesStopped, Prints, PrintsShown, ShowsAsked, places_for, status_of}
use Rattle.x10_cli.specs.Events.{AreTold, begins, goes_on, ByPicture, IsMannerOf, IsNextMoment, IsShowing, IsTold, Manner, RunsBy, Shows, ShowsRun, ShowsStopped, ShowsWindow, Skips, more_made, none_made}
use Rattle.x10_cli.specs.Showing.{AppendsEnd, AppendsFront, Tells, TellsEvent, TellsLog, TellsLogStopped, TellsRun, TellsStopped}
use Rattle.x10_cli.specs.Shown.{ShowsAll, ShowsFirst}
use Rattle.x10_cli.specs.Windows.{Ends, IsWindow}
use Rattle.x10_cli.proofs.RunLemmas.{no_file}
use Rattle.x10_cli.proofs.UndoneLemmas.{none_appended}

-- ---- events, one after another

pub by_none : (x : WorldState) → RunsBy x [] x
by_none x = record { kept = keeps_self x; runs = λ w stand. record { last = w; run = done w (within x w stand); stands = stand } }

pub by_more : (x y z : WorldState) (events : List Event) (event : Event) → RunsBy x events y → KeepsSetting y z
    → ((w : World) → StandsForWorld y w → MakesEvent y w event z) → RunsBy x (events ++ event ∷ []) z
by_more x y z events event before kept makes = record {
  kept = keeps_more x y z before.kept kept;
  runs = λ w stand.
      (let r = before.runs w stand in
      let m = makes r.last r.stands in
      let own : Happens Ideal (setting_of_world x) r.last event m.0 =
      subst (λ s. Happens Ideal s r.last event m.0) (setting_kept x y before.kept) m.1 in
      let bounded : WithinBounds x.bounds m.0 = subst (λ bs. WithinBounds bs m.0) (kept.bounds ∙ before.kept.bounds) (within z m.0 m.3) in
      record {
        last = m.0;
        run = run_more Ideal (setting_of_world x) (WithinBounds x.bounds) w r.last m.0 events event r.run own bounded;
        stands = m.3;
      });
}

-- none is shown of these
pub skips_none : (x : WorldState) → Skips x [] x
skips_none x = record { runs = by_none x; made = none_made x }

pub skips_more : (x y z : WorldState) (events : List Event) (event : Event) → Skips x events y → KeepsSetting y z
    → ((w : World) → StandsForWorld y w → MakesEvent y w event z) → (did : Done) → HasDone y event did z → Skips x (events ++ event ∷ []) z
skips_more x y z events event before kept makes did has_done = record {
  runs = by_more x y z events event before.runs kept makes;
  made = more_made x y z events event did before.made has_done makes;
}

pub tells_none : (m : Manner) (x : WorldState) (a : Option (List ℕ)) → Tells m x [] x a a
tells_none m x a = record { runs = by_none x; text = []; tells = begins x; printed = Appends-nil a }

pub tells_more : (m : Manner) (x y z : WorldState) (events : List Event) (event : Event) (a b c : Option (List ℕ)) → Tells m x events y a b
    → KeepsSetting y z → ((w : World) → StandsForWorld y w → MakesEvent y w event z) → TellsEvent m y event z b c
    → Tells m x (events ++ event ∷ []) z a c
tells_more m x y z events event a b c before kept makes one = record {
  runs = by_more x y z events event before.runs kept makes;
  text = before.text ++ one.text;
  tells = goes_on x y z events before.text event one.did one.text before.tells one.has_done makes one.is_told;
  printed = Appends-trans a b c before.text one.text before.printed one.printed;
}

pub tells_kept : (m : Manner) (x y : WorldState) (events : List Event) (a b c : Option (List ℕ)) → Tells m x events y a b → Keeps b c
    → Tells m x events y a c
tells_kept m x y events a b c t k = record {
  runs = t.runs;
  text = t.text;
  tells = t.tells;
  printed = Appends-kept a b c t.text t.printed k;
}

-- nothing more was told, where no write failed
pub some_told : (m : Manner) (w : Window) (n : ℕ) (e : Fault) (x y : WorldState) (events : List Event) (a b c : Option (List ℕ))
    → Tells m x events y a b → IsWindow w n (length events) → (e ≡ fault.File) ⊎ Keeps b c → (e ≡ fault.File) ⊎ TellsStopped m w n x a c
some_told m w n e x y events a b c t window (inl f) = inl f
some_told m w n e x y events a b c t window (inr k) =
    inr (record { events = events; last = y; tells = tells_kept m x y events a b c t k; window = window })

pub first_told : (m : Manner) (w : Window) (n : ℕ) (e : Fault) (x y : WorldState) (made rest all : List Event) (a b c : Option (List ℕ))
    → made ++ rest ≡ all → Tells m x made y a b → IsWindow w n (length made) → (e ≡ fault.File) ⊎ Keeps b c
    → (e ≡ fault.File) ⊎ TellsLogStopped m w n x all a c
first_told m w n e x y made rest all a b c split t window (inl f) = inl f
first_told m w n e x y made rest all a b c split t window (inr k) = inr (record {
  events = made;
  rest = rest;
  last = y;
  split = split;
  tells = tells_kept m x y made a b c t k;
  window = window;
})

-- in a manner that is the same
pub event_in : (m n : Manner) (y z : WorldState) (event : Event) (b c : Option (List ℕ)) → m ≡ n → TellsEvent m y event z b c
    → TellsEvent n y event z b c
event_in m n y z event b c e t = subst (λ k. TellsEvent k y event z b c) e t

-- ---- moments

-- what is told of an event is its moment, where what was shown before it is kept
pub moment_told : {S E : Type 0} (bytes : S → List ℕ) (r : Result S E) (program : Module) (kinds : List FlowFacts) (old new : List Shown)
    (event : Event) (did : Done) (z : WorldState) → IfOk r (λ t. bytes t ≡ 44 ∷ 10 ∷ next_moment old new event did z)
    → IfOk r (λ _. (y : WorldState) → HasDone y event did z → AreShown program kinds y.places old → AreShown program kinds z.places new)
    → IfOk r (λ t. (y : WorldState) → HasDone y event did z → AreShown program kinds y.places old
    → IsNextMoment program kinds y event did z (bytes t))
moment_told bytes (Ok t) program kinds old new event did z told places = λ y has_done shown. (
  next_moment old new event did z,
  record { old = old; before = shown; new = new; after = places y has_done shown; text_is = refl },
  told,
)
moment_told bytes (Err e) program kinds old new event did z told places = tt

-- ---- pictures

none_by : (m : Manner) (x y : WorldState) (events : List Event) (text : List ℕ) → m ≡ ByPicture → AreTold m x events text y → text ≡ []
none_by m _ _ _ _ e (begins x) = refl
none_by m _ _ _ _ e (goes_on x y z events text event did told before has_done makes is_told) =
    let same : told ≡ [] = subst (λ k. IsTold k y event did z told) e is_told in
    ap (λ t. text ++ t) same ∙ append-nil text ∙ none_by m x y events text e before

no_front : (m : Manner) (n : ℕ) (x : WorldState) (a b : Option (List ℕ)) → m ≡ ByPicture → AppendsFront m n x a b → Keeps a b
no_front m n x a b e f =
    let g : AppendsFront ByPicture n x a b = subst (λ k. AppendsFront k n x a b) e f in
    none_appended a b (subst (λ t. Appends a b t) g.1 g.2)

no_text : (m : Manner) (x y : WorldState) (events : List Event) (a b : Option (List ℕ)) → m ≡ ByPicture → Tells m x events y a b → Keeps a b
no_text m x y events a b e t = none_appended a b (subst (λ s. Appends a b s) (none_by m x y events t.text e t.tells) t.printed)

-- ---- the whole

shows : (v : Verb) (m : Manner) (ended : Bool) (n : ℕ) (x y : WorldState) (events : List Event) (a b c d : Option (List ℕ))
    → IsMannerOf v x.program m → AppendsFront m n x a b → Tells m x events y b c → AppendsEnd m ended c d → Shows v ended n x events y a d
shows v m ended n x y events a b c d is front t end = record {
  manner = m;
  is_manner = is;
  runs = t.runs;
  text = front.0 ++ (t.text ++ end.0);
  shown = record { front = front.0; told = t.text; end = end.0; begins = front.1; tells = t.tells; ends = end.1; text_is = refl };
  printed = Appends-trans a b d front.0 (t.text ++ end.0) front.2 (Appends-trans b c d t.text end.0 t.printed end.2);
}

-- ---- by command

pub can_be_shown : (v : Verb) (places : Option ℕ) (bytes : List ℕ) → IsShowing v → CanBeDone verb.Run places bytes → CanBeDone v places bytes
can_be_shown verb.Trace places bytes s h = h
can_be_shown verb.TraceVerbose places bytes s h = h
can_be_shown verb.Draw places bytes s h = h
can_be_shown verb.DrawPage places bytes s h = h
can_be_shown _ places bytes s h = absurd s

pub can_be_run : (v : Verb) (places : Option ℕ) (bytes : List ℕ) → IsShowing v → CanBeDone v places bytes → CanBeDone verb.Run places bytes
can_be_run verb.Trace places bytes s h = h
can_be_run verb.TraceVerbose places bytes s h = h
can_be_run verb.Draw places bytes s h = h
can_be_run verb.DrawPage places bytes s h = h
can_be_run _ places bytes s h = absurd s

pub asked_shown : (v : Verb) (w : Window) (asked : Option ℕ) (bytes : List ℕ) (a b : Option (List ℕ)) → PrintsShown v w asked bytes a b
    → ShowsAsked v w asked bytes a b
asked_shown verb.Trace w asked bytes a b h = h
asked_shown verb.TraceVerbose w asked bytes a b h = h
asked_shown verb.Draw w asked bytes a b h = h
asked_shown verb.DrawPage w asked bytes a b h = h
asked_shown _ w asked bytes a b h = tt

prints_shown : (v : Verb) (json : Bool) (w : Window) (asked : Option ℕ) (bytes : List ℕ) (a b : Option (List ℕ)) → IsShowing v
    → PrintsShown v w asked bytes a b → Prints v json asked bytes a b
prints_shown verb.Trace json w asked bytes a b s h = (w, h)
prints_shown verb.TraceVerbose json w asked bytes a b s h = (w, h)
prints_shown verb.Draw json w asked bytes a b s h = (w, h)
prints_shown verb.DrawPage json w asked bytes a b s h = (w, h)
prints_shown _ json w asked bytes a b s h = absurd s

pub asked_left : (v : Verb) (w : Window) (asked : Option ℕ) (bytes : List ℕ) (a b : Option (List ℕ)) → LeavesShown v w asked bytes a b
    → LeavesAsked v w asked bytes a b
asked_left verb.Trace w asked bytes a b h = h
asked_left verb.TraceVerbose w asked bytes a b h = h
asked_left verb.Draw w asked bytes a b h = h
asked_left verb.DrawPage w asked bytes a b h = h
asked_left _ w asked bytes a b h = tt

pub leaves_shown : (v : Verb) (json threads : Bool) (w : Window) (asked : Option ℕ) (bytes : List ℕ) (a b : Option (List ℕ)) → IsShowing v
    → LeavesShown v w asked bytes a b → LeavesStopped v json threads asked bytes a b
leaves_shown verb.Trace json threads w asked bytes a b s h = (w, h)
leaves_shown verb.TraceVerbose json threads w asked bytes a b s h = (w, h)
leaves_shown verb.Draw json threads w asked bytes a b s h = (w, h)
leaves_shown verb.DrawPage json threads w asked bytes a b s h = (w, h)
leaves_shown _ json threads w asked bytes a b s h = absurd s

module _ {T : Type 0} (r : Result T Fault) (v : Verb) (w : Window) (asked : Option ℕ) (bytes : List ℕ) (c : Certified) (x : WorldState)
    (a b : Option (List ℕ)) (is : IsImageOf bytes c) (opened : IsOpenedWorld c (places_for asked c) x) where
  with_all : (P : Type 0) → (PrintsShown v w asked bytes a b → P) → (y : WorldState) → OnOk r (ShowsRun v w x y a b) → OnOk r P
  with_all P then y h = done r h
    where
      done : (q : Result T Fault) → OnOk q (ShowsRun v w x y a b) → OnOk q P
      done (Ok t) p = then (c, is, record { first = x; last = y; opened = opened; shows = p })
      done (Err e) p = tt

  with_some : (P : Type 0) → (LeavesShown v w asked bytes a b → P) → IfErr r (λ e. (e ≡ fault.File) ⊎ Keeps a b ⊎ ShowsStopped v w x a b)
      → IfErr r (λ e. status_of e ≡ 2 → P)
  with_some P then h = done r h
    where
      left : (e : Fault) → (e ≡ fault.File) ⊎ Keeps a b ⊎ ShowsStopped v w x a b → status_of e ≡ 2 → P
      left e (inl f) s = absurd (no_file e f s)
      left e (inr (inl k)) s = then (inl k)
      left e (inr (inr p)) s = then (inr (c, is, record { first = x; opened = opened; shows = p }))

      done : (q : Result T Fault) → IfErr q (λ e. (e ≡ fault.File) ⊎ Keeps a b ⊎ ShowsStopped v w x a b) → IfErr q (λ e. status_of e ≡ 2 → P)
      done (Ok t) p = tt
      done (Err e) p = left e p

  pub all_printed : (json : Bool) (y : WorldState) → IsShowing v → OnOk r (ShowsRun v w x y a b) → OnOk r (Prints v json asked bytes a b)
  all_printed json y s = with_all (Prints v json asked bytes a b) (prints_shown v json w asked bytes a b s) y

  pub all_asked : (y : WorldState) → OnOk r (ShowsRun v w x y a b) → OnOk r (ShowsAsked v w asked bytes a b)
  all_asked y = with_all (ShowsAsked v w asked bytes a b) (asked_shown v w asked bytes a b) y

  pub some_left : (json threads : Bool) → IsShowing v → IfErr r (λ e. (e ≡ fault.File) ⊎ Keeps a b ⊎ ShowsStopped v w x a b)
      → IfErr r (λ e. status_of e ≡ 2 → LeavesStopped v json threads asked bytes a b)
  some_left json threads s = with_some (LeavesStopped v json threads asked bytes a b) (leaves_shown v json threads w asked bytes a b s)

  pub some_asked : IfErr r (λ e. (e ≡ fault.File) ⊎ Keeps a b ⊎ ShowsStopped v w x a b)
      → IfErr r (λ e. status_of e ≡ 2 → LeavesAsked v w asked bytes a b)
  some_asked = with_some (LeavesAsked v w asked bytes a b) (asked_left v w asked bytes a b)

-- ---- how it is closed

-- how what was shown is closed, and why it isn't
abbrev pub Closes : Manner → Result Bool Fault → Result (Unit {0}) Fault → (c d : Option (List ℕ)) → Type 0
Closes m ended r c d = OnOk r ((e : Bool) × (ended ≡ Ok e) × AppendsEnd m e c d)

abbrev pub Fails : Manner → Result Bool Fault → Result (Unit {0}) Fault → (c d : Option (List ℕ)) → Type 0
Fails m ended r c d = IfErr r (λ e. (e ≡ fault.File)
    ⊎ ((e ≡ fault.Memory) × (m ≡ ByPicture) × (ended ≢ Err fault.File) × Keeps c d)
    ⊎ ((ended ≡ Err e) × AppendsEnd m false c d))

module _ (m : Manner) (n : ℕ) (x : WorldState) (ended : Result Bool Fault) (r : Result (Unit {0}) Fault) (a b c d : Option (List ℕ))
    (front : AppendsFront m n x a b) where
  closed_all : (T : Bool → Type 0) (Q : Type 0) → ((e : Bool) → T e → AppendsEnd m e c d → Q) → IfOk ended T → Closes m ended r c d → OnOk r Q
  closed_all T Q all told end = done r end
    where
      done : (q : Result (Unit {0}) Fault) → Closes m ended q c d → OnOk q Q
      done (Ok t) p = all p.0 (subst (λ s. IfOk s T) p.1 told) p.2
      done (Err f) p = tt

  closed_some : (S : Type 0) (T : Bool → Type 0) (Q : Type 0) → (m ≡ ByPicture → S → Keeps b c) → (m ≡ ByPicture → (e : Bool) → T e → Keeps b c)
      → (S → AppendsEnd m false c d → Q) → IfOk ended T → IfErr ended (λ e. (e ≡ fault.File) ⊎ S) → Fails m ended r c d
      → IfErr r (λ e. (e ≡ fault.File) ⊎ Keeps a d ⊎ Q)
  closed_some S T Q kept_some kept_all some all told err = done r err
    where
      kept : (s : Result Bool Fault) → IfOk s T → IfErr s (λ e. (e ≡ fault.File) ⊎ S) → (s ≢ Err fault.File) → m ≡ ByPicture → Keeps b c
      kept (Ok e) t p other is = kept_all is e t
      kept (Err f) t (inl is_file) other is = absurd (other (ap Err is_file))
      kept (Err f) t (inr s) other is = kept_some is s

      left : (e : Fault) → (e ≡ fault.File) ⊎ S → AppendsEnd m false c d → (e ≡ fault.File) ⊎ Keeps a d ⊎ Q
      left e (inl f) end = inl f
      left e (inr s) end = inr (inr (some s end))

      told_by : (e : Fault) → (e ≡ fault.File) ⊎ ((e ≡ fault.Memory) × (m ≡ ByPicture) × (ended ≢ Err fault.File) × Keeps c d)
          ⊎ ((ended ≡ Err e) × AppendsEnd m false c d) → (e ≡ fault.File) ⊎ Keeps a d ⊎ Q
      told_by e (inl f) = inl f
      told_by e (inr (inl h)) =
          inr (inl (Keeps-trans a c d (Keeps-trans a b c (no_front m n x a b h.1 front) (kept ended all told h.2 h.1)) h.3))
      told_by e (inr (inr h)) = left e (subst (λ s. IfErr s (λ f. (f ≡ fault.File) ⊎ S)) h.0 told) h.1

      done : (q : Result (Unit {0}) Fault) → Fails m ended q c d → IfErr q (λ e. (e ≡ fault.File) ⊎ Keeps a d ⊎ Q)
      done (Ok u) p = tt
      done (Err e) p = told_by e p

-- what is known of a fault
pub closed_fault : (m : Manner) (ended : Result Bool Fault) (r : Result (Unit {0}) Fault) (c d : Option (List ℕ)) (P : Fault → Type 0)
    → P fault.File → P fault.Memory → IfErr ended P → Fails m ended r c d → IfErr r P
closed_fault m ended r c d P of_file of_memory told err = done r err
  where
    told_by : (e : Fault) → (e ≡ fault.File) ⊎ ((e ≡ fault.Memory) × (m ≡ ByPicture) × (ended ≢ Err fault.File) × Keeps c d)
        ⊎ ((ended ≡ Err e) × AppendsEnd m false c d) → P e
    told_by e (inl f) = subst P (sym f) of_file
    told_by e (inr (inl h)) = subst P (sym h.0) of_memory
    told_by e (inr (inr h)) = subst (λ s. IfErr s P) h.0 told

    done : (q : Result (Unit {0}) Fault) → Fails m ended q c d → IfErr q P
    done (Ok u) p = tt
    done (Err e) p = told_by e p

-- what was shown behind the events that were skipped, in the manner of its command
module _ (v : Verb) (w : Window) (p : Module) (m k : Manner) (z x y : WorldState) (skipped : List Event) (n : ℕ) (ended : Result Bool Fault)
    (r : Result (Unit {0}) Fault) (a b c d : Option (List ℕ)) (program : z.program ≡ p) (is : IsMannerOf v p m) (skips : Skips z skipped x)
    (count : length skipped ≡ n) (front : AppendsFront m n x a b) (same : k ≡ m) where
  own : IsMannerOf v x.program m
  own = subst (λ q. IsMannerOf v q m) (sym (skips.runs.kept.program ∙ program)) is

  windowed : (e : Bool) (events : List Event) (u : WorldState) → Tells m x events u b c → IsWindow w n (length events) → AppendsEnd m e c d
      → ShowsWindow v w e z skipped events u a d
  windowed e events u t window end = record {
    start = x;
    skips = skips;
    shows = subst (λ i. Shows v e i x events u a d) (sym count) (shows v m e n x u events a b c d own front t end);
    window = subst (λ i. IsWindow w i (length events)) (sym count) window;
  }

  ends_with : (e : Bool) (len : ℕ) (A : Type 0) → Ends e w (n + len) A → Ends e w (length skipped + len) A
  ends_with e len A h = subst (λ i. Ends e w (i + len) A) (sym count) h

  -- of a run
  pub run_closed : IfOk ended (TellsRun m w n x y b c) → Closes k ended r c d → OnOk r (ShowsRun v w z y a d)
  run_closed told end = closed_all m n x ended r a b c d front (TellsRun m w n x y b c) (ShowsRun v w z y a d)
      (λ e t f. record {
        skipped = skipped;
        events = t.events;
        ended = e;
        shows = windowed e t.events y t.tells t.window f;
        ends = ends_with e (length t.events) (NoneIsLeft y) t.ends;
      }) told (subst (λ i. Closes i ended r c d) same end)

  pub run_closed_some : IfOk ended (TellsRun m w n x y b c) → IfErr ended (λ e. (e ≡ fault.File) ⊎ TellsStopped m w n x b c)
      → Fails k ended r c d → IfErr r (λ e. (e ≡ fault.File) ⊎ Keeps a d ⊎ ShowsStopped v w z a d)
  run_closed_some all some err = closed_some m n x ended r a b c d front (TellsStopped m w n x b c) (TellsRun m w n x y b c)
      (ShowsStopped v w z a d) (λ e t. no_text m x t.last t.events b c e t.tells) (λ e q t. no_text m x y t.events b c e t.tells)
      (λ t f. record {
        skipped = skipped;
        events = t.events;
        last = t.last;
        shows = windowed false t.events t.last t.tells t.window f;
      }) all some (subst (λ i. Fails i ended r c d) same err)

  -- and of a log, of which these events are left
  module _ (all left : List Event) (split : skipped ++ left ≡ all) where
    whole : (events rest : List Event) → events ++ rest ≡ left → skipped ++ (events ++ rest) ≡ all
    whole events rest is_left = ap (λ es. skipped ++ es) is_left ∙ split

    pub log_closed : IfOk ended (TellsLog m w n x y left b c) → Closes k ended r c d → OnOk r (ShowsAll v w z all a d)
    log_closed told end = closed_all m n x ended r a b c d front (TellsLog m w n x y left b c) (ShowsAll v w z all a d)
        (λ e t f. record {
          skipped = skipped;
          events = t.events;
          rest = t.rest;
          split = whole t.events t.rest t.split;
          last = y;
          ended = e;
          shows = windowed e t.events y t.tells t.window f;
          ends = ends_with e (length t.events) (t.rest ≡ []) t.ends;
        }) told (subst (λ i. Closes i ended r c d) same end)

    pub log_closed_some : IfOk ended (TellsLog m w n x y left b c) → IfErr ended (λ e. (e ≡ fault.File) ⊎ TellsLogStopped m w n x left b c)
        → Fails k ended r c d → IfErr r (λ e. (e ≡ fault.File) ⊎ Keeps a d ⊎ ShowsFirst v w z all a d)
    log_closed_some told some err = closed_some m n x ended r a b c d front (TellsLogStopped m w n x left b c) (TellsLog m w n x y left b c)
        (ShowsFirst v w z all a d) (λ e t. no_text m x t.last t.events b c e t.tells) (λ e q t. no_text m x y t.events b c e t.tells)
        (λ t f. record {
          skipped = skipped;
          events = t.events;
          rest = t.rest;
          split = whole t.events t.rest t.split;
          last = t.last;
          shows = windowed false t.events t.last t.tells t.window f;
        }) told some (subst (λ i. Fails i ended r c d) same err)
