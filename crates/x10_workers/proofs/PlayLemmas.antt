-- The turns that a world of the program plays are a run of the machine.
use Rattle.std.proofs.Common.{◌≡◌, ℕ, ◌+◌, List, [], ◌∷◌, ◌++◌, map, length, sym, ap, subst, ◌∙◌}
use Rattle.std.specs.Prelude.{take}
use Rattle.std.proofs.lemmas.List.{append-nil, append_assoc, map-append}
use Rattle.std.proofs.lemmas.List.Concat.{flat_map-append}
use Rattle.x10_model.specs.declared.event.Event.{Event}
use Rattle.x10_model.specs.declared.event.Event.TheVariants.{Step, Deliver}
use Rattle.x10_model.specs.Logs.{events_of, events_of_turn}
use Rattle.x10_model.specs.Places.{Line}
use Rattle.x10_model.specs.Worlds.{World, Ideal, Happens, Run, done, WithinBounds, IsOver, opening}
use Rattle.x10_verify.specs.Certified.{Certified}
use Rattle.x10_place.specs.StandsFor.{line_as}
use Rattle.x10_hall.specs.declared.turn.Turn.{Turn}
use Rattle.x10_world.specs.declared.done.Done.{Done}
use Rattle.x10_world.specs.Endings.{AreLinesOf, lines_at}
use Rattle.x10_world.specs.Opening.{IsOpenedWorld}
use Rattle.x10_world.specs.Queries.{IsClosed}
use Rattle.x10_world.specs.StandsForWorld.{WorldState, StandsForWorld, KeepsSetting, setting_of_world}
use Rattle.x10_world.proofs.RunLemmas.{within, run_more, setting_kept, keeps_more, keeps_self}
use Rattle.x10_world.proofs.EndingLemmas.{lines_are, map_length}
use Rattle.x10_workers.specs.Plays.{turn_as, events_in, GoesBy, TakesOne, TakesFrames, takes_none, takes_more, StepsKey, StepsAll, steps_none, steps_more, PlaysTurn, Plays, plays_none, plays_more, IsPlayed}

-- so far the events are a run of the machine
record RunsTo (x : WorldState) (w : World) (events : List Event) (y : WorldState) : Type 0 where
  kept : KeepsSetting x y
  last : World
  run : Run Ideal (setting_of_world x) (WithinBounds x.bounds) w events last
  stands : StandsForWorld y last

runs_none : (x : WorldState) (w : World) → StandsForWorld x w → RunsTo x w [] x
runs_none x w stand = record { kept = keeps_self x; last = w; run = done w (within x w stand); stands = stand }

-- one event more
runs_more : (x y z : WorldState) (w : World) (events : List Event) (event : Event) (did : Done) → RunsTo x w events y → GoesBy event did y z
    → RunsTo x w (events ++ event ∷ []) z
runs_more x y z w events event did r g =
    let m = g.makes r.last r.stands in
    let own : Happens Ideal (setting_of_world x) r.last event m.0 = subst (λ s. Happens Ideal s r.last event m.0) (setting_kept x y r.kept) m.1 in
    let bounded : WithinBounds x.bounds m.0 = subst (λ bs. WithinBounds bs m.0) (g.kept.bounds ∙ r.kept.bounds) (within z m.0 m.3) in
    record {
      kept = keeps_more x y z r.kept g.kept;
      last = m.0;
      run = run_more Ideal (setting_of_world x) (WithinBounds x.bounds) w r.last m.0 events event r.run own bounded;
      stands = m.3;
    }

-- the events of one more in a list stand behind those before
snoc_events : {X : Type 0} (f : X → Event) (before : List Event) (xs : List X) (x : X)
    → (before ++ map f xs) ++ f x ∷ [] ≡ before ++ map f (xs ++ x ∷ [])
snoc_events f before xs x = append_assoc before (map f xs) (f x ∷ []) ∙ ap (λ es. before ++ es) (sym (map-append f xs (x ∷ [])))

runs_takes : (x y : WorldState) (w : World) (events : List Event) (place : ℕ) (taken : List ℕ) (z : WorldState) → RunsTo x w events y
    → TakesFrames y place taken z → RunsTo x w (events ++ map Deliver taken) z
runs_takes x y w events place [] z r takes_none = subst (λ es. RunsTo x w es y) (sym (append-nil events)) r
runs_takes x y w events place _ z r (takes_more taken number u v before one) =
    subst (λ es. RunsTo x w es z) (snoc_events Deliver events taken number)
    (runs_more x u z w (events ++ map Deliver taken) (Deliver number) _ (runs_takes x y w events place taken u r before) one)

runs_steps : (x y : WorldState) (w : World) (events : List Event) (place : ℕ) (keys : List ℕ) (z : WorldState) → RunsTo x w events y
    → StepsAll y place keys z → RunsTo x w (events ++ map (Step place) keys) z
runs_steps x y w events place [] z r steps_none = subst (λ es. RunsTo x w es y) (sym (append-nil events)) r
runs_steps x y w events place _ z r (steps_more keys key u v before one) =
    subst (λ es. RunsTo x w es z) (snoc_events (Step place) events keys key)
    (runs_more x u z w (events ++ map (Step place) keys) (Step place key) one.0 (runs_steps x y w events place keys u r before) one.1)

runs_turn : (x y z : WorldState) (w : World) (events : List Event) (t : Turn) → RunsTo x w events y → PlaysTurn y t z
    → RunsTo x w (events ++ events_of_turn (turn_as t)) z
runs_turn x y z w events t r p =
    subst (λ es. RunsTo x w es z) (append_assoc events (map Deliver t.taken.items) (map (Step t.place) t.keys))
    (runs_steps x p.middle w (events ++ map Deliver t.taken.items) t.place t.keys z
    (runs_takes x y w events t.place t.taken.items p.middle r p.takes) p.steps)

-- the events of one turn more stand behind those before
snoc_turn : (turns : List Turn) (t : Turn) → events_in turns ++ events_of_turn (turn_as t) ≡ events_in (turns ++ t ∷ [])
snoc_turn turns t =
    ap (λ es. events_in turns ++ es) (sym (append-nil (events_of_turn (turn_as t))))
    ∙ sym (ap events_of (map-append turn_as turns (t ∷ [])) ∙ flat_map-append events_of_turn (map turn_as turns) (turn_as t ∷ []))

runs_plays : (x y : WorldState) (w : World) (turns : List Turn) → StandsForWorld x w → Plays x turns y → RunsTo x w (events_in turns) y
runs_plays x y w [] stand plays_none = runs_none x w stand
runs_plays x y w _ stand (plays_more turns t u v before one) =
    subst (λ es. RunsTo x w es y) (snoc_turn turns t) (runs_turn x u y w (events_in turns) t (runs_plays x u w turns stand before) one)

-- one frame, one step, one turn more of a list
pub takes_next : (x y z : WorldState) (place : ℕ) (taken : List ℕ) (n number : ℕ) → take (n + 1) taken ≡ take n taken ++ number ∷ []
    → TakesFrames x place (take n taken) y → TakesOne y place number z → TakesFrames x place (take (n + 1) taken) z
takes_next x y z place taken n number more before one = subst (λ ns. TakesFrames x place ns z) (sym more)
    (takes_more (take n taken) number y z before one)

pub steps_next : (x y z : WorldState) (place : ℕ) (keys : List ℕ) (n key : ℕ) → take (n + 1) keys ≡ take n keys ++ key ∷ []
    → StepsAll x place (take n keys) y → StepsKey y place key z → StepsAll x place (take (n + 1) keys) z
steps_next x y z place keys n key more before one = subst (λ ks. StepsAll x place ks z) (sym more) (steps_more (take n keys) key y z before one)

pub plays_next : (x y z : WorldState) (turns : List Turn) (n : ℕ) (t : Turn) → take (n + 1) turns ≡ take n turns ++ t ∷ [] → Plays x (take n turns) y
    → PlaysTurn y t z → Plays x (take (n + 1) turns) z
plays_next x y z turns n t more before one = subst (λ ts. Plays x ts z) (sym more) (plays_more (take n turns) t y z before one)

-- a log that a world plays from its beginning to an end is a run of the machine
pub played : (c : Certified) (count : ℕ) (log : List Turn) (outputs : List (List Line)) (x y : WorldState) → IsOpenedWorld c count x → Plays x log y
    → IsClosed y.places → ((w : World) → StandsForWorld y w → IsOver w) → outputs ≡ lines_at y.places → IsPlayed c count log outputs
played c count log outputs x y opened plays closed over lines = record {
  first = x;
  final = y;
  opened = opened;
  plays = plays;
  closed = closed;
  last = made.last;
  run = run;
  stands = made.stands;
  over = over made.last made.stands;
  count_is = ap (λ ls. length ls) lines ∙ map_length (λ q. map line_as q.lines) y.places ∙ made.kept.count ∙ opened.places.count_is;
  lines = subst (λ ls. AreLinesOf ls made.last) (sym lines) (lines_are y made.last made.stands);
}
  where
    made : RunsTo x (opening (setting_of_world x) 0) (events_in log) y
    made = runs_plays x y (opening (setting_of_world x) 0) log opened.stands plays

    setting : setting_of_world x ≡ record { program = c.program; places = count }
    setting = ap (λ m. record { program = m; places = length x.places }) opened.program
        ∙ ap (λ n. record { program = c.program; places = n }) opened.places.count_is

    run : Run Ideal (record { program = c.program; places = count }) (WithinBounds c.bounds)
        (opening (record { program = c.program; places = count }) 0) (events_in log) made.last
    run = subst (λ s. Run Ideal s (WithinBounds c.bounds) (opening s 0) (events_in log) made.last) setting
        (subst (λ bs. Run Ideal (setting_of_world x) (WithinBounds bs) (opening (setting_of_world x) 0) (events_in log) made.last) opened.bounds
        made.run)
