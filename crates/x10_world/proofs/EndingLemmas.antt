-- The ending of a run of the program is that of a run of the machine.
use Rattle.std.proofs.Common.{◌≡◌, ◌↔◌, ℕ, ◌<◌, zero, suc, true, List, [], ◌∷◌, length, map, Option, Some, None, refl, sym, ap, subst, ◌∙◌, inl, inr}
use Rattle.std.specs.Prelude.{IsTrue, IfSome, slice_get, slice_set, take}
use Rattle.std.proofs.lemmas.Bool.{cases_eq}
use Rattle.std.proofs.lemmas.Option.{same_Some}
use Rattle.x10_kinds.specs.declared.stop.Stop.{Stop}
use Rattle.x10_model.specs.declared.event.Event.{Event}
use Rattle.x10_model.specs.Places as machine
use Rattle.x10_model.specs.Places.{Setting}
use Rattle.x10_model.specs.Worlds.{World, Ideal, Run, WithinBounds, IsOver, opening}
use Rattle.x10_model.proofs.Lists.{none_some, set_off}
use Rattle.x10_verify.specs.Certified.{Certified}
use Rattle.x10_place.specs.Stays.{IsDoneHere}
use Rattle.x10_place.specs.StandsFor.{PlaceState, line_as, store_of}
use Rattle.x10_world.specs.declared.ending.Ending.{Ending}
use Rattle.x10_world.specs.Opening.{IsOpenedWorld, IsForbidden}
use Rattle.x10_world.specs.Endings.{IsEndingOf, IsHinderedNext, AreLinesOf, lines_at}
use Rattle.x10_world.specs.Queries.{IsClosed}
use Rattle.x10_world.specs.StandsForWorld.{WorldState, KeepsSetting, setting_of_world, StandsForWorld}
use Rattle.x10_world.specs.Runs.{AreHalted, Course, Runs, IsHaltedAt}
use Rattle.x10_world.proofs.Lists.{set_here, set_either}
use Rattle.x10_world.proofs.Courses.{stop_stands}

get_map : {X Y : Type 0} (f : X → Y) (xs : List X) (i : ℕ) (x : X) → slice_get xs i ≡ Some x → slice_get (map f xs) i ≡ Some (f x)
get_map f [] i x e = absurd cc
get_map f (y ∷ ys) zero x e = ap (λ z. Some (f z)) (same_Some y x e)
get_map f (y ∷ ys) (suc i) x e = get_map f ys i x e

pub map_length : {X Y : Type 0} (f : X → Y) (xs : List X) → length (map f xs) ≡ length xs
map_length f [] = refl
map_length f (x ∷ xs) = ap suc (map_length f xs)

-- the places' lines are those of the machine's places
pub lines_are : (y : WorldState) (w : World) → StandsForWorld y w → AreLinesOf (lines_at y.places) w
lines_are y w stand id m there = go (slice_get y.places id) refl
  where
    go : (o : Option PlaceState) → slice_get y.places id ≡ o → slice_get (lines_at y.places) id ≡ Some m.lines
    go None none = absurd (none_some (w.net.places id) m (stand.none id none) there)
    go (Some p) is =
        let old = stand.some id p is in
        let same = same_Some old.0 m (sym old.1 ∙ there) in
        get_map (λ q. map line_as q.lines) y.places id p is ∙ ap Some (sym old.2.lines ∙ ap (λ (n : machine.Place). n.lines) same)

-- ---- whether the run has ended is the same after a Stop

closed_halted : (x : WorldState) (event : Event) (new : List PlaceState) → AreHalted x event new → IsClosed new ↔ IsClosed x.places
closed_halted x event new (inl same) = subst (λ ps. IsClosed ps ↔ IsClosed x.places) (sym same) ((λ h. h), (λ h. h))
closed_halted x event new (inr (id, p, names, there, is)) = subst (λ ps. IsClosed ps ↔ IsClosed x.places) (sym is) (
  (λ h q at. elim (cases_eq 0 id) [
    | inl here ↦ subst (λ (r : PlaceState). IsDoneHere (store_of r) 0) (same_Some p q (sym there ∙ ap (λ i. slice_get x.places i) (sym here) ∙ at))
        (h stopped (ap (λ i. slice_get halted i) here ∙ set_here x.places id stopped p there))
    | inr off ↦ h q (set_off x.places id 0 stopped off ∙ at)
  ]),
  (λ h q at. elim (set_either x.places id 0 stopped q p there at) [
    | inl here ↦ subst (λ (r : PlaceState). IsDoneHere (store_of r) 0) here.1 (h p (ap (λ i. slice_get x.places i) here.0 ∙ there))
    | inr off ↦ h q off.1
  ]),
)
  where
    stopped : PlaceState
    stopped = record p { stopped = true }

    halted : List PlaceState
    halted = slice_set x.places id stopped

-- ---- the ending

-- what the events that were made lead to: the state that the world was left in, or that before the event that was refused
record IsLed (c : Certified) (count : ℕ) (events : List Event) (x y : WorldState) (e : Ending) : Type 0 where
  final : WorldState
  runs : (w : World) → StandsForWorld x w → Runs x w e.done events final
  hindered : IfSome e.stop (IsHinderedNext final events e.done)
  closed_is : IsClosed y.places ↔ IsClosed final.places
  flying : y.flights.flying ≡ final.flights.flying
  stands : (w : World) → StandsForWorld final w → StandsForWorld y w

led_by : (c : Certified) (count : ℕ) (events : List Event) (x y : WorldState) (e : Ending) (o : Option Stop) → e.stop ≡ o
    → (e.stop ≡ None → (w : World) → StandsForWorld x w → Runs x w e.done events y) → IfSome e.stop (IsHaltedAt x events e.done y)
    → IsLed c count events x y e
led_by c count events x y e None none runs halted = record {
  final = y;
  runs = runs none;
  hindered = subst (λ o. IfSome o (IsHinderedNext y events e.done)) (sym none) tt;
  closed_is = ((λ h. h), (λ h. h));
  flying = refl;
  stands = λ w stand. stand;
}
led_by c count events x y e (Some why) some runs halted =
    let h = subst (λ o. IfSome o (IsHaltedAt x events e.done y)) some halted in
    record {
      final = h.state;
      runs = h.runs;
      hindered = subst (λ o. IfSome o (IsHinderedNext h.state events e.done)) (sym some) (h.event, h.is_next, h.stops.hindered);
      closed_is = closed_halted h.state h.event y.places h.stops.places;
      flying = h.stops.flights.flying;
      stands = λ w stand. stop_stands h.state y h.event why w h.stops stand;
    }

pub ending_is : (c : Certified) (count : ℕ) (events : List Event) (x y : WorldState) (outputs : List (List machine.Line)) (e : Ending)
    → IsOpenedWorld c count x
    → (e.stop ≡ None → (w : World) → StandsForWorld x w → Runs x w e.done events y) → IfSome e.stop (IsHaltedAt x events e.done y)
    → (e.stop ≡ None → e.done ≡ length events) → IfSome e.stop (λ stop. e.done < length events) → (IsForbidden c count → ⊥) → KeepsSetting x y
    → outputs ≡ lines_at y.places
    → IsTrue e.closed ↔ IsClosed y.places → ((w : World) → StandsForWorld y w → IsTrue e.closed → IsOver w)
    → ((w : World) → StandsForWorld y w → IsOver w → y.flights.flying ≡ [] → IsTrue e.closed) → IsEndingOf c count events outputs e
ending_is c count events x y outputs e opened runs halted all less permitted kept lines closed ended over = record {
  last = made.last;
  run = run;
  first = x;
  opened = opened;
  final = led.final;
  course = course;
  stands = made.stands;
  permitted = permitted;
  all = all;
  less = less;
  hindered = led.hindered;
  count_is = ap (λ ls. length ls) lines ∙ map_length (λ q. map line_as q.lines) y.places ∙ kept.count ∙ opened.places.count_is;
  lines = subst (λ ls. AreLinesOf ls made.last) (sym lines) (lines_are y made.last (led.stands made.last made.stands));
  closed = ((λ t. led.closed_is.0 (closed.0 t)), (λ h. closed.1 (led.closed_is.1 h)));
  ended = ended made.last (led.stands made.last made.stands);
  over = λ is_over still. over made.last (led.stands made.last made.stands) is_over (led.flying ∙ still);
}
  where
    led : IsLed c count events x y e
    led = led_by c count events x y e e.stop refl runs halted

    made : Runs x (opening (setting_of_world x) 0) e.done events led.final
    made = led.runs (opening (setting_of_world x) 0) opened.stands

    setting : setting_of_world x ≡ record { program = c.program; places = count }
    setting = ap (λ m. record { program = m; places = length x.places }) opened.program
        ∙ ap (λ n. record { program = c.program; places = n }) opened.places.count_is

    run : Run Ideal (record { program = c.program; places = count }) (WithinBounds c.bounds)
        (opening (record { program = c.program; places = count }) 0) (take e.done events) made.last
    run = subst (λ s. Run Ideal s (WithinBounds c.bounds) (opening s 0) (take e.done events) made.last) setting
        (subst (λ bs. Run Ideal (setting_of_world x) (WithinBounds bs) (opening (setting_of_world x) 0) (take e.done events) made.last)
        opened.bounds made.run)

    course : Course (record { program = c.program; places = count }) c.bounds x (opening (record { program = c.program; places = count }) 0)
        (take e.done events) led.final made.last
    course = subst (λ s. Course s c.bounds x (opening s 0) (take e.done events) led.final made.last) setting
        (subst (λ bs. Course (setting_of_world x) bs x (opening (setting_of_world x) 0) (take e.done events) led.final made.last) opened.bounds
        made.course)
