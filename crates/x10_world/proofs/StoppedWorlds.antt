-- What stands for a world does so after a stop, and with more room.
use Rattle.std.proofs.Common.{◌≡◌, ℕ, Bool, true, List, length, Option, Some, refl, sym, ap, subst, ◌∙◌, inl, inr}
use Rattle.std.specs.Prelude.{slice_get, slice_set}
use Rattle.std.proofs.Math.Path.{fun_ext}
use Rattle.std.proofs.lemmas.Bool.{cases_eq}
use Rattle.std.proofs.lemmas.List.{length-set}
use Rattle.x10_model.specs.Modules.{Module}
use Rattle.x10_model.specs.Places as machine
use Rattle.x10_model.specs.declared.finish.Finish.{Finish}
use Rattle.x10_model.specs.Worlds.{World}
use Rattle.x10_model.proofs.Lists.{none_some, set_off}
use Rattle.x10_finish.specs.Detection.{Told}
use Rattle.x10_finish.specs.Watching.{IsWatched}
use Rattle.x10_place.specs.StandsFor.{PlaceState, Far, StandsFor}
use Rattle.x10_flights.specs.Flights.{FlightsState, with_room}
use Rattle.x10_world.specs.Links.{AreAnswered}
use Rattle.x10_world.specs.StandsForWorld.{totals_at, kept_at, counts_in, far_in, Flies, AllStandFor}
use Rattle.x10_world.proofs.Lists.{set_here, set_either}

stopped_stands : (far : Far) (p : PlaceState) (m : machine.Place) (b : Bool) → StandsFor far p m → StandsFor far (record p { stopped = b }) m
stopped_stands far p m b s = record {
  assigned = s.assigned;
  none = s.none;
  keys = s.keys;
  some = s.some;
  site = s.site;
  heap = s.heap;
  exports = s.exports;
  opened = s.opened;
  lines = s.lines;
  tallied = s.tallied;
  booked = s.booked;
}

-- what was counted is what was counted of the place that has stopped
module _ (places : List PlaceState) (here : ℕ) (p : PlaceState) (is : slice_get places here ≡ Some p) where
  abbrev after_stop : List PlaceState
  after_stop = slice_set places here (record p { stopped = true })

  stopped_same : {X : Type 0} (part : Option PlaceState → X) → part (Some (record p { stopped = true })) ≡ part (Some p) → (id : ℕ)
      → part (slice_get after_stop id) ≡ part (slice_get places id)
  stopped_same part same id = elim (cases_eq id here) [
    | inl e ↦ ap (λ i. part (slice_get after_stop i)) e ∙ ap part (set_here places here (record p { stopped = true }) p is) ∙ same
        ∙ sym (ap part (ap (slice_get places) e ∙ is))
    | inr ne ↦ ap part (set_off places here id (record p { stopped = true }) ne)
  ]

  stopped_counts : (told : Finish → ℕ → Option Told) → counts_in after_stop told ≡ counts_in places told
  stopped_counts told =
      let totals : (λ id f. totals_at (slice_get after_stop id) f) ≡ (λ id f. totals_at (slice_get places id) f) =
      fun_ext (λ id. stopped_same totals_at refl id) in
      let kept : (λ (f : Finish). kept_at (slice_get after_stop f.home) f.number) ≡ (λ f. kept_at (slice_get places f.home) f.number) =
      fun_ext (λ f. stopped_same (λ o. kept_at o f.number) refl f.home) in
      λ j. record { totals = totals j; kept = kept j; told = told }

-- whether a place has stopped is nothing to the machine
pub stand_stopped : (program : Module) (bounds : List ℕ) (places : List PlaceState) (flights : FlightsState) (here : ℕ) (p : PlaceState) (w : World)
    → slice_get places here ≡ Some p → AllStandFor program bounds places flights w
    → AllStandFor program bounds (slice_set places here (record p { stopped = true })) flights w
stand_stopped program bounds places flights here p w is stand = record {
  some = some;
  none = λ id e. elim (cases_eq id here) [
    | inl same ↦ absurd (none_some (slice_get (after_stop places here p is) id) (record p { stopped = true }) e
        (ap (λ i. slice_get (after_stop places here p is) i) same ∙ set_here places here (record p { stopped = true }) p is))
    | inr ne ↦ stand.none id (sym (set_off places here id (record p { stopped = true }) ne) ∙ e)
  ];
  told = stand.told;
  watched = subst (λ n. IsWatched n w (counts_in (after_stop places here p is) stand.told)) (sym long)
      (subst (λ c. IsWatched (length places) w c) (sym (stopped_counts places here p is stand.told)) stand.watched);
  answered = subst (λ n. AreAnswered (record { program = program; places = n }) w.net) (sym long) stand.answered;
  budget = stand.budget;
  flies = subst (λ n. Flies program n flights w stand.told) (sym long) stand.flies;
}
  where
    long : length (slice_set places here (record p { stopped = true })) ≡ length places
    long = length-set places here (record p { stopped = true })

    some : (id : ℕ) (r : PlaceState) → slice_get (slice_set places here (record p { stopped = true })) id ≡ Some r
        → (m : machine.Place) × (w.net.places id ≡ Some m) × StandsFor (far_in w) r m
    some id r e = elim (set_either places here id (record p { stopped = true }) r p is e) [
      | inl at ↦ let old = stand.some here p is in (
        old.0,
        ap w.net.places at.0 ∙ old.1,
        subst (λ t. StandsFor (far_in w) t old.0) at.1 (stopped_stands (far_in w) p old.0 true old.2),
      )
      | inr off ↦ stand.some id r off.1
    ]

-- nor is room for frames
pub stand_roomy : (program : Module) (bounds : List ℕ) (places : List PlaceState) (flights : FlightsState) (w : World)
    → AllStandFor program bounds places flights w → AllStandFor program bounds places (with_room flights) w
stand_roomy program bounds places flights w s = record {
  some = s.some;
  none = s.none;
  told = s.told;
  watched = s.watched;
  answered = s.answered;
  budget = s.budget;
  flies = record { rising = s.flies.rising; each = s.flies.each; none = s.flies.none; unused = s.flies.unused };
}
