use Rattle.std.specs.Prelude.{◌≡◌, ℕ, Some, length, slice_get}
use Rattle.x10_place.specs.StandsFor.{PlaceState}
use Rattle.x10_world.specs.Opening.{IsOpenedPlace}
use Rattle.x10_world.proofs.opening.places_of.Given as goal

abbrev pub invariant-loop-id : goal.invariant-loop-id
invariant-loop-id l = record {
  count : length l.list.items ≡ l.id;
  each : (id : ℕ) (p : PlaceState) → slice_get l.list.items id ≡ Some p → IsOpenedPlace l.verified l.count id p;
}
