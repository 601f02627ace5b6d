-- One place of a list has changed.
use Rattle.std.proofs.Common.{◌≡◌, ◌≢◌, ℕ, ◌≤◌, true, List, length, Option, Some, None, refl, sym, ap, subst, ◌∙◌, inl, inr, arith}
use Rattle.std.specs.Prelude.{slice_get, slice_set}
use Rattle.std.proofs.lemmas.List.{length-set}
use Rattle.x10_model.specs.Modules.{Module}
use Rattle.x10_place.specs.StandsFor.{PlaceState, Keeps}
use Rattle.x10_world.specs.StandsForWorld.{BelongsTo, BelongTo, NoneStopped}
use Rattle.x10_world.proofs.Lists.{set_either}

-- one place of the list has changed, as said, if it is there
pub record ChangesOne (Q : PlaceState → PlaceState → Type 0) (old new : List PlaceState) (id : ℕ) : Type 0 where
  pub gone : slice_get old id ≡ None → new ≡ old
  pub there : (p : PlaceState) → slice_get old id ≡ Some p → (q : PlaceState) × (new ≡ slice_set old id q) × Q p q

pub belongs_still : (program : Module) (bounds : List ℕ) (count id : ℕ) (p q : PlaceState) → Keeps p q → BelongsTo program bounds count id p
    → BelongsTo program bounds count id q
belongs_still program bounds count id p q k b = record {
  program_is = k.program ∙ b.program_is;
  bounds_are = k.bounds ∙ b.bounds_are;
  id_is = k.id ∙ b.id_is;
  places_are = k.places ∙ b.places_are;
}

-- the places keep their module, their number and how many they are
pub belong_set : (program : Module) (bounds : List ℕ) (places : List PlaceState) (here : ℕ) (p q : PlaceState) → slice_get places here ≡ Some p
    → Keeps p q → BelongTo program bounds (length places) places
    → BelongTo program bounds (length (slice_set places here q)) (slice_set places here q)
belong_set program bounds places here p q is k belong = subst (λ n. BelongTo program bounds n (slice_set places here q))
    (sym (length-set places here q)) each
  where
    each : BelongTo program bounds (length places) (slice_set places here q)
    each id r e = elim (set_either places here id q r p is e) [
      | inl at ↦ subst (λ t. BelongsTo program bounds (length places) id t) at.1
          (subst (λ i. BelongsTo program bounds (length places) i q) (sym at.0)
          (belongs_still program bounds (length places) here p q k (belong here p is)))
      | inr off ↦ belong id r off.1
    ]

pub belong_after : (program : Module) (bounds : List ℕ) (old new : List PlaceState) (here : ℕ) → BelongTo program bounds (length old) old
    → ChangesOne Keeps old new here → BelongTo program bounds (length new) new
belong_after program bounds old new here belong one = at_place (slice_get old here) refl
  where
    at_place : (o : Option PlaceState) → slice_get old here ≡ o → BelongTo program bounds (length new) new
    at_place None none = subst (λ ps. BelongTo program bounds (length ps) ps) (sym (one.gone none)) belong
    at_place (Some p) is = let t = one.there p is in subst (λ ps. BelongTo program bounds (length ps) ps) (sym t.1)
        (belong_set program bounds old here p t.0 is t.2 belong)

-- after a change that stops no place none has stopped
pub none_stopped_after : (old new : List PlaceState) (here : ℕ) → NoneStopped old → ChangesOne (λ p q. q.stopped ≢ true) old new here
    → NoneStopped new
none_stopped_after old new here none one = at_place (slice_get old here) refl
  where
    changed : (p q : PlaceState) → slice_get old here ≡ Some p → q.stopped ≢ true → NoneStopped (slice_set old here q)
    changed p q is goes id r e = elim (set_either old here id q r p is e) [
      | inl at ↦ subst (λ (t : PlaceState). t.stopped ≢ true) at.1 goes
      | inr off ↦ none id r off.1
    ]

    at_place : (o : Option PlaceState) → slice_get old here ≡ o → NoneStopped new
    at_place None gone = subst (λ ps. NoneStopped ps) (sym (one.gone gone)) none
    at_place (Some p) is = let t = one.there p is in subst (λ ps. NoneStopped ps) (sym t.1) (changed p t.0 is t.2)

pub length_after : (Q : PlaceState → PlaceState → Type 0) (old new : List PlaceState) (here : ℕ) → ChangesOne Q old new here → length new ≡ length old
length_after Q old new here one = at_place (slice_get old here) refl
  where
    at_place : (o : Option PlaceState) → slice_get old here ≡ o → length new ≡ length old
    at_place None none = ap (λ ps. length ps) (one.gone none)
    at_place (Some p) is = let t = one.there p is in ap (λ ps. length ps) t.1 ∙ length-set old here t.0

pub few_after : (Q : PlaceState → PlaceState → Type 0) (old new : List PlaceState) (here : ℕ) → ChangesOne Q old new here → length old ≤ 64
    → length new ≤ 64
few_after Q old new here one few = (let same = length_after Q old new here one in omega (arith, same, few))
