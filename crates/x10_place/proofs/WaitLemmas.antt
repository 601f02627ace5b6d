-- The finishes of a stay: the last one that it opened is the first of them, and the stay may wait at its end.
use Rattle.std.proofs.Common.{◌≡◌, ◌↔◌, ℕ, suc, ◌-◌, Bool, true, false, not, IsTrue, List, ◌∷◌, length, reverse, slice_index_or, refl, sym, ◌∙◌, ap, subst, arith}
use Rattle.std.proofs.lemmas.List.{length-reverse, get_or-reverse}
use Rattle.x10_model.proofs.Found.{head_is}
use Rattle.x10_place.specs.Stays.{StayState, StoreState, HasFinish, IsDoneHere, WaitsAtFinish}

-- the last of a list is the first of its reverse
last_is : (items : List ℕ) (n d : ℕ) (outer : List ℕ) → reverse items ≡ n ∷ outer → slice_index_or items (length items - 1) d ≡ n
last_is items n d outer e =
    let long : length items ≡ suc (length outer) = sym (length-reverse items) ∙ ap length e in
    let last : length items - 1 - 0 ≡ length items - 1 = omega arith in
    ap (λ k. slice_index_or items k d) (sym last) ∙ sym (get_or-reverse items 0 d (omega (arith, long))) ∙ ap (λ ns. slice_index_or ns 0 d) e

-- the innermost finish may not end yet
pub waits_at : (t : Bool) (items : List ℕ) (number : ℕ) (a : StayState) (s : StoreState) → reverse items ≡ a.finishes
    → number ≡ slice_index_or items (length items - 1) number → HasFinish a s → (IsDoneHere s number → IsTrue t) → t ≡ false → WaitsAtFinish a s a s
waits_at t items number a s is at held done off = record {
  number = number;
  outer = held.1;
  innermost = held.2 ∙ ap (λ n. n ∷ held.1) (sym (at ∙ last_is items held.0 number held.1 (is ∙ held.2)));
  waits = λ d. absurd (let yes = done d in cc);
  stay = refl;
  store = refl;
}

-- whether the innermost finish may not end yet
pub waits_is : (t : Bool) (items : List ℕ) (number : ℕ) (a : StayState) (s : StoreState) → reverse items ≡ a.finishes
    → number ≡ slice_index_or items (length items - 1) number → HasFinish a s → (IsTrue t ↔ IsDoneHere s number)
    → IsTrue (not t) ↔ WaitsAtFinish a s a s
waits_is true items number a s is at held done = (
  λ y. absurd cc,
  λ w. absurd (w.waits (subst (λ n. IsDoneHere s n) (at ∙ last_is items held.0 number held.1 (is ∙ held.2)
      ∙ head_is held.0 w.number held.1 w.outer (sym held.2 ∙ w.innermost)) (done.0 refl))),
)
waits_is false items number a s is at held done = ((λ y. waits_at false items number a s is at held done.1 refl), (λ w. refl))
