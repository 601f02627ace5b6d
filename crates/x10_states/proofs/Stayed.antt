-- Texts of stays, one after another.
use Rattle.std.proofs.Common.{◌≡◌, ℕ, ◌+◌, ◌≤◌, List, [], ◌∷◌, ◌++◌, length, map, Some, None, inl, inr, sym, subst, ◌∙◌, arith}
use Rattle.std.proofs.lemmas.List.{length-append, length-map, map-append}
use Rattle.x10_model.proofs.Lists.{last_or_before}
use Rattle.slab.specs.Slab.{get}
use Rattle.x10_place.specs.Stays.{StayState}
use Rattle.x10_place.specs.StandsFor.{PlaceState}
use Rattle.x10_verify.specs.Flows.{FlowFacts}
use Rattle.x10_states.specs.Stays.{AreListed, AreStays, IsStay}

one_listed : (flows : List FlowFacts) (p : PlaceState) (texts : List (List ℕ)) (text : List ℕ) → AreListed flows p texts
    → IsStay flows p (length texts) text → AreListed flows p (texts ++ text ∷ [])
one_listed flows p texts text a h key t there = elim (last_or_before texts text t key there) [
  | inl before ↦ a key t before
  | inr last ↦ subst (λ (u : List ℕ). IsStay flows p key u) last.1 (subst (λ (k : ℕ). IsStay flows p k text) (sym last.0) h)
]

-- the text of the next key more
pub next_listed : {S : Type 0} (bytes : S → List ℕ) (flows : List FlowFacts) (p : PlaceState) (items : List S) (text : S) (key : ℕ)
    → AreListed flows p (map bytes items) → length items ≡ key → IsStay flows p key (bytes text)
    → AreListed flows p (map bytes (items ++ text ∷ []))
next_listed bytes flows p items text key a e h =
    subst (AreListed flows p) (sym (map-append bytes items (text ∷ [])))
    (one_listed flows p (map bytes items) (bytes text) a
    (subst (λ (k : ℕ). IsStay flows p k (bytes text)) (sym e ∙ sym (length-map items bytes)) h))

-- texts of stays from key 0 on, of which the last one is in use
pub record AreSoFar (flows : List FlowFacts) (p : PlaceState) (texts : List (List ℕ)) : Type 0 where
  pub listed : AreListed flows p texts
  pub last : (key : ℕ) → length texts ≡ key + 1 → (a : StayState) × (get p.stays key ≡ Some a)

pub none_yet : (flows : List FlowFacts) (p : PlaceState) → AreSoFar flows p []
none_yet flows p = record { listed = λ key text e. absurd cc; last = λ key e. absurd (omega (arith, e)) }

pub one_used : {S : Type 0} (bytes : S → List ℕ) (flows : List FlowFacts) (p : PlaceState) (items : List S) (text : S) (key : ℕ)
    → AreListed flows p (map bytes items) → length items ≡ key → IsStay flows p key (bytes text) → (a : StayState) × (get p.stays key ≡ Some a)
    → AreSoFar flows p (map bytes (items ++ text ∷ []))
one_used bytes flows p items text key listed e h used = record {
  listed = next_listed bytes flows p items text key listed e h;
  last = λ k more. subst (λ (n : ℕ). (a : StayState) × (get p.stays n ≡ Some a))
      (omega (arith, e, more, length-map (items ++ text ∷ []) bytes, length-append items (text ∷ []))) used;
}

pub all : {S : Type 0} (bytes : S → List ℕ) (flows : List FlowFacts) (p : PlaceState) (items : List S) → AreSoFar flows p (map bytes items)
    → ((key : ℕ) → length items ≤ key → get p.stays key ≡ None) → AreStays flows p (map bytes items)
all bytes flows p items a h = record {
  listed = a.listed;
  beyond = λ key most. h key (subst (λ (n : ℕ). n ≤ key) (length-map items bytes) most);
  last = a.last;
}
