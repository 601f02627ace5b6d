-- What can be decided of lists, numbers and options, one by one.
use Rattle.std.proofs.Common.{◌≡◌, ◌⊎◌, ℕ, zero, suc, ◌+◌, ◌<◌, List, [], ◌∷◌, length, Option, Some, None, refl, sym, ap, subst, inl, inr, arith}
use Rattle.std.proofs.lemmas.Bool.{cases_lt}
use Rattle.std.proofs.lemmas.Option.{same_Some}
use Rattle.x10_model.specs.Maps.{IsIn, Pairwise}
use Rattle.x10_model.proofs.Decided.{both_or_not}

abbrev pub OrNot : Type 0 → Type 0
OrNot A = A ⊎ (A → ⊥)

pub same_as : {A B : Type 0} → (A → B) → (B → A) → OrNot A → OrNot B
same_as there back (inl a) = inl (there a)
same_as there back (inr n) = inr (λ b. n (back b))

pub either_or_not : {A B : Type 0} → OrNot A → OrNot B → OrNot (A ⊎ B)
either_or_not (inl a) b = inl (inl a)
either_or_not (inr n) (inl b) = inl (inr b)
either_or_not (inr n) (inr m) = inr (λ h. elim h [ inl a ↦ n a | inr b ↦ m b ])

-- ---- options

-- there is something with the property, or not
pub some_or_not : {X : Type 0} (o : Option X) (P : X → Type 0) → ((x : X) → OrNot (P x)) → OrNot ((x : X) × (o ≡ Some x) × P x)
some_or_not None P each = inr (λ h. absurd (let e = h.1 in cc))
some_or_not (Some y) P each = elim (each y) [
  | inl p ↦ inl (y, refl, p)
  | inr n ↦ inr (λ h. n (subst P (sym (same_Some y h.0 h.1)) h.2))
]

-- ---- lists

pub in_nil : {X : Type 0} (x : X) → IsIn x [] → ⊥
in_nil x (i, e) = absurd cc

pub in_cons : {X : Type 0} (y x : X) (xs : List X) → IsIn y (x ∷ xs) → (y ≡ x) ⊎ IsIn y xs
in_cons y x xs (zero, e) = inl (sym (same_Some x y e))
in_cons y x xs (suc i, e) = inr (i, e)

pub in_later : {X : Type 0} (y x : X) (xs : List X) → IsIn y xs → IsIn y (x ∷ xs)
in_later y x xs (i, e) = (suc i, e)

pub of_each : {X : Type 0} (P : X → Type 0) (x : X) (xs : List X) → P x → ((y : X) → IsIn y xs → P y) → (y : X) → IsIn y (x ∷ xs) → P y
of_each P x xs p rest y h = elim (in_cons y x xs h) [ inl e ↦ subst P (sym e) p | inr t ↦ rest y t ]

pub member_or_not : {X : Type 0} (x : X) → ((y : X) → OrNot (y ≡ x)) → (xs : List X) → OrNot (IsIn x xs)
member_or_not x same [] = inr (in_nil x)
member_or_not x same (y ∷ ys) = elim (same y) [
  | inl e ↦ inl (zero, ap Some e)
  | inr n ↦ elim (member_or_not x same ys) [
    | inl h ↦ inl (in_later x y ys h)
    | inr m ↦ inr (λ h. elim (in_cons x y ys h) [ inl e ↦ n (sym e) | inr t ↦ m t ])
  ]
]

pub every_in : {X : Type 0} (P : X → Type 0) → ((x : X) → OrNot (P x)) → (xs : List X) → OrNot ((x : X) → IsIn x xs → P x)
every_in P each [] = inl (λ x h. absurd (in_nil x h))
every_in P each (x ∷ xs) = elim (each x) [
  | inr n ↦ inr (λ all. n (all x (zero, refl)))
  | inl p ↦ elim (every_in P each xs) [
    | inr n ↦ inr (λ all. n (λ y h. all y (in_later y x xs h)))
    | inl rest ↦ inl (of_each P x xs p rest)
  ]
]

pub pairwise_or_not : {X Y : Type 0} (R : X → Y → Type 0) → ((x : X) (y : Y) → OrNot (R x y)) → (xs : List X) (ys : List Y) → OrNot (Pairwise R xs ys)
pairwise_or_not R each [] [] = inl tt
pairwise_or_not R each [] (y ∷ ys) = inr (λ h. h)
pairwise_or_not R each (x ∷ xs) [] = inr (λ h. h)
pairwise_or_not R each (x ∷ xs) (y ∷ ys) = both_or_not (each x y) (pairwise_or_not R each xs ys)

-- an item with the property, and the others
pub record Picked {X : Type 0} (P : X → Type 0) (xs : List X) : Type 0 where
  pub item : X
  pub holds : P item
  pub others : List X
  pub shorter : length xs ≡ length others + 1
  pub kept : (y : X) → IsIn y xs → (y ≡ item) ⊎ IsIn y others

kept_later : {X : Type 0} (P : X → Type 0) (x : X) (xs : List X) (p : Picked P xs) (y : X) → IsIn y (x ∷ xs) → (y ≡ p.item) ⊎ IsIn y (x ∷ p.others)
kept_later P x xs p y h = elim (in_cons y x xs h) [
  | inl e ↦ inr (zero, ap Some (sym e))
  | inr t ↦ elim (p.kept y t) [ inl e ↦ inl e | inr o ↦ inr (in_later y x p.others o) ]
]

pub picked_or_none : {X : Type 0} (P : X → Type 0) → ((x : X) → OrNot (P x)) → (xs : List X) → Picked P xs ⊎ ((x : X) → IsIn x xs → P x → ⊥)
picked_or_none P each [] = inr (λ x h p. in_nil x h)
picked_or_none P each (x ∷ xs) = elim (each x) [
  | inl p ↦ inl (record { item = x; holds = p; others = xs; shorter = omega arith; kept = λ y h. in_cons y x xs h })
  | inr n ↦ elim (picked_or_none P each xs) [
    | inl p ↦ inl (record { item = p.item; holds = p.holds; others = x ∷ p.others; shorter = omega (arith, p.shorter); kept = kept_later P x xs p })
    | inr none ↦ inr (of_each (λ y. P y → ⊥) x xs n none)
  ]
]

-- ---- numbers below another

pub every_below : (P : ℕ → Type 0) (n : ℕ) → ((k : ℕ) → k < n → OrNot (P k)) → OrNot ((k : ℕ) → k < n → P k)
every_below P zero each = inl (λ k lt. absurd (omega arith))
every_below P (suc n) each = elim (every_below P n (λ k lt. each k (omega arith))) [
  | inr never ↦ inr (λ all. never (λ k lt. all k (omega arith)))
  | inl below ↦ elim (each n (omega arith)) [
    | inr never ↦ inr (λ all. never (all n (omega arith)))
    | inl here ↦ inl (λ k lt. elim (cases_lt k n) [ inl less ↦ below k less | inr le ↦ (let e : n ≡ k = omega arith in subst P e here) ])
  ]
]

pub some_below : (P : ℕ → Type 0) (n : ℕ) → ((k : ℕ) → k < n → OrNot (P k)) → OrNot ((k : ℕ) × (k < n) × P k)
some_below P zero each = inr (λ h. absurd (let lt = h.1 in omega arith))
some_below P (suc n) each = elim (each n (omega arith)) [
  | inl here ↦ inl (n, omega arith, here)
  | inr never ↦ elim (some_below P n (λ k lt. each k (omega arith))) [
    | inl h ↦ inl (h.0, (let lt = h.1 in omega arith), h.2)
    | inr none ↦ inr (λ h. elim (cases_lt h.0 n) [
      | inl less ↦ none (h.0, less, h.2)
      | inr le ↦ never
          (let e : h.0 ≡ n = (let lt = h.1 in omega arith) in subst P e h.2)
    ])
  ]
]

-- the numbers below another, in a list
abbrev pub below : ℕ → List ℕ
below zero = []
below (suc n) = n ∷ below n

pub in_below : (n k : ℕ) → k < n → IsIn k (below n)
in_below zero k lt = absurd (omega arith)
in_below (suc n) k lt = elim (cases_lt k n) [ inl less ↦ in_later k n (below n) (in_below n k less) | inr le ↦ (zero, ap Some (omega arith)) ]
