-- Lists and options: what the standard library lacks.
use Rattle.std.proofs.Common.{◌≡◌, ◌≢◌, ◌⊎◌, ℕ, zero, suc, ◌+◌, ◌<◌, List, [], ◌∷◌, ◌++◌, length, set, Option, None, Some, refl, sym, ◌∙◌, ap, subst, inl, inr, arith}
use Rattle.std.specs.Prelude.{slice_get}
use Rattle.std.specs.List.{AllByRecursion}
use Rattle.std.proofs.lemmas.Option.{same_Some}

pub same_some : {X : Type 0} (o : Option X) (x y : X) → o ≡ Some x → o ≡ Some y → x ≡ y
same_some o x y e f = cc

pub none_some : {X : Type 0} (o : Option X) (x : X) → o ≡ None → o ≡ Some x → ⊥
none_some o x e f = cc

-- what holds of all items holds of each
pub all_at : {A : Type 0} (P : A → Type 0) (xs : List A) (i : ℕ) (x : A) → AllByRecursion P xs → slice_get xs i ≡ Some x → P x
all_at P [] i x h e = absurd cc
all_at P (y ∷ xs) zero x h e = subst P (same_Some y x e) h.0
all_at P (y ∷ xs) (suc i) x h e = all_at P xs i x h.1 e

-- what is in a list stays there, where more comes behind it
pub append_front : {A : Type 0} (xs ys : List A) (i : ℕ) (x : A) → slice_get xs i ≡ Some x → slice_get (xs ++ ys) i ≡ Some x
append_front [] ys i x e = absurd cc
append_front (z ∷ xs) ys zero x e = e
append_front (z ∷ xs) ys (suc i) x e = append_front xs ys i x e

-- what comes behind a list
pub append_behind : {A : Type 0} (xs ys : List A) (i : ℕ) → slice_get (xs ++ ys) (length xs + i) ≡ slice_get ys i
append_behind [] ys i =
    let e : 0 + i ≡ i = omega arith in
    ap (λ (k : ℕ). slice_get ys k) e
append_behind (x ∷ xs) ys i =
    let e : suc (length xs) + i ≡ suc (length xs + i) = omega arith in
    ap (λ (k : ℕ). slice_get (x ∷ (xs ++ ys)) k) e ∙ append_behind xs ys i

-- the item behind others
pub append_get : {A : Type 0} (xs : List A) (y : A) (ys : List A) → slice_get (xs ++ y ∷ ys) (length xs) ≡ Some y
append_get [] y ys = refl
append_get (x ∷ xs) y ys = append_get xs y ys

-- what is in a list with one item more
pub last_or_before : {A : Type 0} (xs : List A) (x y : A) (i : ℕ) → slice_get (xs ++ x ∷ []) i ≡ Some y
    → (slice_get xs i ≡ Some y) ⊎ ((i ≡ length xs) × (x ≡ y))
last_or_before [] x y zero e = inr (refl, same_Some x y e)
last_or_before [] x y (suc i) e = absurd cc
last_or_before (z ∷ zs) x y zero e = inl e
last_or_before (z ∷ zs) x y (suc i) e = elim (last_or_before zs x y i e) [
  | inl before ↦ inl before
  | inr last ↦ inr (ap suc last.0, last.1)
]

-- there is something at each number below the length
pub below_some : {A : Type 0} (xs : List A) (i : ℕ) → slice_get xs i ≡ None → i < length xs → ⊥
below_some [] i e lt = omega arith
below_some (x ∷ xs) zero e lt = cc
below_some (x ∷ xs) (suc i) e lt = below_some xs i e (omega arith)

-- ---- a list in which one item is another

pub set_here : {A : Type 0} (xs : List A) (i : ℕ) (x : A) → i < length xs → slice_get (set xs i x) i ≡ Some x
set_here [] i x lt = absurd (omega arith)
set_here (y ∷ xs) zero x lt = refl
set_here (y ∷ xs) (suc i) x lt = set_here xs i x (omega arith)

pub set_off : {A : Type 0} (xs : List A) (i j : ℕ) (x : A) → j ≢ i → slice_get (set xs i x) j ≡ slice_get xs j
set_off [] i j x ne = refl
set_off (y ∷ xs) zero zero x ne = absurd (ne refl)
set_off (y ∷ xs) zero (suc j) x ne = refl
set_off (y ∷ xs) (suc i) zero x ne = refl
set_off (y ∷ xs) (suc i) (suc j) x ne = set_off xs i j x (λ e. ne (ap suc e))

pub set_same : {A : Type 0} (xs : List A) (i : ℕ) (x : A) → slice_get xs i ≡ Some x → set xs i x ≡ xs
set_same [] i x e = refl
set_same (y ∷ xs) zero x e = ap (λ z. z ∷ xs) (sym (same_Some y x e))
set_same (y ∷ xs) (suc i) x e = ap (λ zs. y ∷ zs) (set_same xs i x e)
