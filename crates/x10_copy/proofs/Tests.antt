-- Tests of values one after another.
use Rattle.std.proofs.Common.{◌≡◌, ℕ, zero, suc, ◌+◌, ◌≤◌, ◌&&◌, Bool, true, false, List, [], ◌∷◌, length, drop, Some, slice_get, refl, sym, ap, subst, ◌∙◌, add-one}
use Rattle.std.proofs.lemmas.List.{drop_all}
use Rattle.x10_copy.specs.Fitting.{pairs_pass, each_passes}

pairs_step : {X Y : Type 0} (f : X → Y → Bool) (xs : List X) (ys : List Y) (i : ℕ) (x : X) (y : Y) → slice_get xs i ≡ Some x → slice_get ys i ≡ Some y
    → pairs_pass f (drop i xs) (drop i ys) ≡ (f x y && pairs_pass f (drop (suc i) xs) (drop (suc i) ys))
pairs_step f [] ys i x y e g = absurd cc
pairs_step f (a ∷ xs) [] i x y e g = absurd cc
pairs_step f (a ∷ xs) (b ∷ ys) zero x y e g =
    let ea : a ≡ x = cc in
    let eb : b ≡ y = cc in
    rw (ea, eb) refl
pairs_step f (a ∷ xs) (b ∷ ys) (suc i) x y e g = pairs_step f xs ys i x y e g

pub each_step : {X : Type 0} (f : X → Bool) (xs : List X) (i : ℕ) (x : X) → slice_get xs i ≡ Some x
    → each_passes f (drop i xs) ≡ (f x && each_passes f (drop (suc i) xs))
each_step f [] i x e = absurd cc
each_step f (a ∷ xs) zero x e =
    let ea : a ≡ x = cc in
    rw ea refl
each_step f (a ∷ xs) (suc i) x e = each_step f xs i x e

-- with the rest still to be tested, one passes
pub pairs_next : {X Y : Type 0} (f : X → Y → Bool) (all : Bool) (xs : List X) (ys : List Y) (i : ℕ) (x : X) (y : Y)
    → all ≡ pairs_pass f (drop i xs) (drop i ys) → slice_get xs i ≡ Some x → slice_get ys i ≡ Some y → f x y ≡ true
    → all ≡ pairs_pass f (drop (i + 1) xs) (drop (i + 1) ys)
pairs_next f all xs ys i x y h e g t =
    subst (λ (m : ℕ). all ≡ pairs_pass f (drop m xs) (drop m ys)) (sym (add-one i))
    (h ∙ pairs_step f xs ys i x y e g ∙ ap (λ (b : Bool). b && pairs_pass f (drop (suc i) xs) (drop (suc i) ys)) t)

pub pairs_fail : {X Y : Type 0} (f : X → Y → Bool) (all : Bool) (xs : List X) (ys : List Y) (i : ℕ) (x : X) (y : Y)
    → all ≡ pairs_pass f (drop i xs) (drop i ys) → slice_get xs i ≡ Some x → slice_get ys i ≡ Some y → f x y ≡ false → false ≡ all
pairs_fail f all xs ys i x y h e g t = sym (h ∙ pairs_step f xs ys i x y e g
    ∙ ap (λ (b : Bool). b && pairs_pass f (drop (suc i) xs) (drop (suc i) ys)) t)

pub pairs_end : {X Y : Type 0} (f : X → Y → Bool) (all : Bool) (xs : List X) (ys : List Y) (i : ℕ) → all ≡ pairs_pass f (drop i xs) (drop i ys)
    → length xs ≤ i → length ys ≤ i → true ≡ all
pairs_end f all xs ys i h lx ly =
    let ex = drop_all i xs lx in
    let ey = drop_all i ys ly in
    sym (h ∙ ap (λ (l : List _). pairs_pass f l (drop i ys)) ex ∙ ap (λ (l : List _). pairs_pass f [] l) ey)

pub pairs_uneven : {X Y : Type 0} (f : X → Y → Bool) (xs : List X) (ys : List Y) → (length ys ≡ length xs → ⊥) → false ≡ pairs_pass f xs ys
pairs_uneven f [] [] n = absurd (n refl)
pairs_uneven f [] (y ∷ ys) n = refl
pairs_uneven f (x ∷ xs) [] n = refl
pairs_uneven f (x ∷ xs) (y ∷ ys) n = elim (f x y) as (λ (b : Bool). false ≡ (b && pairs_pass f xs ys))
    [ true ↦ pairs_uneven f xs ys (λ e. n (ap suc e)) | false ↦ refl ]

pub each_next : {X : Type 0} (f : X → Bool) (all : Bool) (xs : List X) (i : ℕ) (x : X) → all ≡ each_passes f (drop i xs) → slice_get xs i ≡ Some x
    → f x ≡ true → all ≡ each_passes f (drop (i + 1) xs)
each_next f all xs i x h e t = subst (λ (m : ℕ). all ≡ each_passes f (drop m xs)) (sym (add-one i))
    (h ∙ each_step f xs i x e ∙ ap (λ (b : Bool). b && each_passes f (drop (suc i) xs)) t)

pub each_fail : {X : Type 0} (f : X → Bool) (all : Bool) (xs : List X) (i : ℕ) (x : X) → all ≡ each_passes f (drop i xs) → slice_get xs i ≡ Some x
    → f x ≡ false → false ≡ all
each_fail f all xs i x h e t = sym (h ∙ each_step f xs i x e ∙ ap (λ (b : Bool). b && each_passes f (drop (suc i) xs)) t)

pub each_end : {X : Type 0} (f : X → Bool) (all : Bool) (xs : List X) (i : ℕ) → all ≡ each_passes f (drop i xs) → length xs ≤ i → true ≡ all
each_end f all xs i h le = sym (h ∙ ap (λ (l : List _). each_passes f l) (drop_all i xs le))
