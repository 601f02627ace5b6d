-- What stands at some positions of a list.
use Rattle.std.proofs.Common.{◌≡◌, ℕ, zero, suc, ◌+◌, ◌<◌, List, [], ◌∷◌, ◌++◌, Some, length, refl, sym, ap, ap₂, ◌∙◌, arith, subst, ◌-◌}
use Rattle.std.specs.Prelude.{slice_get, slice_index_or}
use Rattle.std.proofs.lemmas.List.{append_assoc, length-append}
use Rattle.std.proofs.lemmas.Option.{slice_get_read}
use Rattle.x10_model.proofs.Lists.{append_get}
use Rattle.x10_hall.specs.Repetitions.{some_one, picked, AreWithin, IsLast}

-- a position among them is one of the list
pub within_at : (n : ℕ) (is : List ℕ) (p d : ℕ) → AreWithin n is → p < length is → slice_index_or is p d < n
within_at n [] p d within lt = absurd (omega (arith, lt))
within_at n (i ∷ is) zero d within lt = within.0
within_at n (i ∷ is) (suc p) d within lt = within_at n is p d within.1 (omega (arith, lt))

module _ {X : Type 0} where
  front : (xs ys : List X) (i : ℕ) → i < length xs → slice_get (xs ++ ys) i ≡ slice_get xs i
  front [] ys i lt = absurd (omega (arith, lt))
  front (x ∷ xs) ys zero lt = refl
  front (x ∷ xs) ys (suc i) lt = front xs ys i (omega (arith, lt))

  -- what stands at a position that the list has
  there : (xs : List X) (i : ℕ) → i < length xs → (x : X) × (slice_get xs i ≡ Some x)
  there [] i lt = absurd (omega (arith, lt))
  there (x ∷ xs) zero lt = (x, refl)
  there (x ∷ xs) (suc i) lt = there xs i (omega (arith, lt))

  -- behind each other
  picked_more : (xs : List X) (is js : List ℕ) → picked xs (is ++ js) ≡ picked xs is ++ picked xs js
  picked_more xs [] js = refl
  picked_more xs (i ∷ is) js = ap (λ ys. some_one (slice_get xs i) ++ ys) (picked_more xs is js)
      ∙ sym (append_assoc (some_one (slice_get xs i)) (picked xs is) (picked xs js))

  -- a list that grows has the same at its positions
  picked_front : (xs ys : List X) (is : List ℕ) → AreWithin (length xs) is → picked (xs ++ ys) is ≡ picked xs is
  picked_front xs ys [] within = refl
  picked_front xs ys (i ∷ is) within = ap₂ (λ (us vs : List X). us ++ vs) (ap some_one (front xs ys i within.0)) (picked_front xs ys is within.1)

  -- one at each
  pub picked_length : (xs : List X) (is : List ℕ) → AreWithin (length xs) is → length (picked xs is) ≡ length is
  picked_length xs [] within = refl
  picked_length xs (i ∷ is) within =
      let at = there xs i within.0 in
      ap (λ v. length (some_one v ++ picked xs is)) at.1 ∙ ap suc (picked_length xs is within.1)

  -- the one at a position is that which the order says
  pub picked_at : (xs : List X) (is : List ℕ) (p i : ℕ) (x : X) → AreWithin (length xs) is → slice_get is p ≡ Some i → slice_get xs i ≡ Some x
      → slice_get (picked xs is) p ≡ Some x
  picked_at xs [] p i x within is_i is_x = absurd cc
  picked_at xs (j ∷ js) zero i x within is_i is_x = cc
  picked_at xs (j ∷ js) (suc p) i x within is_i is_x =
      let at = there xs j within.0 in
      ap (λ v. slice_get (some_one v ++ picked xs js) (suc p)) at.1 ∙ picked_at xs js p i x within.1 is_i is_x

  -- an item stands behind them
  pub picked_pushed : (xs : List X) (is : List ℕ) (x : X) (n : ℕ) → AreWithin (length xs) is → n ≡ length xs
      → picked (xs ++ x ∷ []) (is ++ n ∷ []) ≡ picked xs is ++ x ∷ []
  picked_pushed xs is x n within e = picked_more (xs ++ x ∷ []) is (n ∷ [])
      ∙ ap₂ (λ (us vs : List X). us ++ vs) (picked_front xs (x ∷ []) is within)
      (ap (λ k. some_one (slice_get (xs ++ x ∷ []) k) ++ []) e ∙ ap (λ v. some_one v ++ []) (append_get xs x []))

  -- the last item stands behind them again
  pub picked_again : (xs : List X) (is : List ℕ) (n i : ℕ) (x : X) (items : List X) → AreWithin (length xs) is → picked xs is ≡ items
      → n ≡ length is → 0 < length items → i ≡ slice_index_or is (n - 1) i → IsLast items x → picked xs (is ++ i ∷ []) ≡ items ++ x ∷ []
  picked_again xs is n i x items within same long some at last =
      let many = sym (picked_length xs is within) ∙ ap length same in
      let here = slice_get_read is n (n - 1) i long (omega (arith, many, long, some)) at in
      let low = subst (λ k. k < length xs) (sym at) (within_at (length xs) is (n - 1) i within (omega (arith, many, long, some))) in
      let one = there xs i low in
      let which = one.1 ∙ sym (picked_at xs is (n - 1) i one.0 within here one.1) ∙ ap (λ ys. slice_get ys (n - 1)) same
      ∙ ap (λ k. slice_get items (k - 1)) (long ∙ many) ∙ last in
      picked_more xs is (i ∷ []) ∙ ap₂ (λ (us vs : List X). us ++ vs) same (ap (λ v. some_one v ++ []) which)

-- positions of a longer list
within_longer : (m n : ℕ) (is : List ℕ) → m < n + 1 → AreWithin m is → AreWithin n is
within_longer m n [] le within = within
within_longer m n (i ∷ is) le within = (omega (arith, le, within.0), within_longer m n is le within.1)

-- one position more
pub within_more : (n : ℕ) (is : List ℕ) (i : ℕ) → AreWithin n is → i < n → AreWithin n (is ++ i ∷ [])
within_more n [] i within lt = (lt, within)
within_more n (j ∷ js) i within lt = (within.0, within_more n js i within.1 lt)

pub within_pushed : {X : Type 0} (xs : List X) (x : X) (is : List ℕ) (n : ℕ) → AreWithin (length xs) is → n ≡ length xs
    → AreWithin (length (xs ++ x ∷ [])) (is ++ n ∷ [])
within_pushed xs x is n within e =
    let longer = length-append xs (x ∷ []) in
    within_more (length (xs ++ x ∷ [])) is n (within_longer (length xs) (length (xs ++ x ∷ [])) is (omega (arith, longer)) within)
    (omega (arith, longer, e))
