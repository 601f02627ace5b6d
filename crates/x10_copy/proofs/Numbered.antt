-- Lists of so many numbers, one after the other: the names of what arrives.
use Rattle.std.proofs.Common.{◌≡◌, ℕ, zero, suc, ◌+◌, ◌<◌, List, [], ◌∷◌, length, get_or, Some, slice_get, refl, sym, ap, ◌∙◌, arith}
use Rattle.std.proofs.lemmas.Option.{same_Some, slice_get_within, get_or_from_slice_get}

-- so many numbers, one after the other
abbrev pub numbers : ℕ → ℕ → List ℕ
numbers start zero = []
numbers start (suc count) = start ∷ numbers (suc start) count

numbers_get : (start count i : ℕ) → i < count → slice_get (numbers start count) i ≡ Some (start + i)
numbers_get start zero i lt = absurd (omega (arith, lt))
numbers_get start (suc count) zero lt =
    let e : start ≡ start + 0 = omega arith in
    ap Some e
numbers_get start (suc count) (suc i) lt =
    let e : suc start + i ≡ start + suc i = omega arith in
    numbers_get (suc start) count i (omega (arith, lt)) ∙ ap Some e

pub numbers_length : (start count : ℕ) → length (numbers start count) ≡ count
numbers_length start zero = refl
numbers_length start (suc count) = ap suc (numbers_length (suc start) count)

pub numbers_or : (start count i : ℕ) → i < count → get_or (numbers start count) i 0 ≡ start + i
numbers_or start count i lt = get_or_from_slice_get (numbers start count) i (start + i) 0 (numbers_get start count i lt)

pub numbers_distinct : (start count i j v : ℕ) → slice_get (numbers start count) i ≡ Some v → slice_get (numbers start count) j ≡ Some v → i ≡ j
numbers_distinct start count i j v e f =
    let li = slice_get_within (numbers start count) i v e in
    let lj = slice_get_within (numbers start count) j v f in
    let n = numbers_length start count in
    let a : start + i ≡ v = same_Some (start + i) v (sym (numbers_get start count i (omega (arith, li, n))) ∙ e) in
    let b : start + j ≡ v = same_Some (start + j) v (sym (numbers_get start count j (omega (arith, lj, n))) ∙ f) in
    omega (arith, a, b)
