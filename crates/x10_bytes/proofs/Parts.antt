-- Where parts stand in bytes that are put together of them, and what is read there.
use Rattle.std.proofs.Common.{◌≡◌, ℕ, zero, suc, ◌+◌, ◌*◌, ◌^◌, ◌<◌, List, [], ◌∷◌, ◌++◌, length, get_or, Some, refl, sym, ap, subst, ◌∙◌, arith, take, flat_map, slice_get, length-append, length-take}
use Rattle.std.specs.Prelude.{slice_range}
use Rattle.std.specs.Int.{w16, w32, to_be_bytes, from_be_bytes}
use Rattle.std.proofs.lemmas.Nat.{from_be_bytes-to_be_bytes_2, from_be_bytes-to_be_bytes_4}
use Rattle.std.proofs.lemmas.Option.{slice_get_within}
use Rattle.std.proofs.lemmas.List.{get_or_default}
use Rattle.std.proofs.lemmas.List.Concat.{flat_map-cons}
use Rattle.x10_model.specs.Offsets.{StandsAt, AreAt}
use Rattle.x10_model.proofs.ImageParts.{length-items}
use Rattle.x10_model.proofs.Offsets.{later, narrow, place_small, range_is, same_length, item_of}
use Rattle.x10_bytes.specs.Tables.{IsPart}

pub part_at : (bytes : List ℕ) (at : ℕ) (part : List ℕ) → 0 < length part → StandsAt bytes at part → IsPart bytes at part
part_at bytes at part some s = record { end = place_small bytes at part some s; is = sym (range_is bytes at (at + length part) part refl s) }

-- a part behind another
pub part_behind : (bytes : List ℕ) (at n : ℕ) (front part : List ℕ) → n ≡ length front → 0 < n → StandsAt bytes at (front ++ part)
    → IsPart bytes (at + n) part
part_behind bytes at n front part len some s =
    let back = later bytes at n (at + n) front part len refl s in
    let small = place_small bytes at (front ++ part) (omega (arith, length-append front part, len, some)) s in
    record { end = omega (arith, small, length-append front part, len); is = sym (range_is bytes (at + n) (at + n + length part) part refl back) }

-- ---- an item among others

pub item_here : {A : Type 0} (spell : A → List ℕ) (bytes : List ℕ) (at : ℕ) (xs : List A) (i : ℕ) (x : A) → StandsAt bytes at (flat_map spell xs)
    → slice_get xs i ≡ Some x
    → StandsAt bytes (at + length (flat_map spell (take i xs))) (spell x)
item_here spell bytes at [] i x s e = absurd cc
item_here spell bytes at (y ∷ xs) zero x s e =
    let is : y ≡ x = cc in
    let here : at + 0 ≡ at = omega arith in
    subst (λ z. StandsAt bytes (at + 0) (spell z)) is (rw here (narrow bytes at (spell y) (flat_map spell xs) (rw flat_map-cons at s)))
item_here spell bytes at (y ∷ xs) (suc i) x s e =
    let long : length (flat_map spell (y ∷ take i xs)) ≡ length (spell y) + length (flat_map spell (take i xs)) =
    ap length (flat_map-cons spell y (take i xs)) ∙ length-append (spell y) (flat_map spell (take i xs)) in
    let there : at + length (spell y) + length (flat_map spell (take i xs)) ≡ at + length (flat_map spell (y ∷ take i xs)) = omega (arith, long) in
    let rest = later bytes at (length (spell y)) (at + length (spell y)) (spell y) (flat_map spell xs) refl refl (rw flat_map-cons at s) in
    subst (λ (n : ℕ). StandsAt bytes n (spell x)) there (item_here spell bytes (at + length (spell y)) xs i x rest e)

-- the items before it, of one length
pub before_it : {A : Type 0} (spell : A → List ℕ) (k : ℕ) → ((x : A) → length (spell x) ≡ k) → (xs : List A) (i : ℕ) (x : A) → slice_get xs i ≡ Some x
    → length (flat_map spell (take i xs)) ≡ k * i
before_it spell k each xs i x e =
    let many : length (take i xs) ≡ i = omega (arith, length-take i xs, slice_get_within xs i x e) in
    length-items spell k each (take i xs) ∙ ap (λ n. k * n) many

-- the entry of a table, as it is read
pub item_in : {A : Type 0} (spell : A → List ℕ) (bytes table : List ℕ) (xs : List A) (i at : ℕ) → AreAt spell bytes table xs → i < length xs
    → at ≡ get_or table i at → (x : A) × (slice_get xs i ≡ Some x) × StandsAt bytes at (spell x)
item_in spell bytes table xs i at places lt e =
    let found = item_of _ table xs i places lt in
    let is : get_or table i 0 ≡ at = sym (e ∙ get_or_default table i at 0 (omega (arith, lt, same_length _ table xs places))) in
    (found.0, found.1, subst (λ (n : ℕ). StandsAt bytes n (spell found.0)) is found.2)

-- ---- numbers

pub number2_is : (bytes : List ℕ) (at n : ℕ) → n < 2 ^ 16 → StandsAt bytes at (to_be_bytes w16 n)
    → from_be_bytes w16 (slice_range bytes at (at + 2)) ≡ n
number2_is bytes at n lt s = ap (from_be_bytes w16) (range_is bytes at (at + 2) (to_be_bytes w16 n) refl s) ∙ from_be_bytes-to_be_bytes_2 n lt

pub number4_is : (bytes : List ℕ) (at n : ℕ) → n < 2 ^ 32 → StandsAt bytes at (to_be_bytes w32 n)
    → from_be_bytes w32 (slice_range bytes at (at + 4)) ≡ n
number4_is bytes at n lt s = ap (from_be_bytes w32) (range_is bytes at (at + 4) (to_be_bytes w32 n) refl s) ∙ from_be_bytes-to_be_bytes_4 n lt
