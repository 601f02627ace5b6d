-- The words that a message takes along: those of registers in a row, which stand for the values that it passes.
use Rattle.std.proofs.Common.{◌≡◌, ℕ, zero, suc, ◌+◌, ◌-◌, ◌<◌, ◌≤◌, List, [], ◌∷◌, length, take, drop, Option, Some, None, refl, sym, ap, ap₂, subst, ◌∙◌, arith}
use Rattle.std.proofs.Math.ListN.{length-set}
use Rattle.std.specs.Prelude.{slice_get, slice_index, slice_set}
use Rattle.std.specs.List.{slice_range, AllByRecursion}
use Rattle.std.proofs.lemmas.Option.{same_Some}
use Rattle.x10_model.specs.Modules.{Module, FitsImage, FitsSlot}
use Rattle.x10_heap.specs.Heaps.{HeapState}
use Rattle.x10_copy.specs.Names.{AreSound}
use Rattle.x10_copy.specs.Graphs.{IsSoundHeap}
use Rattle.x10_copy.specs.Laws.{StandingIsSound}
use Rattle.x10_place.specs.Stays.{StoreState}
use Rattle.x10_model.specs.declared.slot.Slot.{Slot}
use Rattle.x10_model.specs.Moves.{as_list}
use Rattle.x10_model.specs.Values.{Value, Cells}
use Rattle.x10_heap.specs.Words.{Context, AreWordsOf}
use Rattle.x10_copy.specs.Captured.{kinds_of}
use Rattle.x10_place.specs.Sending.{slots_of, StandForSome}
use Rattle.x10_place.proofs.Calls.{words_at}
use Rattle.x10_place.proofs.Ends.{IsGiven}

-- the first of what is left
dropped : (xs : List ℕ) (r : ℕ) → r < length xs → drop r xs ≡ slice_index xs r ∷ drop (r + 1) xs
dropped [] r lt = absurd (omega (arith, lt))
dropped (x ∷ xs) zero lt = refl
dropped (x ∷ xs) (suc r) lt = subst (λ n. drop r xs ≡ slice_index xs r ∷ drop n (x ∷ xs)) (let same : suc (r + 1) ≡ suc r + 1 = omega arith in same)
    (dropped xs r (omega (arith, lt)))

taken : (xs : List ℕ) (r n : ℕ) → r + n ≤ length xs → take n (drop r xs) ≡ words_at xs r n
taken xs r zero le = refl
taken xs r (suc n) le = ap (take (suc n)) (dropped xs r (omega (arith, le)))
    ∙ ap (λ ws. slice_index xs r ∷ ws) (taken xs (r + 1) n (omega (arith, le)))

-- a range is so many words in a row
pub range_at : (xs : List ℕ) (r n : ℕ) → r + n ≤ length xs → slice_range xs r (r + n) ≡ words_at xs r n
range_at xs r n le = ap (λ k. take k (drop r xs)) (let same : r + n - r ≡ n = omega arith in same) ∙ taken xs r n le

pub range_none : (xs : List ℕ) (r : ℕ) → slice_range xs r (r + 0) ≡ []
range_none xs r = ap (λ k. take k (drop r xs)) (let same : r + 0 - r ≡ 0 = omega arith in same)

-- the word of a result, if there is one, stands for it
pub given_words : (x : Context) (cells : Cells) (slot : Option Slot) (result : Option Value) (words : List ℕ) (r : ℕ)
    → ((s : Slot) → slot ≡ Some s → r < length words) → IsGiven x cells slot result (slice_index words r)
    → AreWordsOf x (kinds_of (slots_of slot)) (slice_range words r (r + length (slots_of slot))) (as_list result)
given_words x cells None None words r there given = subst (λ ws. AreWordsOf x [] ws []) (sym (range_none words r)) tt
given_words x cells (Some slot) (Some v) words r there given =
    let lt = there slot refl in
    subst (λ ws. AreWordsOf x (slot.kind ∷ []) ws (v ∷ [])) (sym (range_at words r 1 (omega (arith, lt)))) (given.1, tt)
given_words x cells None (Some v) words r there given = absurd given
given_words x cells (Some slot) None words r there given = absurd given

-- one more that is the same
pub set_taken : {X : Type 0} (xs ys : List X) (i : ℕ) (x : X) → i < length ys → slice_get xs i ≡ Some x → take i ys ≡ take i xs
    → take (i + 1) (slice_set ys i x) ≡ take (i + 1) xs
set_taken xs [] i x lt e h = absurd (omega (arith, lt))
set_taken [] (y ∷ ys) i x lt e h = absurd cc
set_taken (z ∷ xs) (y ∷ ys) zero x lt e h = ap (λ q. q ∷ []) (sym (same_Some z x e))
set_taken (z ∷ xs) (y ∷ ys) (suc i) x lt e h =
    let heads : y ≡ z = cc in
    let tails : take i ys ≡ take i xs = cc in
    let rest = set_taken xs ys i x (omega (arith, lt)) e tails in
    subst (λ n. take n (y ∷ slice_set ys i x) ≡ take n (z ∷ xs)) (let same : suc (i + 1) ≡ suc i + 1 = omega arith in same)
    (ap₂ (λ q qs. q ∷ qs) heads rest)

-- what stands for something is sound
pub sound_words : (law : StandingIsSound) (program : Module) (s : StoreState) (slots : List Slot) (words : List ℕ)
    → StandForSome program s slots words → FitsImage program → AllByRecursion (FitsSlot (length program.classes)) slots
    → AreSound s.places s.heap (kinds_of slots) words × IsSoundHeap program.classes s.places s.heap
sound_words law program s slots words h fits all =
    let sound = law program h.context h.cells slots words h.values fits h.classes all h.holds h.words_are in
    subst (λ n. AreSound n s.heap (kinds_of slots) words × IsSoundHeap program.classes n s.heap) h.places
    (subst (λ (q : HeapState). AreSound h.context.places q (kinds_of slots) words × IsSoundHeap program.classes h.context.places q) h.heap sound)

-- the same of an array
pub kept_next : {X : Type 0} (n : ℕ) (xs ys : List X) (i : ℕ) (x : X) → length ys ≡ n → i < n → slice_get xs i ≡ Some x → take i ys ≡ take i xs
    → (length (slice_set ys i x) ≡ n) × (take (i + 1) (slice_set ys i x) ≡ take (i + 1) xs)
kept_next n xs ys i x long lt e h = (simp length-set long, set_taken xs ys i x (omega (arith, long, lt)) e h)
