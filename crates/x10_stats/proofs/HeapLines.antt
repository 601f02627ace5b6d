-- The lines of heaps, place after place.
use Rattle.std.proofs.Common.{◌≡◌, ℕ, zero, suc, ◌+◌, List, [], ◌∷◌, ◌++◌, refl, sym, ap, ◌∙◌, arith, append_assoc}
use Rattle.std.specs.Prelude.{slice_get, take}
use Rattle.std.proofs.lemmas.List.{append-nil}
use Rattle.x10_place.specs.StandsFor.{PlaceState}
use Rattle.x10_stats.specs.Lines.{all_heap_lines, any_heap_lines, heap_lines}

heaps_more : (from n : ℕ) (places : List PlaceState)
    → all_heap_lines from (take (suc n) places) ≡ all_heap_lines from (take n places) ++ any_heap_lines (from + n) (slice_get places n)
heaps_more from zero [] = refl
heaps_more from (suc n) [] = refl
heaps_more from zero (q ∷ qs) = append-nil (heap_lines from q.heap) ∙ ap (λ k. heap_lines k q.heap) (omega arith)
heaps_more from (suc n) (q ∷ qs) =
    ap (λ bs. heap_lines from q.heap ++ bs) (heaps_more (from + 1) n qs)
    ∙ sym (append_assoc (heap_lines from q.heap) (all_heap_lines (from + 1) (take n qs)) (any_heap_lines (from + 1 + n) (slice_get qs n)))
    ∙ ap (λ k. (heap_lines from q.heap ++ all_heap_lines (from + 1) (take n qs)) ++ any_heap_lines k (slice_get qs n)) (omega arith)

-- the lines of one heap more, behind what was there
pub heap_more : (old a b : List ℕ) (n : ℕ) (places : List PlaceState) → a ≡ old ++ all_heap_lines 0 (take n places)
    → b ≡ a ++ any_heap_lines n (slice_get places n) → b ≡ old ++ all_heap_lines 0 (take (n + 1) places)
heap_more old a b n places before one =
    let at : 0 + n ≡ n = omega arith in
    let next : n + 1 ≡ suc n = omega arith in
    let more = heaps_more 0 n places ∙ ap (λ k. all_heap_lines 0 (take n places) ++ any_heap_lines k (slice_get places n)) at in
    one ∙ ap (λ bs. bs ++ any_heap_lines n (slice_get places n)) before
    ∙ append_assoc old (all_heap_lines 0 (take n places)) (any_heap_lines n (slice_get places n))
    ∙ ap (λ bs. old ++ bs) (sym more) ∙ ap (λ k. old ++ all_heap_lines 0 (take k places)) (sym next)
