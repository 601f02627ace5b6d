-- Words are shown as the values that they stand for.
use Rattle.std.proofs.Common.{◌≡◌, ℕ, ◌+◌, ◌*◌, ◌/◌, List, inl, inr, sym, ap, ◌∙◌, arith, add-one, codes}
use Rattle.x10_kinds.specs.declared.kind.Kind.{Kind}
use Rattle.x10_kinds.specs.declared.kind.Kind.TheVariants as kind
use Rattle.x10_model.specs.Values.{Value}
use Rattle.x10_heap.specs.Heaps.{HeapState}
use Rattle.x10_heap.specs.Words.{Context, IsWordOf, IsObjectWord}
use Rattle.x10_states.specs.Values.{value_text, word_text, text_words, object_or, object_words, rail_words, unknown}

half : (n : ℕ) → 2 * n / 2 ≡ n
half n = omega arith

half_odd : (n : ℕ) → (2 * n + 1) / 2 ≡ n
half_odd n = omega arith

object_shown : (other : List ℕ) (heap : HeapState) (class w : ℕ) (v : Value) → IsObjectWord heap class w v → object_or other w ≡ value_text v
object_shown other heap class w v o =
    ap (object_or other) (o.word_is ∙ add-one o.number) ∙ ap object_words (sym (half o.number)) ∙ sym (ap value_text o.value_is)

pub shown : (x : Context) (k : Kind) (w : ℕ) (v : Value) → IsWordOf x k w v → word_text x.heap k w ≡ value_text v
shown x kind.Int w v e = sym (ap value_text e)
shown x kind.Place w v e = sym (ap value_text e.1)
shown x kind.Text w v (text, there, e) = ap text_words there ∙ sym (ap value_text e)
shown x kind.Rail w v (bytes, there, e) = ap rail_words (sym (half_odd w)) ∙ sym (ap value_text e)
shown x (kind.Obj c) w v o = object_shown unknown x.heap c w v o
shown x (kind.Opt c) w v (inl (zero_is, e)) = ap (object_or (codes "null")) zero_is ∙ sym (ap value_text e)
shown x (kind.Opt c) w v (inr o) = object_shown (codes "null") x.heap c w v o
shown x (kind.GRef c) w v e = sym (ap value_text e.3)
