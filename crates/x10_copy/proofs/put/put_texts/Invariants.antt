use Rattle.std.proofs.Common.{ℕ, ◌<◌, drop, get_or, map}
use Rattle.x10_model.specs.Modules.{FitsText}
use Rattle.x10_model.specs.Frames.{blob_bytes}
use Rattle.x10_copy.specs.Graphs.{text_at}
use Rattle.x10_copy.proofs.WrittenLemmas.{IsLeft}
use Rattle.x10_copy.proofs.put.put_texts.Given as goal

abbrev pub invariant-loop-i : goal.invariant-loop-i
invariant-loop-i l = record {
  left : IsLeft blob_bytes l.initial.writer (map (text_at l.heap) l.marks.texts) l.writer (map (text_at l.heap) (drop l.i l.marks.texts));
  fit : (j : ℕ) → j < l.i → FitsText (text_at l.heap (get_or l.marks.texts j 0));
}
