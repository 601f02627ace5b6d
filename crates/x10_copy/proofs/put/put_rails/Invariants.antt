use Rattle.std.proofs.Common.{ℕ, ◌<◌, drop, get_or, map}
use Rattle.x10_model.specs.Frames.{FitsRail}
use Rattle.x10_model.specs.Frames.{blob_bytes}
use Rattle.x10_copy.specs.Graphs.{rail_at}
use Rattle.x10_copy.proofs.WrittenLemmas.{IsLeft}
use Rattle.x10_copy.proofs.put.put_rails.Given as goal

abbrev pub invariant-loop-i : goal.invariant-loop-i
invariant-loop-i l = record {
  left : IsLeft blob_bytes l.initial.writer (map (rail_at l.heap) l.marks.rails) l.writer (map (rail_at l.heap) (drop l.i l.marks.rails));
  fit : (j : ℕ) → j < l.i → FitsRail (rail_at l.heap (get_or l.marks.rails j 0));
}
