use Rattle.std.proofs.Common.{◌≡◌, drop}
use Rattle.x10_frame.specs.Heads.{graph_of}
use Rattle.x10_copy.specs.Fitting.{is_exported, each_passes}
use Rattle.x10_copy.proofs.fitting.roots_exported.Given as goal

abbrev pub invariant-loop-i : goal.invariant-loop-i
invariant-loop-i l = each_passes (is_exported l.here l.heap.exports) (graph_of l.view).roots
    ≡ each_passes (is_exported l.here l.heap.exports) (drop l.i (graph_of l.view).roots)
