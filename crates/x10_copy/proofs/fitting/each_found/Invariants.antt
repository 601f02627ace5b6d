use Rattle.std.proofs.Common.{slice_get}
use Rattle.x10_frame.specs.Heads.{graph_of}
use Rattle.x10_copy.specs.Fitting.{class_fits, are_exported}
use Rattle.x10_copy.proofs.SameTests.{LookedEach}
use Rattle.x10_copy.proofs.fitting.each_found.Given as goal

abbrev pub invariant-loop-k : goal.invariant-loop-k
invariant-loop-k l = LookedEach (λ n. class_fits (graph_of l.view) (slice_get l.image.classes n.class) n.fields)
    (λ n. are_exported l.here l.heap.exports n.fields) l.nodes l.k l.exported
