use Rattle.x10_frame.specs.Heads.{graph_of}
use Rattle.x10_copy.specs.Fitting.{item_fits, is_exported}
use Rattle.x10_copy.proofs.SameTests.{Looked}
use Rattle.x10_copy.proofs.fitting.fields_found.Given as goal

abbrev pub invariant-loop-j : goal.invariant-loop-j
invariant-loop-j l = Looked (item_fits (graph_of l.view)) (is_exported l.here l.heap.exports) l.class l.node.fields l.j l.exported l.values
