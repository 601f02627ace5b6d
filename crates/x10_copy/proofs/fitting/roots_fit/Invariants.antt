use Rattle.std.proofs.Common.{◌≡◌, drop}
use Rattle.x10_frame.specs.Heads.{graph_of}
use Rattle.x10_copy.specs.Captured.{kinds_of}
use Rattle.x10_copy.specs.Fitting.{item_fits, pairs_pass}
use Rattle.x10_copy.proofs.fitting.roots_fit.Given as goal

abbrev pub invariant-loop-i : goal.invariant-loop-i
invariant-loop-i l = pairs_pass (item_fits (graph_of l.view)) (kinds_of l.slots) (graph_of l.view).roots
    ≡ pairs_pass (item_fits (graph_of l.view)) (drop l.i (kinds_of l.slots)) (drop l.i (graph_of l.view).roots)
