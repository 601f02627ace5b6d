use Rattle.std.proofs.Common.{◌≡◌, drop}
use Rattle.x10_frame.specs.Heads.{graph_of}
use Rattle.x10_copy.specs.Fitting.{home_fits, pairs_pass}
use Rattle.x10_copy.proofs.fitting.have_homes.Given as goal

abbrev pub invariant-loop-i : goal.invariant-loop-i
invariant-loop-i l = pairs_pass (home_fits l.at) l.slots (graph_of l.view).roots
    ≡ pairs_pass (home_fits l.at) (drop l.i l.slots) (drop l.i (graph_of l.view).roots)
