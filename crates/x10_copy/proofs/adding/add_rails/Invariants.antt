use Rattle.x10_frame.specs.Heads.{graph_of}
use Rattle.x10_copy.proofs.Additions.{RailsLeft}
use Rattle.x10_copy.proofs.adding.add_rails.Given as goal

abbrev pub invariant-loop-i : goal.invariant-loop-i
invariant-loop-i l = RailsLeft l.initial.heap l.heap (graph_of l.view).rails l.i
