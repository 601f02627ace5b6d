use Rattle.x10_frame.specs.Heads.{graph_of}
use Rattle.x10_copy.proofs.Additions.{TextsLeft}
use Rattle.x10_copy.proofs.adding.add_texts.Given as goal

abbrev pub invariant-loop-i : goal.invariant-loop-i
invariant-loop-i l = TextsLeft l.initial.heap l.heap (graph_of l.view).texts l.i
