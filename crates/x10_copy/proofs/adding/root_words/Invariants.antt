use Rattle.std.proofs.Common.{◌≡◌, take, map}
use Rattle.x10_frame.specs.Heads.{graph_of}
use Rattle.x10_copy.specs.Arrived.{word_at}
use Rattle.x10_copy.proofs.adding.root_words.Given as goal

abbrev pub invariant-loop-i : goal.invariant-loop-i
invariant-loop-i l = l.words.items ≡ map (word_at l.bases.texts l.bases.rails l.bases.objects) (take l.i (graph_of l.view).roots)
