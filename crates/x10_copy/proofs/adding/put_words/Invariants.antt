use Rattle.std.proofs.Common.{◌≡◌, take, drop, map}
use Rattle.x10_copy.specs.Arrived.{word_at}
use Rattle.x10_copy.proofs.adding.put_words.Given as goal

abbrev pub invariant-loop-j : goal.invariant-loop-j
invariant-loop-j l = (take l.j l.words ≡ map (word_at l.bases.texts l.bases.rails l.bases.objects) (take l.j l.node.fields))
    × (l.values ≡ drop l.j l.node.fields)
