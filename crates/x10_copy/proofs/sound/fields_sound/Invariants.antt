use Rattle.std.proofs.Common.{◌≡◌, drop}
use Rattle.x10_copy.specs.Fitting.{pairs_pass}
use Rattle.x10_copy.specs.Soundness.{word_sound}
use Rattle.x10_copy.proofs.sound.fields_sound.Given as goal

abbrev pub invariant-loop-j : goal.invariant-loop-j
invariant-loop-j l = pairs_pass (word_sound l.places l.heap) l.class l.words
    ≡ pairs_pass (word_sound l.places l.heap) (drop l.j l.class) (drop l.j l.words)
