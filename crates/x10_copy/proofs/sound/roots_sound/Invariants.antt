use Rattle.std.proofs.Common.{◌≡◌, drop}
use Rattle.x10_copy.specs.Captured.{kinds_of}
use Rattle.x10_copy.specs.Fitting.{pairs_pass}
use Rattle.x10_copy.specs.Soundness.{word_sound}
use Rattle.x10_copy.proofs.sound.roots_sound.Given as goal

abbrev pub invariant-loop-i : goal.invariant-loop-i
invariant-loop-i l = pairs_pass (word_sound l.places l.heap) (kinds_of l.slots) l.words
    ≡ pairs_pass (word_sound l.places l.heap) (drop l.i (kinds_of l.slots)) (drop l.i l.words)
