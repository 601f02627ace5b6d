use Rattle.std.proofs.Common.{◌≡◌, drop}
use Rattle.std.specs.Str.{IsCharBoundary}
use Rattle.x10_asm.specs.Lines.{after_spaces}
use Rattle.x10_asm.proofs.split.after_spaces.Given as goal

abbrev pub invariant-loop-at : goal.invariant-loop-at
invariant-loop-at l = record { boundary : IsCharBoundary l.text l.at; left : after_spaces l.text ≡ after_spaces (drop l.at l.text) }
