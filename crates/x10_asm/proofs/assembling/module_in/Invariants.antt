use Rattle.std.proofs.Common.{◌+◌, ◌≤◌, length}
use Rattle.std.specs.Str.{IsUtf8}
use Rattle.x10_asm.specs.Lines.{lines}
use Rattle.x10_asm.specs.Reading.{module_of}
use Rattle.x10_asm.proofs.TextLines.{IsPassed}
use Rattle.x10_asm.proofs.assembling.module_in.Given as goal

abbrev pub invariant-loop-line : goal.invariant-loop-line
invariant-loop-line l = record {
  utf8 : IsUtf8 l.rest;
  bound : l.number + length l.rest ≤ 1 + length l.text;
  passed : IsPassed l.source l.classes l.number (lines l.rest) (module_of l.text);
}

abbrev pub decreases-loop-line : goal.decreases-loop-line
decreases-loop-line l = length l.rest
