use Rattle.std.proofs.Common.{◌+◌, ◌≤◌, length}
use Rattle.std.specs.Str.{IsUtf8}
use Rattle.x10_asm.specs.Lines.{lines}
use Rattle.x10_asm.specs.LabelLines.{labels_from}
use Rattle.x10_asm.proofs.LabelTables.{IsLabelled}
use Rattle.x10_asm.proofs.label.labels_of.Given as goal

abbrev pub invariant-loop-text : goal.invariant-loop-text
invariant-loop-text l = record {
  utf8 : IsUtf8 l.rest;
  bound : l.number + length l.rest ≤ l.fn.number + length l.fn.text;
  few : l.index ≤ 4096;
  labelled : IsLabelled l.table l.number l.index (lines l.rest) (labels_from l.fn.number 0 (lines l.fn.text));
}

abbrev pub decreases-loop-text : goal.decreases-loop-text
decreases-loop-text l = length l.rest
