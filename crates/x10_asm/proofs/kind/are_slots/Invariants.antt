use Rattle.std.specs.Str.{IsUtf8}
use Rattle.std.proofs.Common.{◌≡◌, length}
use Rattle.x10_asm.specs.Lines.{words}
use Rattle.x10_asm.specs.Kinds.{are_known, slot_of}
use Rattle.x10_asm.proofs.kind.are_slots.Given as goal

abbrev pub invariant-loop-word : goal.invariant-loop-word
invariant-loop-word l = record {
  utf8 : IsUtf8 l.rest;
  left : are_known (slot_of l.classes) (words l.rest)
      ≡ are_known (slot_of l.classes) (words l.line);
}

abbrev pub decreases-loop-word : goal.decreases-loop-word
decreases-loop-word l = length (words l.rest)
