use Rattle.std.specs.Str.{IsUtf8}
use Rattle.std.proofs.Common.{◌≡◌, Ok, Err, List, length}
use Rattle.x10_model.specs.declared.slot.Slot.{Slot}
use Rattle.x10_asm.specs.declared.fault.AsmCause.{AsmCause}
use Rattle.x10_asm.specs.Lines.{words}
use Rattle.x10_asm.specs.Kinds.{each, slot_of}
use Rattle.x10_asm.proofs.flaws.past_slots.Given as goal

abbrev pub invariant-loop-word : goal.invariant-loop-word
invariant-loop-word l = record {
  utf8 : IsUtf8 l.rest;
  left : (c : AsmCause) → each (slot_of l.classes) (words l.rest) ≡ Err c → each (slot_of l.classes) (words l.line) ≡ Err c;
  passed : (xs : List Slot) → each (slot_of l.classes) (words l.rest) ≡ Ok xs
      → (all : List Slot) × (each (slot_of l.classes) (words l.line) ≡ Ok all);
}

abbrev pub decreases-loop-word : goal.decreases-loop-word
decreases-loop-word l = length (words l.rest)
