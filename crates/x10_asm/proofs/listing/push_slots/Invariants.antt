use Rattle.std.specs.String.{string_bytes}
use Rattle.std.proofs.Common.{map}
use Rattle.x10_asm.specs.Listing.{spaced, slot_word}
use Rattle.x10_asm.proofs.Items.{AreListed}
use Rattle.x10_asm.proofs.listing.push_slots.Given as goal

abbrev pub invariant-loop-i : goal.invariant-loop-i
invariant-loop-i l = AreListed spaced (string_bytes l.initial.out) (string_bytes l.out) (map slot_word l.signature.parameters) l.i
