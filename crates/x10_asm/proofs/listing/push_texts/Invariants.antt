use Rattle.std.specs.String.{string_bytes}
use Rattle.x10_asm.specs.Listing.{text_line}
use Rattle.x10_asm.proofs.Items.{AreListed}
use Rattle.x10_asm.proofs.listing.push_texts.Given as goal

abbrev pub invariant-loop-i : goal.invariant-loop-i
invariant-loop-i l = AreListed text_line (string_bytes l.initial.out) (string_bytes l.out) l.image.texts l.i
