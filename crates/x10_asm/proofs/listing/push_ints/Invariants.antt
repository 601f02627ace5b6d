use Rattle.std.specs.String.{string_bytes}
use Rattle.x10_asm.specs.Listing.{int_line}
use Rattle.x10_asm.proofs.Items.{AreListed}
use Rattle.x10_asm.proofs.listing.push_ints.Given as goal

abbrev pub invariant-loop-i : goal.invariant-loop-i
invariant-loop-i l = AreListed int_line (string_bytes l.initial.out) (string_bytes l.out) l.image.ints l.i
