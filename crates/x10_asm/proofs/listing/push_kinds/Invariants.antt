use Rattle.std.specs.String.{string_bytes}
use Rattle.std.proofs.Common.{map}
use Rattle.x10_asm.specs.Listing.{spaced, kind_word}
use Rattle.x10_asm.proofs.Items.{AreListed}
use Rattle.x10_asm.proofs.listing.push_kinds.Given as goal

abbrev pub invariant-loop-i : goal.invariant-loop-i
invariant-loop-i l = AreListed spaced (string_bytes l.initial.out) (string_bytes l.out) (map kind_word l.class) l.i
