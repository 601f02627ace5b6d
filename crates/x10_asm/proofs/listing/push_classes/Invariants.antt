use Rattle.std.specs.String.{string_bytes}
use Rattle.x10_asm.specs.Listing.{class_line}
use Rattle.x10_asm.proofs.Items.{AreListed}
use Rattle.x10_asm.proofs.listing.push_classes.Given as goal

abbrev pub invariant-loop-c : goal.invariant-loop-c
invariant-loop-c l = AreListed class_line (string_bytes l.initial.out) (string_bytes l.out) l.image.classes l.c
