use Rattle.std.specs.String.{string_bytes}
use Rattle.x10_asm.specs.Listing.{function_lines}
use Rattle.x10_asm.proofs.Items.{AreListed}
use Rattle.x10_asm.proofs.listing.push_functions.Given as goal

abbrev pub invariant-loop-f : goal.invariant-loop-f
invariant-loop-f l = AreListed function_lines (string_bytes l.initial.out) (string_bytes l.out) l.image.functions l.f
