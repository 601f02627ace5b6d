use Rattle.std.specs.String.{string_bytes}
use Rattle.x10_image.specs.Parts.{code_at}
use Rattle.x10_asm.specs.Listing.{instruction_line}
use Rattle.x10_asm.proofs.Items.{AreListed}
use Rattle.x10_asm.proofs.listing.push_code.Given as goal

abbrev pub invariant-loop-pc : goal.invariant-loop-pc
invariant-loop-pc l = AreListed instruction_line (string_bytes l.initial.out) (string_bytes l.out) (code_at l.image l.f) l.pc
