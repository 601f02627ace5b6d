use Rattle.std.proofs.Common.{suc, ◌-◌}
use Rattle.x10_model.specs.Readers.{numbered}
use Rattle.x10_model.specs.ReadingImages.{instruction_at}
use Rattle.x10_bytes.proofs.Loops.{Along}
use Rattle.x10_image.proofs.parts.past_code.Given as goal

abbrev pub invariant-loop-pc : goal.invariant-loop-pc
invariant-loop-pc l = Along (instruction_at l.version l.function) (λ s _. suc s) (l.count - l.pc) 0 l.pc l.rest
    (numbered l.count (instruction_at l.version l.function) l.bytes)
