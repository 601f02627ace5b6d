use Rattle.std.proofs.Common.{suc, ◌-◌}
use Rattle.x10_model.specs.Readers.{numbered}
use Rattle.x10_model.specs.ReadingImages.{function_at}
use Rattle.x10_bytes.proofs.Loops.{Along}
use Rattle.x10_image.proofs.misfit.past_functions.Given as goal

abbrev pub invariant-loop-function : goal.invariant-loop-function
invariant-loop-function l = Along (function_at l.version l.classes) (λ s _. suc s) (l.count - l.function) 0 l.function l.rest
    (numbered l.count (function_at l.version l.classes) l.bytes)
