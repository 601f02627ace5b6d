use Rattle.std.proofs.Common.{suc, ◌+◌, add-one}
use Rattle.x10_model.specs.Readers.{numbered}
use Rattle.x10_model.specs.ReadingImages.{function_at}
use Rattle.x10_image.specs.Faults.{named}
use Rattle.x10_bytes.proofs.Loops.{along_start, along_next, along_fault, along_end}
use Rattle.x10_image.proofs.misfit.past_functions.Goals as goal

pub loop-function-init : goal.loop-function-init
loop-function-init c = along_start (function_at c.args.version c.args.classes) (λ s _. suc s) c.args.count 0 c.args.bytes.now

pub loop-function-preserved : goal.loop-function-preserved
loop-function-preserved c = along_next (function_at c.args.version c.args.classes)
    (λ s _. suc s) c.args.count c.loop-function.function 0 c.loop-function.function
    (c.loop-function.function + 1) c.loop-function.rest.now c.in-Ok.ensures.exact.0 c.in-Ok.after.now
    (numbered c.args.count (function_at c.args.version c.args.classes) c.args.bytes.now) c.loop-function-test.true c.loop-function.invariant
    c.in-Ok.ensures.exact.1 (add-one _)

pub returns-in-Err-clause-fault : goal.returns-in-Err-clause-fault
returns-in-Err-clause-fault c = along_fault (function_at c.args.version c.args.classes)
    (λ s _. suc s) c.args.count c.loop-function.function 0 c.loop-function.function c.loop-function.rest.now
    (numbered c.args.count (function_at c.args.version c.args.classes) c.args.bytes.now)
    (named c.in-Err.field.fault) c.loop-function-test.true c.loop-function.invariant c.in-Err.ensures.exact

pub returns-clause-passed : goal.returns-clause-passed
returns-clause-passed c = (
  c.loop-function.invariant.front,
  along_end (function_at c.args.version c.args.classes)
      (λ s _. suc s) c.args.count c.loop-function.function 0 c.loop-function.function c.loop-function.rest.now
      (numbered c.args.count (function_at c.args.version c.args.classes) c.args.bytes.now) c.loop-function-test.false c.loop-function.invariant,
)
