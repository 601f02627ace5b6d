use Rattle.std.proofs.Common.{ℕ, refl}
use Rattle.x10_model.specs.Readers.{times}
use Rattle.x10_model.specs.ReadingImages.{class_at}
use Rattle.x10_image.specs.Faults.{named}
use Rattle.x10_bytes.proofs.Loops.{along_start, along_next, along_fault, along_end}
use Rattle.x10_image.proofs.misfit.past_classes.Goals as goal

pub loop-class-init : goal.loop-class-init
loop-class-init c = along_start (λ (_ : ℕ). class_at c.args.count) (λ s _. s) c.args.count 0 c.args.bytes.now

pub loop-class-preserved : goal.loop-class-preserved
loop-class-preserved c = along_next (λ (_ : ℕ). class_at c.args.count)
    (λ s _. s) c.args.count c.loop-class.class 0 0 0 c.loop-class.rest.now c.in-Ok.ensures.exact.0 c.in-Ok.after.now
    (times c.args.count (class_at c.args.count) c.args.bytes.now) c.loop-class-test.true c.loop-class.invariant c.in-Ok.ensures.exact.1 refl

pub returns-in-Err-clause-fault : goal.returns-in-Err-clause-fault
returns-in-Err-clause-fault c = along_fault (λ (_ : ℕ). class_at c.args.count) (λ s _. s) c.args.count c.loop-class.class 0 0 c.loop-class.rest.now
    (times c.args.count (class_at c.args.count) c.args.bytes.now)
    (named c.in-Err.field.fault) c.loop-class-test.true c.loop-class.invariant c.in-Err.ensures.exact

pub returns-clause-passed : goal.returns-clause-passed
returns-clause-passed c = (
  c.loop-class.invariant.front,
  along_end (λ (_ : ℕ). class_at c.args.count)
      (λ s _. s) c.args.count c.loop-class.class 0 0 c.loop-class.rest.now
      (times c.args.count (class_at c.args.count) c.args.bytes.now) c.loop-class-test.false c.loop-class.invariant,
)
