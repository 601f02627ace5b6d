use Rattle.std.proofs.Common.{ℕ, refl}
use Rattle.x10_model.specs.Readers.{times}
use Rattle.x10_model.specs.ReadingImages.{text_at}
use Rattle.x10_image.specs.Faults.{named}
use Rattle.x10_bytes.proofs.Loops.{along_start, along_next, along_fault, along_end}
use Rattle.x10_image.proofs.misfit.past_texts.Goals as goal

pub loop-text-init : goal.loop-text-init
loop-text-init c = along_start (λ (_ : ℕ). text_at) (λ s _. s) c.args.count 0 c.args.bytes.now

pub loop-text-preserved : goal.loop-text-preserved
loop-text-preserved c = along_next (λ (_ : ℕ). text_at) (λ s _. s) c.args.count c.loop-text.text 0 0 0 c.loop-text.rest.now c.in-Ok.ensures.exact.0
    c.in-Ok.after.now (times c.args.count text_at c.args.bytes.now) c.loop-text-test.true c.loop-text.invariant c.in-Ok.ensures.exact.1 refl

pub returns-in-Err-clause-fault : goal.returns-in-Err-clause-fault
returns-in-Err-clause-fault c = along_fault (λ (_ : ℕ). text_at) (λ s _. s) c.args.count c.loop-text.text 0 0 c.loop-text.rest.now
    (times c.args.count text_at c.args.bytes.now) (named c.in-Err.field.fault) c.loop-text-test.true c.loop-text.invariant c.in-Err.ensures.exact

pub returns-clause-passed : goal.returns-clause-passed
returns-clause-passed c = (
  c.loop-text.invariant.front,
  along_end (λ (_ : ℕ). text_at)
      (λ s _. s) c.args.count c.loop-text.text 0 0 c.loop-text.rest.now
      (times c.args.count text_at c.args.bytes.now) c.loop-text-test.false c.loop-text.invariant,
)
