use Rattle.std.proofs.Common.{ℕ, refl}
use Rattle.x10_model.specs.Readers.{times}
use Rattle.x10_model.specs.ReadingImages.{slot_at}
use Rattle.x10_image.specs.Faults.{named}
use Rattle.x10_bytes.proofs.Loops.{along_start, along_next, along_fault, along_end}
use Rattle.x10_image.proofs.parts.past_slots.Goals as goal

pub loop-parameter-init : goal.loop-parameter-init
loop-parameter-init c = along_start (λ (_ : ℕ). slot_at c.args.classes) (λ s _. s) c.args.count 0 c.args.bytes.now

pub loop-parameter-preserved : goal.loop-parameter-preserved
loop-parameter-preserved c =
    along_next (λ (_ : ℕ). slot_at c.args.classes) (λ s _. s) c.args.count c.loop-parameter.parameter 0 0 0 c.loop-parameter.rest.now _
    c.in-Ok.value.1.now
    (times c.args.count (slot_at c.args.classes) c.args.bytes.now) c.loop-parameter-test.true c.loop-parameter.invariant c.in-Ok.ensures.exact refl

pub returns-in-Err : goal.returns-in-Err
returns-in-Err c = record {
  exact =
      along_fault (λ (_ : ℕ). slot_at c.args.classes) (λ s _. s) c.args.count c.loop-parameter.parameter 0 0 c.loop-parameter.rest.now
      (times c.args.count (slot_at c.args.classes) c.args.bytes.now) (named c.in-Err.fault) c.loop-parameter-test.true
      c.loop-parameter.invariant c.in-Err.ensures.exact;
}

pub returns : goal.returns
returns c = record {
  exact = (
    c.loop-parameter.invariant.front,
    along_end (λ (_ : ℕ). slot_at c.args.classes) (λ s _. s) c.args.count c.loop-parameter.parameter 0 0 c.loop-parameter.rest.now
        (times c.args.count (slot_at c.args.classes) c.args.bytes.now) c.loop-parameter-test.false c.loop-parameter.invariant,
  );
}
