use Rattle.std.proofs.Common.{ℕ, refl}
use Rattle.x10_model.specs.Readers.{times}
use Rattle.x10_model.specs.ReadingImages.{kind_at}
use Rattle.x10_image.specs.Faults.{named}
use Rattle.x10_bytes.proofs.Loops.{along_start, along_next, along_fault, along_end}
use Rattle.x10_image.proofs.parts.past_kinds.Goals as goal

pub loop-field-init : goal.loop-field-init
loop-field-init c = along_start (λ (_ : ℕ). kind_at c.args.classes) (λ s _. s) c.args.count 0 c.args.bytes.now

pub loop-field-preserved : goal.loop-field-preserved
loop-field-preserved c =
    along_next (λ (_ : ℕ). kind_at c.args.classes) (λ s _. s) c.args.count c.loop-field.field 0 0 0 c.loop-field.rest.now _ c.in-Ok.value.1.now
    (times c.args.count (kind_at c.args.classes) c.args.bytes.now) c.loop-field-test.true c.loop-field.invariant c.in-Ok.ensures.exact refl

pub returns-in-Err : goal.returns-in-Err
returns-in-Err c = record {
  exact =
      along_fault (λ (_ : ℕ). kind_at c.args.classes) (λ s _. s) c.args.count c.loop-field.field 0 0 c.loop-field.rest.now
      (times c.args.count (kind_at c.args.classes) c.args.bytes.now) (named c.in-Err.fault) c.loop-field-test.true c.loop-field.invariant
      c.in-Err.ensures.exact;
}

pub returns : goal.returns
returns c = record {
  exact = (
    c.loop-field.invariant.front,
    along_end (λ (_ : ℕ). kind_at c.args.classes) (λ s _. s) c.args.count c.loop-field.field 0 0 c.loop-field.rest.now
        (times c.args.count (kind_at c.args.classes) c.args.bytes.now) c.loop-field-test.false c.loop-field.invariant,
  );
}
