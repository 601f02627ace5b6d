use Rattle.std.proofs.Common.{subst, sym}
use Rattle.x10_model.specs.Readers.{int, times}
use Rattle.x10_model.specs.ReadingImages.{Short}
use Rattle.x10_bytes.proofs.Runs.{int_length, run_passes}
use Rattle.x10_image.specs.Faults.{named, IsFault, ParsesImage}
use Rattle.x10_image.proofs.parts.past_ints.Goals as goal

pub returns-in-Ok : goal.returns-in-Ok
returns-in-Ok c = record {
  exact =
      subst (λ r. ParsesImage (λ x. x.now) r (times c.args.count (int Short) c.args.bytes.now)) c.in-Ok.is
      (run_passes named (λ x. x.now) c.past.result (int Short) Short 8 (int_length Short) c.args.count c.args.bytes.now
      (rw c.from.ensures at c.past.ensures.exact));
}

pub returns-in-Err : goal.returns-in-Err
returns-in-Err c = record {
  exact =
      subst (λ f. IsFault (named f) (times c.args.count (int Short) c.args.bytes.now)) (sym c.int_field.ensures)
      (subst (λ r. ParsesImage (λ x. x.now) r (times c.args.count (int Short) c.args.bytes.now)) c.in-Err.is
      (run_passes named (λ x. x.now) c.past.result (int Short) Short 8 (int_length Short) c.args.count c.args.bytes.now
      (rw c.from.ensures at c.past.ensures.exact)));
}
