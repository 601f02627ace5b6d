use Rattle.std.specs.Int.{w32}
use Rattle.x10_model.specs.Readers.{number}
use Rattle.x10_model.specs.ReadingFrames.{Short}
use Rattle.x10_bytes.proofs.Runs.{number_length, run_passes}
use Rattle.x10_frame.specs.Faults.{named}
use Rattle.x10_frame.proofs.parts.past_counts.Goals as goal

pub returns : goal.returns
returns c = record {
  exact = run_passes named (λ x. x.now) c.past.result (number w32 Short) Short 4
      (number_length Short w32) c.args.count c.args.bytes.now (rw c.from.ensures at c.past.ensures.exact);
}
