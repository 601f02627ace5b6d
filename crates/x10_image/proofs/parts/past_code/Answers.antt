use Rattle.std.proofs.Common.{suc, ◌+◌, add-one}
use Rattle.x10_model.specs.Readers.{numbered}
use Rattle.x10_model.specs.ReadingImages.{instruction_at}
use Rattle.x10_image.specs.Faults.{named}
use Rattle.x10_bytes.proofs.Loops.{along_start, along_next, along_fault, along_end}
use Rattle.x10_image.proofs.parts.past_code.Goals as goal

pub loop-pc-init : goal.loop-pc-init
loop-pc-init c = along_start (instruction_at c.args.version c.args.function) (λ s _. suc s) c.args.count 0 c.args.bytes.now

pub loop-pc-preserved : goal.loop-pc-preserved
loop-pc-preserved c = along_next (instruction_at c.args.version c.args.function) (λ s _. suc s) c.args.count c.loop-pc.pc 0 c.loop-pc.pc
    (c.loop-pc.pc + 1) c.loop-pc.rest.now c.in-Ok.ensures.exact.0 c.in-Ok.value.now (numbered c.args.count
    (instruction_at c.args.version c.args.function) c.args.bytes.now) c.loop-pc-test.true c.loop-pc.invariant c.in-Ok.ensures.exact.1 (add-one _)

pub returns-in-Err : goal.returns-in-Err
returns-in-Err c = record {
  exact =
      along_fault (instruction_at c.args.version c.args.function) (λ s _. suc s) c.args.count c.loop-pc.pc 0 c.loop-pc.pc c.loop-pc.rest.now
      (numbered c.args.count (instruction_at c.args.version c.args.function) c.args.bytes.now) (named c.in-Err.fault) c.loop-pc-test.true
      c.loop-pc.invariant
      c.in-Err.ensures.exact;
}

pub returns : goal.returns
returns c = record {
  exact = (
    c.loop-pc.invariant.front,
    along_end (instruction_at c.args.version c.args.function) (λ s _. suc s)
        c.args.count c.loop-pc.pc 0 c.loop-pc.pc c.loop-pc.rest.now (numbered c.args.count (instruction_at c.args.version c.args.function)
        c.args.bytes.now) c.loop-pc-test.false c.loop-pc.invariant,
  );
}
