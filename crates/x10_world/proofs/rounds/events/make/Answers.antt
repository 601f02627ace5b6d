use Rattle.std.proofs.Common.{arith}
use Rattle.x10_world.specs.declared.rounds.Unfinished.TheVariants as halt
use Rattle.x10_world.proofs.RunCounts.{cut_is, cut_one, in_one}
use Rattle.x10_world.proofs.rounds.events.make.Goals as goal

pub returns-in_err-moved-clause-cut : goal.returns-in_err-moved-clause-cut
returns-in_err-moved-clause-cut c = cut_is c.from_residual.result
    (halt.Stop c.in_err-moved.field-0.0) c.args.world.now c.make_one.new.self c.from_residual.ensures.1
    (λ limit. cut_one c.args.world.now c.make_one.new.self c.args.event limit c.in_err-moved.field-0.0 c.in_err-moved.ensures.stops)

pub returns-clause-made : goal.returns-clause-made
returns-clause-made c = record {
  few = omega arith;
  runs = in_one c.args.world.now c.make_one.new.self c.args.event c.in_ok-moved.ensures.kept
      c.in_ok-moved.ensures.made;
  goes = c.in_ok-moved.ensures.goes;
}
