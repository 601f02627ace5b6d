use Rattle.std.proofs.Common.{subst, arith}
use Rattle.x10_world.specs.Rounds.{RunsIn}
use Rattle.x10_world.proofs.RunCounts.{advances_after}
use Rattle.x10_world.proofs.rounds.Rounds.begin.Goals as goal

pub returns : goal.returns
returns c = record {
  made = advances_after c.args.world.now c.make_each.new.world c.sweep_all.new.world c.args.left c.sweep_all.result
      (subst (λ n. RunsIn c.args.world.now n c.make_each.new.world) (omega (arith, c.if-made-gt0.false)) c.in_ok-made.ensures.made.runs)
      c.sweep_all.ensures.made;
}
