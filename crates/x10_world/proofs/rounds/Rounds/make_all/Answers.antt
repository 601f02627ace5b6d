use Rattle.std.proofs.Common.{subst, arith}
use Rattle.x10_world.specs.Rounds.{RunsIn}
use Rattle.x10_world.proofs.RunCounts.{ends_after}
use Rattle.x10_world.proofs.rounds.Rounds.make_all.Goals as goal

pub returns : goal.returns
returns c = record {
  made = ends_after c.args.world.now c.begin_all.new.world c.make_next.new.world c.args.left c.make_next.result
      (subst (λ n. RunsIn c.args.world.now n c.begin_all.new.world) (omega (arith, c.if-made-gt0.false)) c.in_ok-made.ensures.made.runs)
      c.make_next.ensures.made;
}
