use Rattle.std.proofs.Common.{arith}
use Rattle.x10_world.specs.declared.rounds.Unfinished.TheVariants as halt
use Rattle.x10_world.proofs.RunCounts.{err_is, in_none, has_none}
use Rattle.x10_world.proofs.rounds.Rounds.sweep_all.Goals as goal

pub returns-in_err-begin_sweep : goal.returns-in_err-begin_sweep
returns-in_err-begin_sweep c = record {
  made = err_is c.from_residual.result halt.Memory _ _ c.from_residual.ensures.1
      (0, omega arith, in_none c.args.world.now, c.requires.going);
}

pub returns-then-not-branch : goal.returns-then-not-branch
returns-then-not-branch c = record { made = has_none c.args.world.now c.args.left c.requires.going }
