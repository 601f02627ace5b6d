use Rattle.std.proofs.Common.{arith}
use Rattle.x10_world.specs.declared.rounds.Unfinished.TheVariants as halt
use Rattle.x10_world.proofs.RunCounts.{err_is, in_none, has_none}
use Rattle.x10_world.proofs.rounds.Rounds.begin_all.Goals as goal

pub returns-in_err-begin_steps : goal.returns-in_err-begin_steps
returns-in_err-begin_steps c = record {
  made = err_is c.from_residual.result halt.Memory _ _ c.from_residual.ensures.1
      (0, omega arith, in_none c.args.world.now, c.requires.going);
}

pub returns-in_default : goal.returns-in_default
returns-in_default c = record { made = has_none c.args.world.now c.args.left c.requires.going }

pub returns-then-is_some : goal.returns-then-is_some
returns-then-is_some c = record { made = has_none c.args.world.now c.args.left c.requires.going }
