use Rattle.x10_world.proofs.RunCounts.{err_is, has_none}
use Rattle.x10_world.proofs.rounds.Rounds.take_next.Goals as goal

pub returns-in_default : goal.returns-in_default
returns-in_default c = record { made = has_none c.args.world.now c.args.left c.requires.going }

pub returns-in_default-first_frame : goal.returns-in_default-first_frame
returns-in_default-first_frame c = record { made = has_none c.args.world.now c.args.left c.requires.going }

pub returns-in_err-make : goal.returns-in_err-make
returns-in_err-make c = record {
  made = err_is c.from_residual.result c.in_err-make.field-0.0 _ _ c.from_residual.ensures.1 (c.in_err-make.ensures.cut c.args.left);
}
