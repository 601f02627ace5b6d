use Rattle.x10_world.specs.declared.rounds.Unfinished.TheVariants as halt
use Rattle.x10_world.proofs.RunCounts.{err_is, has_none}
use Rattle.x10_world.proofs.rounds.Rounds.sweep_next.Goals as goal

pub returns-in_default : goal.returns-in_default
returns-in_default c = record { made = has_none c.args.world.now c.args.left c.requires.going }

pub returns-then-from-len : goal.returns-then-from-len
returns-then-from-len c = record { made = has_none c.args.world.now c.args.left c.requires.going }

pub returns-in_err-swept : goal.returns-in_err-swept
returns-in_err-swept c = record {
  made = err_is c.from_residual.result c.in_err-swept.field-0.0 _ _ c.from_residual.ensures.1 c.in_err-swept.ensures.made;
}

pub returns-in_err-look : goal.returns-in_err-look
returns-in_err-look c =
    let made = c.in_ok-swept.ensures.made in
    record {
      made = err_is c.from_residual-in_err-look.result halt.Memory _ _ c.from_residual-in_err-look.ensures.1
          (c.in_ok-swept.swept.made, made.few, made.runs, made.goes);
    }

pub returns : goal.returns
returns c = record { made = c.in_ok-swept.ensures.made }
