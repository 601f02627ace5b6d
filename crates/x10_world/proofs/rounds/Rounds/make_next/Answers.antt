use Rattle.std.proofs.Common.{arith}
use Rattle.x10_world.specs.declared.rounds.Unfinished.TheVariants as halt
use Rattle.x10_world.proofs.RunCounts.{err_is, in_none}
use Rattle.x10_world.proofs.rounds.Rounds.make_next.Goals as goal

pub returns-in_err-event : goal.returns-in_err-event
returns-in_err-event c = record {
  made = err_is c.from_residual.result halt.Memory _ _ c.from_residual.ensures.1
      (0, omega arith, in_none c.args.world.now, c.requires.going);
}

pub returns-in-None : goal.returns-in-None
returns-in-None c = record {
  made = (
    record { few = omega arith; runs = in_none c.args.world.now; goes = c.requires.going },
    (λ e. c.in_ok-event.ensures.none c.in-None.is),
  );
}
