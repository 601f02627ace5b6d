use Rattle.std.proofs.Common.{rules, refl}
use Rattle.x10_workers.proofs.auditing.stop_after.Goals as goal

pub returns : goal.returns
returns c = (
  c.in-Ok.world,
  c.in-Ok.ensures.opened,
  record {
    now = c.replay_log.new.world;
    turn = c.args.begun.now;
    plays = c.in_ok-replay_log.ensures.plays;
    place_is = refl;
    short = record { few_taken = search rules; few_keys = search rules };
    halts = c.in-Err.ensures.halted;
  },
)
