use Rattle.std.proofs.Common.{[], ◌∷◌, ◌++◌, refl}
use Rattle.x10_cli.proofs.ShowLemmas.{skips_more, skips_none}
use Rattle.x10_cli.proofs.WindowLemmas.{one_longer}
use Rattle.x10_cli.proofs.shown.skip_events.Goals as goal

pub loop-made-init : goal.loop-made-init
loop-made-init c = record { events = []; skips = skips_none c.args.world.now; count = refl }

pub loop-made-preserved : goal.loop-made-preserved
loop-made-preserved c = record {
  events = c.loop-made.invariant.events ++ c.in_ok-event.event ∷ [];
  skips = skips_more c.args.world.now c.loop-made.world c.event.new.self c.loop-made.invariant.events c.in_ok-event.event
      c.loop-made.invariant.skips c.event.ensures.kept c.in_ok-event-2.ensures.ok c.in_ok-event-2.field-0 c.in_ok-event-2.ensures.done;
  count = one_longer c.loop-made.invariant.events c.in_ok-event.event c.loop-made.made c.loop-made.invariant.count;
}

pub returns-then-closed-clause-ended : goal.returns-then-closed-clause-ended
returns-then-closed-clause-ended c = λ less. record { over = λ w stand. c.closed.ensures.ended w stand c.if-closed.true }
