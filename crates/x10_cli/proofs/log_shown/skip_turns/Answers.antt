use Rattle.std.proofs.Common.{[], ◌∷◌, ◌++◌, refl}
use Rattle.x10_cli.proofs.ShowLemmas.{skips_more, skips_none}
use Rattle.x10_cli.proofs.ShownLemmas.{split_more}
use Rattle.x10_cli.proofs.WindowLemmas.{one_longer}
use Rattle.x10_cli.proofs.log_shown.skip_turns.Goals as goal

pub loop-made-init : goal.loop-made-init
loop-made-init c = record { events = []; skips = skips_none c.args.world.now; count = refl; split = refl; goes = c.requires }

pub loop-made-preserved : goal.loop-made-preserved
loop-made-preserved c = record {
  events = c.loop-made.invariant.events ++ c.in-Some.event ∷ [];
  skips = skips_more c.args.world.now c.loop-made.world c.event.new.self c.loop-made.invariant.events c.in-Some.event
      c.loop-made.invariant.skips c.event.ensures.kept c.in_ok-event.ensures.ok c.in_ok-event.field-0 c.in_ok-event.ensures.done;
  count = one_longer c.loop-made.invariant.events c.in-Some.event c.loop-made.made c.loop-made.invariant.count;
  split = split_more c.loop-made.invariant.events c.loop-made.events c.next.new.self c.args.events.now c.in-Some.event
      c.in-Some.ensures c.loop-made.invariant.split;
  goes = c.in_ok-event.ensures.goes;
}
