use Rattle.std.proofs.Common.{ap, ◌+◌, ◌-◌, ◌∙◌}
use Rattle.x10_stats.specs.Stats.{with_flights}
use Rattle.x10_stats.proofs.FramesCounted.{one_more}
use Rattle.x10_stats.proofs.stats.with_frames_from.Goals as goal

pub loop-number-preserved : goal.loop-number-preserved
loop-number-preserved c =
    ap (λ s. with_flights c.args.world.now.flights (c.loop-number.number + 1) (c.posted-number-end.result - (c.loop-number.number + 1)) s)
    c.with_number-all.ensures
    ∙ (one_more c.args.world.now.flights c.loop-number.number c.posted-number-end.result c.loop-number.all c.loop-number-test.true
    ∙ c.loop-number.invariant)
