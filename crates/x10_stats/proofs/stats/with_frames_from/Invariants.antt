use Rattle.std.proofs.Common.{◌≡◌, ◌-◌}
use Rattle.x10_stats.specs.Stats.{with_flights}
use Rattle.x10_stats.proofs.stats.with_frames_from.Given as goal

abbrev pub invariant-loop-number : goal.invariant-loop-number
invariant-loop-number l = with_flights l.world.flights l.number (l.number-end - l.number) l.all
    ≡ with_flights l.world.flights l.first (l.number-end - l.first) l.fn.stats
