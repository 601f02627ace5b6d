use Rattle.std.proofs.Common.{◌≡◌}
use Rattle.x10_stats.specs.Stats.{stays_at}
use Rattle.x10_stats.proofs.stats.stays_in.Given as goal

abbrev pub invariant-loop-place : goal.invariant-loop-place
invariant-loop-place l = l.stays ≡ stays_at l.world.places l.place
