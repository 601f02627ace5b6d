use Rattle.std.specs.Prelude.{◌≢◌, ◌<◌, true}
use Rattle.x10_world.specs.Rounds.{RunsIn}
use Rattle.x10_world.proofs.rounds.Rounds.make_each.Given as goal

abbrev pub invariant-loop : goal.invariant-loop
invariant-loop g l = record {
  less : l.made < l.left;
  runs : RunsIn l.initial.world l.made l.world;
  goes : l.world.stopped ≢ true;
}
