use Rattle.std.specs.Prelude.{◌≡◌, ◌≢◌, ℕ, ◌+◌, ◌<◌, ◌≤◌, true}
use Rattle.x10_world.specs.Rounds.{RunsIn}
use Rattle.x10_world.proofs.rounds.drive.run_rounds.Given as goal

abbrev pub invariant-loop : goal.invariant-loop
invariant-loop l = record {
  done : ℕ;
  all : done + l.left ≡ l.limit;
  turns : l.counter ≤ done;
  some : 0 < l.limit → 1 ≤ l.left;
  runs : RunsIn l.initial.world done l.world;
  goes : l.world.stopped ≢ true;
}
