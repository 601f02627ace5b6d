use Rattle.std.specs.Prelude.{◌≡◌, ◌≢◌, ◌≤◌, true, false, length, map}
use Rattle.x10_hall.specs.Halls.{frame_of}
use Rattle.x10_hall.specs.declared.limits.TheConstants.{MOST_STEPS}
use Rattle.x10_workers.specs.Trails.{StepsEach}
use Rattle.x10_workers.proofs.worker.Worker.make_steps.Given as goal

abbrev pub invariant-loop : goal.invariant-loop
invariant-loop l = record {
  steps : StepsEach l.fn.self.place l.steps.keys (map frame_of l.steps.frames.items) l.self.place;
  goes : l.self.place.stopped ≢ true;
  still : l.steps.moved ≡ false → l.self.place ≡ l.fn.self.place;
  kept : l.self.kept ≡ l.fn.self.kept;
  few : length l.steps.keys ≤ MOST_STEPS;
}
