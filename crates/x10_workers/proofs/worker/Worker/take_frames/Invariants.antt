use Rattle.std.specs.Prelude.{◌≡◌, ◌≢◌, ◌≤◌, true, length, map}
use Rattle.x10_hall.specs.Halls.{told}
use Rattle.x10_workers.specs.Trails.{TakesEach}
use Rattle.x10_workers.proofs.worker.Worker.take_frames.Given as goal

abbrev pub invariant-loop : goal.invariant-loop
invariant-loop g l = record {
  takes : TakesEach l.fn.self.place (map told l.taken.items) l.self.place;
  goes : l.self.place.stopped ≢ true;
  kept : l.self.kept ≡ l.fn.self.kept;
  few : length l.taken.items ≤ l.counter;
}
