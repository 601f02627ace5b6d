use Rattle.std.specs.Prelude.{◌≡◌, ◌≢◌, ◌≤◌, true}
use Rattle.x10_place.specs.StandsFor.{Keeps}
use Rattle.x10_place.specs.Sweeps.{Sweeps}
use Rattle.x10_place.proofs.place.Place.sweep.Given as goal

abbrev pub invariant-loop-at : goal.invariant-loop-at
invariant-loop-at l = record {
  sweeps : Sweeps l.keys l.fn.self l.at l.moved l.self;
  kept : Keeps l.fn.self l.self;
  few : l.moved ≤ l.at;
  goes : l.fn.self.stopped ≢ true → l.self.stopped ≢ true;
  on : l.fn.self.stopped ≡ true → (l.at ≡ 0) × (l.self ≡ l.fn.self);
}
