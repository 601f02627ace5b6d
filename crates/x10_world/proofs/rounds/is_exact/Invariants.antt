use Rattle.std.specs.Prelude.{take}
use Rattle.x10_flights.specs.Flights.{RisingBy}
use Rattle.x10_world.proofs.LivingLemmas.{Lives, Every}
use Rattle.x10_world.proofs.rounds.is_exact.Given as goal

-- the keys so far rise, and are in use
abbrev pub invariant-loop-key : goal.invariant-loop-key
invariant-loop-key l = record {
  rising : RisingBy (λ n. n) 0 (take l.key-index l.keys) l.least;
  every : Every (Lives l.world.places l.place) (take l.key-index l.keys);
}
