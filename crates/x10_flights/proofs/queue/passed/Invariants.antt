use Rattle.std.proofs.Common.{◌≡◌, ℕ, ◌<◌, false, get_or}
use Rattle.x10_flights.specs.Flights.{flies_to}
use Rattle.x10_flights.proofs.queue.passed.Given as goal

abbrev pub invariant-loop-at : goal.invariant-loop-at
invariant-loop-at l = (k : ℕ) → k < l.at → flies_to l.table.flying l.place (get_or l.numbers k 0) ≡ false
