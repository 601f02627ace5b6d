use Rattle.std.specs.Prelude.{◌≡◌, ◌+◌, ◌<◌, ℕ, Some, slice_get}
use Rattle.x10_workers.specs.Plays.{flight_as}
use Rattle.x10_flights.specs.Flights.{flight_of}
use Rattle.x10_hall.specs.declared.turn.Posted.{Posted}
use Rattle.x10_workers.proofs.turns.were_posted.Given as goal

abbrev pub invariant-loop-at : goal.invariant-loop-at
invariant-loop-at l = (i : ℕ) (f : Posted) → i < l.at → slice_get l.frames i ≡ Some f
    → flight_of l.world.flights (l.first + i) ≡ Some (flight_as (l.first + i) f)
