-- Frames that are counted, one after another, and events.
use Rattle.std.proofs.Common.{◌≡◌, ℕ, suc, ◌+◌, ◌-◌, ◌<◌, ap, arith}
use Rattle.x10_flights.specs.Flights.{FlightsState, flight_of}
use Rattle.x10_stats.specs.Stats.{with_flight, with_flights}
use Rattle.x10_stats.specs.declared.stats.Stats.{Stats}

-- a frame more, and the frames after it
pub one_more : (flights : FlightsState) (n end : ℕ) (s : Stats) → n < end
    → with_flights flights (n + 1) (end - (n + 1)) (with_flight s (flight_of flights n)) ≡ with_flights flights n (end - n) s
one_more flights n end s less =
    let left : suc (end - (n + 1)) ≡ end - n = omega (arith, less) in
    ap (λ k. with_flights flights n k s) left
