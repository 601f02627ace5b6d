-- Lines of frames, one after another.
use Rattle.std.proofs.Common.{◌≡◌, ℕ, suc, ◌+◌, ◌-◌, ◌<◌, List, ◌++◌, ap, ◌∙◌, append_assoc, arith}
use Rattle.x10_flights.specs.Flights.{FlightsState, flight_of}
use Rattle.x10_trace.specs.Trace.{flight_line, post_lines}

-- a line more, and the lines after it
pub one_more : (s : FlightsState) (from n end : ℕ) (old : List ℕ) → n < end
    → (old ++ flight_line from (flight_of s n)) ++ post_lines s from (n + 1) (end - (n + 1)) ≡ old ++ post_lines s from n (end - n)
one_more s from n end old less =
    let left : suc (end - (n + 1)) ≡ end - n = omega (arith, less) in
    append_assoc old (flight_line from (flight_of s n)) (post_lines s from (n + 1) (end - (n + 1))) ∙ ap (λ k. old ++ post_lines s from n k) left
