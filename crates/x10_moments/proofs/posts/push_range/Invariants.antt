use Rattle.std.proofs.Common.{◌≡◌, ◌+◌, ◌++◌, length}
use Rattle.std.specs.String.{string_bytes}
use Rattle.x10_flights.specs.Flights.{flight_of}
use Rattle.x10_states.specs.Json.{elements}
use Rattle.x10_moments.specs.Moments.{post_text}
use Rattle.x10_moments.proofs.posts.push_range.Given as goal

abbrev pub invariant-loop-i : goal.invariant-loop-i
invariant-loop-i l = string_bytes l.text ≡ string_bytes l.initial.text
    ++ elements l.i (λ i. post_text (length l.world.places) (flight_of l.world.flights (l.first + i)))
