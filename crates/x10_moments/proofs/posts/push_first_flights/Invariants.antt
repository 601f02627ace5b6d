use Rattle.std.proofs.Common.{◌≡◌, ◌++◌, length}
use Rattle.std.specs.String.{string_bytes}
use Rattle.x10_moments.specs.Moments.{flight_pieces}
use Rattle.x10_moments.proofs.posts.push_first_flights.Given as goal

abbrev pub invariant-loop-number : goal.invariant-loop-number
invariant-loop-number l = string_bytes l.text ≡ string_bytes l.initial.text
    ++ flight_pieces (length l.world.places) l.world.flights l.number
