use Rattle.std.proofs.Common.{length}
use Rattle.std.specs.String.{string_bytes}
use Rattle.x10_flights.specs.Flights.{flight_of}
use Rattle.x10_moments.specs.Moments.{flight_piece}
use Rattle.x10_moments.proofs.Pieces.{one_more}
use Rattle.x10_moments.proofs.posts.push_first_flights.Goals as goal

pub loop-number-preserved : goal.loop-number-preserved
loop-number-preserved c = one_more c.loop-number.number
    (λ i. flight_piece (length c.args.world.now.places) (flight_of c.args.world.now.flights i))
    (string_bytes c.args.text.now) (string_bytes c.loop-number.text) (string_bytes c.push_flight.new.text) c.loop-number.invariant
    c.in_ok-push_flight.ensures
