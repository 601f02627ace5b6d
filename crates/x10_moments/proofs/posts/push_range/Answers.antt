use Rattle.std.proofs.Common.{◌+◌, length}
use Rattle.std.specs.String.{string_bytes}
use Rattle.x10_flights.specs.Flights.{flight_of}
use Rattle.x10_states.proofs.Elements.{one_more}
use Rattle.x10_moments.specs.Moments.{post_text}
use Rattle.x10_moments.proofs.posts.push_range.Goals as goal

pub loop-i-preserved : goal.loop-i-preserved
loop-i-preserved c = one_more c.loop-i.i
    (λ i. post_text (length c.args.world.now.places) (flight_of c.args.world.now.flights (c.args.first + i)))
    (string_bytes c.args.text.now) (string_bytes c.loop-i.text) (string_bytes c.push_nth.new.text) c.loop-i.invariant c.in_ok-push_nth.ensures
