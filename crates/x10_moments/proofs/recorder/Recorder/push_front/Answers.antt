use Rattle.std.proofs.Common.{ℕ, ap, length}
use Rattle.std.specs.String.{string_bytes}
use Rattle.x10_states.proofs.Pieces.{three}
use Rattle.x10_moments.specs.Pages.{counts_part, data_front, flights_part, listing_part}
use Rattle.x10_moments.proofs.recorder.Recorder.push_front.Goals as goal

pub returns : goal.returns
unfolding data_front
returns c =
    let places = length c.args.world.now.places in
    three c.push_flights_part.result (string_bytes c.args.text.now) (string_bytes c.push_listing.new.text) (string_bytes c.push_counts.new.text)
    (string_bytes c.push_flights_part.new.text) (listing_part c.args.self.now.program) (counts_part c.count.result c.args.before)
    (counts_part places c.args.before) (flights_part places c.args.world.now.flights) c.in_ok-push_listing.ensures c.in_ok-push_counts.ensures
    (ap (λ (n : ℕ). counts_part n c.args.before) c.count.ensures) c.push_flights_part.ensures
