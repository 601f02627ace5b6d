use Rattle.std.proofs.Common.{◌++◌, codes, length}
use Rattle.std.specs.String.{string_bytes}
use Rattle.x10_moments.specs.Moments.{flights_text}
use Rattle.x10_moments.specs.Pages.{flights_part}
use Rattle.x10_moments.proofs.Pieces.{joined}
use Rattle.x10_moments.proofs.recorder.push_flights_part.Goals as goal

pub returns : goal.returns
unfolding flights_part
returns c =
    let named = codes ",\"flights\":" in
    let flights = flights_text (length c.args.world.now.places) c.args.world.now.flights in
    let end = codes ",\"moments\":[\n" in
    let text = string_bytes c.push_str-2.new.self in
    joined (string_bytes c.args.text.now) (string_bytes c.push_str.new.self) text named (flights ++ end) c.in_ok-push_str.ensures.bytes
    (joined (string_bytes c.push_str.new.self) (string_bytes c.push_flights.new.text) text flights end c.in_ok-push_flights.ensures
    c.in_ok-push_str-2.ensures.bytes)
