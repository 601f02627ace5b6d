use Rattle.x10_place.proofs.Numbers.{quotient_is}
use Rattle.x10_place.proofs.call_frame.quotient.Goals as goal

pub returns : goal.returns
returns c = quotient_is c.args.x c.args.y c.wrapping_div.result c.ranges.x c.ranges.y
    (record { sfits = c.wrapping_div.type_inv }) c.if-y-eq0.false c.wrapping_div.ensures
