use Rattle.std.proofs.Common.{◌+◌, ◌-◌, ◌*◌, drop, arith, length-take, length-drop}
use Rattle.x10_image.proofs.Decoded.{slots_long}
use Rattle.x10_image.proofs.offsets.signature_in.Goals as goal

pub invariant_of-result : goal.invariant_of-result
invariant_of-result c = slots_long c.from.result _ (omega (
  arith,
  length-take (c.args.at + 4 + 4 * c.from.result - (c.args.at + 4)) (drop (c.args.at + 4) c.args.bytes.now),
  length-drop (c.args.at + 4) c.args.bytes.now,
))
