use Rattle.std.proofs.Common.{◌+◌, ◌-◌, ◌*◌, drop, arith, length-take, length-drop}
use Rattle.x10_image.proofs.Decoded.{kinds_long}
use Rattle.x10_image.proofs.offsets.class_in.Goals as goal

pub invariant_of-result : goal.invariant_of-result
invariant_of-result c = kinds_long c.from-count.result _ (omega (
  arith,
  length-take (c.args.at + 1 + 3 * c.from-count.result - (c.args.at + 1)) (drop (c.args.at + 1) c.args.bytes.now),
  length-drop (c.args.at + 1) c.args.bytes.now,
))
