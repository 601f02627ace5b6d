use Rattle.std.proofs.Common.{◌≡◌, arith}
use Rattle.x10_frame.proofs.ReadAgain.{left_start, is_there, left_next, nth_is}
use Rattle.x10_frame.proofs.item.nth_item.Goals as goal

pub loop-init : goal.loop-init
loop-init c = left_start c.args.version c.args.places c.args.count c.args.bytes.now c.requires.there

pub known_item-requires : goal.known_item-requires
known_item-requires c = (
  c.args.places,
  is_there c.args.version c.args.places c.args.count c.loop.counter c.loop.rest.now _
      (omega (arith, c.requires.below, c.loop-test.true)) c.loop.invariant,
)

pub loop-preserved : goal.loop-preserved
loop-preserved c = left_next c.args.version c.args.places c.args.count c.loop.counter c.loop.rest.now _ _ c.known_item.result.1.now
    (omega (arith, c.requires.below, c.loop-test.true)) c.loop.invariant
    (c.known_item.ensures c.args.places (is_there c.args.version c.args.places c.args.count c.loop.counter c.loop.rest.now _
    (omega (arith, c.requires.below, c.loop-test.true)) c.loop.invariant))

pub known_item-item-requires : goal.known_item-item-requires
known_item-item-requires c = (
  c.args.places,
  is_there c.args.version c.args.places c.args.count c.loop.counter c.loop.rest.now _
      (omega (arith, c.requires.below, c.loop-test.false, c.loop.auto.counter-end)) c.loop.invariant,
)

pub returns : goal.returns
returns c =
    let end : c.args.i ≡ c.loop.counter = omega (arith, c.loop-test.false, c.loop.auto.counter-end) in
    rw end (nth_is c.args.version c.args.places c.args.count c.loop.counter c.loop.rest.now _ _ c.known_item-item.result.1.now
    (omega (arith, c.requires.below, c.loop-test.false, c.loop.auto.counter-end)) c.loop.invariant
    (c.known_item-item.ensures c.args.places (is_there c.args.version c.args.places c.args.count c.loop.counter c.loop.rest.now _
    (omega (arith, c.requires.below, c.loop-test.false, c.loop.auto.counter-end)) c.loop.invariant)))
