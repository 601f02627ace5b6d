use Rattle.std.proofs.Common.{◌<◌, sym, ◌∙◌, arith}
use Rattle.x10_frame.proofs.ReadAgain.{items_in_length, some_there, stepped}
use Rattle.x10_frame.proofs.values.Values.step.Goals as goal

pub known_item-item-requires : goal.known_item-item-requires
known_item-item-requires c =
    let some : 0 < c.self.inside.count = omega (
      arith,
      items_in_length c.self.inside.version c.self.inside.places c.self.inside.count
          c.self.inside.bytes.now c.self.invariant,
      rw (← c.self.view_is) at c.requires,
    ) in
    (c.self.inside.places, some_there c.self.inside.version c.self.inside.places c.self.inside.count c.self.inside.bytes.now c.self.invariant some)

pub overflow_sub-self : goal.overflow_sub-self
overflow_sub-self c = omega (
  arith,
  items_in_length c.self.inside.version c.self.inside.places c.self.inside.count c.self.inside.bytes.now
      c.self.invariant,
  rw (← c.self.view_is) at c.requires,
)

pub invariant_of-self : goal.invariant_of-self
invariant_of-self c =
    let some : 0 < c.self.inside.count = omega (
      arith,
      items_in_length c.self.inside.version c.self.inside.places c.self.inside.count
          c.self.inside.bytes.now c.self.invariant,
      rw (← c.self.view_is) at c.requires,
    ) in
    let there = some_there c.self.inside.version c.self.inside.places c.self.inside.count c.self.inside.bytes.now c.self.invariant some in
    (stepped c.self.inside.version c.self.inside.places c.self.inside.count c.self.inside.bytes.now _ c.known_item-item.result.1.now c.self.invariant
    some (c.known_item-item.ensures c.self.inside.places there)).there

pub returns : goal.returns
returns c =
    let some : 0 < c.self.inside.count = omega (
      arith,
      items_in_length c.self.inside.version c.self.inside.places c.self.inside.count
          c.self.inside.bytes.now c.self.invariant,
      rw (← c.self.view_is) at c.requires,
    ) in
    let there = some_there c.self.inside.version c.self.inside.places c.self.inside.count c.self.inside.bytes.now c.self.invariant some in
    sym c.self.view_is ∙ (stepped c.self.inside.version c.self.inside.places c.self.inside.count c.self.inside.bytes.now _
    c.known_item-item.result.1.now c.self.invariant some (c.known_item-item.ensures c.self.inside.places there)).are
