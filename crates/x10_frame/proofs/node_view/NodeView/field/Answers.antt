use Rattle.std.proofs.Common.{arith}
use Rattle.x10_frame.proofs.ReadAgain.{items_in_length}
use Rattle.x10_frame.proofs.node_view.NodeView.field.Goals as goal

pub nth_item-requires-clause-below : goal.nth_item-requires-clause-below
nth_item-requires-clause-below c =
    omega (
      arith,
      c.from.ensures,
      items_in_length c.self.inside.version c.self.inside.places c.self.inside.count c.self.inside.values.now
          c.self.invariant,
      rw (← c.self.view_is) at c.requires,
    )
