use Rattle.std.proofs.Common.{sym, ◌∙◌}
use Rattle.x10_frame.proofs.ReadAgain.{items_in_length}
use Rattle.x10_frame.proofs.values.Values.left.Goals as goal

pub returns : goal.returns
returns c = rw (← c.self.view_is) (record {
  value = c.from.ensures
      ∙ sym (items_in_length c.self.inside.version c.self.inside.places c.self.inside.count c.self.inside.bytes.now c.self.invariant);
})
