use Rattle.x10_frame.proofs.SpelledParts.{all_written}
use Rattle.x10_frame.proofs.spell.put_items.Goals as goal

pub returns : goal.returns
returns c = all_written c.args.out.now.items c.loop-item.out.items c.args.items.now c.loop-item.item-index c.loop-item-test.false
    c.loop-item.invariant
