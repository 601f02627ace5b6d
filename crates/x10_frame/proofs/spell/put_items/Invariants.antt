use Rattle.std.proofs.Common.{◌≡◌, ◌++◌, take, flat_map}
use Rattle.x10_model.specs.declared.version.FrameVersion.TheVariants.{Wide}
use Rattle.x10_model.specs.Frames.{item_bytes}
use Rattle.x10_frame.specs.Items.{item_of}
use Rattle.x10_frame.proofs.spell.put_items.Given as goal

abbrev pub invariant-loop-item : goal.invariant-loop-item
invariant-loop-item l = l.out.items ≡ l.initial.out.items ++ flat_map (λ i. (item_bytes Wide) (item_of i)) (take l.item-index l.items)
