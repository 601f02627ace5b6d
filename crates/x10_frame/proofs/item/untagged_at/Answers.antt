use Rattle.x10_frame.proofs.item.untagged_at.Goals as goal

pub returns-in-7 : goal.returns-in-7
returns-in-7 c = rw c.in-7.is (record { exact = c.ref_at.ensures.exact _ _ _; next = c.ref_at.ensures.next })
