use Rattle.x10_frame.proofs.NodeLists.{nodes_in}
use Rattle.x10_frame.proofs.view.FrameView.nodes_by_version.Goals as goal

pub invariant_of-result : goal.invariant_of-result
invariant_of-result c = rw (c.as_slice-starts.ensures.value)
    (nodes_in _ _ _ _ _ _ _ _ _ _ (rw c.in-Narrow.is at c.self.invariant) c.self.view_is).each

pub invariant_of-result-in-Wide : goal.invariant_of-result-in-Wide
invariant_of-result-in-Wide c = rw (c.as_slice-starts.ensures.value)
    (nodes_in _ _ _ _ _ _ _ _ _ _ (rw c.in-Wide.is at c.self.invariant) c.self.view_is).each

pub returns-in-Narrow : goal.returns-in-Narrow
returns-in-Narrow c = rw (c.as_slice-starts.ensures.value) (record
    { value = (nodes_in _ _ _ _ _ _ _ _ _ _ (rw c.in-Narrow.is at c.self.invariant) c.self.view_is).are })

pub returns-in-Wide : goal.returns-in-Wide
returns-in-Wide c = rw (c.as_slice-starts.ensures.value) (record
    { value = (nodes_in _ _ _ _ _ _ _ _ _ _ (rw c.in-Wide.is at c.self.invariant) c.self.view_is).are })
