use Rattle.std.proofs.Common.{sym}
use Rattle.x10_frame.proofs.Shows.{shows}
use Rattle.x10_frame.proofs.Spelled.{head_part}
use Rattle.x10_frame.proofs.view.FrameView.head.Goals as goal

pub returns-clause-value : goal.returns-clause-value
returns-clause-value c =
    let v = shows _ _ _ _ _ _ _ _ _ _ c.self.invariant c.self.view_is in
    sym v.head_is

pub returns-clause-part : goal.returns-clause-part
returns-clause-part c = λ v. head_part v _ _ (returns-clause-value c)
