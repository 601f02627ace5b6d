use Rattle.std.proofs.Common.{arith}
use Rattle.x10_frame.proofs.Shows.{shows, graph_fits}
use Rattle.x10_frame.proofs.view.FrameView.roots.Goals as goal

pub returns-clause-value : goal.returns-clause-value
returns-clause-value c =
    let v = shows _ _ _ _ _ _ _ _ _ _ c.self.invariant c.self.view_is in
    omega (arith, c.from.ensures, v.has.graph_at.count_is)

pub returns-clause-few : goal.returns-clause-few
returns-clause-few c =
    let v = shows _ _ _ _ _ _ _ _ _ _ c.self.invariant c.self.view_is in
    omega (arith, c.from.ensures, v.has.graph_at.count_is, (graph_fits _ _ _ v.fits).count)
