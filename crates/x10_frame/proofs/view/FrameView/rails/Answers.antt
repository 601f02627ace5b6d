use Rattle.std.proofs.Common.{arith}
use Rattle.x10_model.proofs.FrameLaws.{most_wide}
use Rattle.x10_model.proofs.Offsets.{same_length}
use Rattle.x10_frame.proofs.Shows.{shows, graph_fits}
use Rattle.x10_frame.proofs.view.FrameView.rails.Goals as goal

pub returns-clause-value : goal.returns-clause-value
returns-clause-value c =
    let v = shows _ _ _ _ _ _ _ _ _ _ c.self.invariant c.self.view_is in
    omega (arith, c.len.ensures, c.self.inside.body.rails.ok, same_length _ _ _ v.has.graph_at.rails_at)

pub returns-clause-few : goal.returns-clause-few
returns-clause-few c =
    let v = shows _ _ _ _ _ _ _ _ _ _ c.self.invariant c.self.view_is in
    omega (
      arith,
      c.len.ensures,
      c.self.inside.body.rails.ok,
      same_length _ _ _ v.has.graph_at.rails_at,
      (graph_fits _ _ _ v.fits).rails.0,
      most_wide c.self.inside.version,
    )
