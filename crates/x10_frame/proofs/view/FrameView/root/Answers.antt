use Rattle.std.proofs.Common.{arith}
use Rattle.x10_frame.proofs.Shows.{shows, graph_fits, roots_at, start_small}
use Rattle.x10_frame.proofs.Spelled.{root_part}
use Rattle.x10_frame.proofs.view.FrameView.root.Goals as goal

pub bytes_from-requires : goal.bytes_from-requires
bytes_from-requires c =
    let v = shows _ _ _ _ _ _ _ _ _ _ c.self.invariant c.self.view_is in
    start_small _ _ _ _ (omega (arith, c.requires)) v.has.graph_at.roots_at

pub nth_item-requires-clause-there : goal.nth_item-requires-clause-there
nth_item-requires-clause-there c =
    let v = shows _ _ _ _ _ _ _ _ _ _ c.self.invariant c.self.view_is in
    rw c.bytes_from.ensures (roots_at _ _ _ _ _ _ v.few (graph_fits _ _ _ v.fits) v.has.graph_at.count_is v.has.graph_at.roots_at).there

pub nth_item-requires-clause-below : goal.nth_item-requires-clause-below
nth_item-requires-clause-below c =
    let v = shows _ _ _ _ _ _ _ _ _ _ c.self.invariant c.self.view_is in
    omega (arith, c.requires, v.has.graph_at.count_is)

pub returns-clause-value : goal.returns-clause-value
returns-clause-value c =
    let v = shows _ _ _ _ _ _ _ _ _ _ c.self.invariant c.self.view_is in
    let r = roots_at _ _ _ _ _ _ v.few (graph_fits _ _ _ v.fits) v.has.graph_at.count_is v.has.graph_at.roots_at in
    rw (← r.are, ← c.bytes_from.ensures) c.nth_item.ensures

pub returns-clause-part : goal.returns-clause-part
returns-clause-part c = λ v. root_part v _ c.args.i _ (returns-clause-value c)
