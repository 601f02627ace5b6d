use Rattle.std.proofs.Common.{arith}
use Rattle.x10_model.specs.Frames.{node_bytes}
use Rattle.x10_model.proofs.Offsets.{same_length}
use Rattle.x10_frame.proofs.Shows.{shows, graph_fits, few_of, node_fits, node_at}
use Rattle.x10_bytes.proofs.Parts.{item_in}
use Rattle.x10_frame.proofs.Spelled.{node_part}
use Rattle.x10_frame.proofs.view.FrameView.node.Goals as goal

pub index-requires : goal.index-requires
index-requires c =
    let v = shows _ _ _ _ _ _ _ _ _ _ c.self.invariant c.self.view_is in
    omega (arith, c.requires, c.self.inside.body.nodes.ok, same_length _ _ _ v.has.graph_at.nodes_at)

pub node_in-requires-clause-room : goal.node_in-requires-clause-room
node_in-requires-clause-room c =
    let v = shows _ _ _ _ _ _ _ _ _ _ c.self.invariant c.self.view_is in
    let found = item_in (node_bytes c.self.inside.version) _ _ _ c.args.i c.index.result.now v.has.graph_at.nodes_at c.requires c.index.ensures in
    let fits = node_fits _ _ _ c.args.i found.0 (graph_fits _ _ _ v.fits) found.1 in
    let n = node_at _ _ _ _ _ fits.0 found.0 v.few (few_of _ _ _ (graph_fits _ _ _ v.fits)) fits.1 found.2 in
    n.room

pub node_in-requires-clause-there : goal.node_in-requires-clause-there
node_in-requires-clause-there c =
    let v = shows _ _ _ _ _ _ _ _ _ _ c.self.invariant c.self.view_is in
    let found = item_in (node_bytes c.self.inside.version) _ _ _ c.args.i c.index.result.now v.has.graph_at.nodes_at c.requires c.index.ensures in
    let fits = node_fits _ _ _ c.args.i found.0 (graph_fits _ _ _ v.fits) found.1 in
    let n = node_at _ _ _ _ _ fits.0 found.0 v.few (few_of _ _ _ (graph_fits _ _ _ v.fits)) fits.1 found.2 in
    n.there

pub returns-clause-value : goal.returns-clause-value
returns-clause-value c =
    let v = shows _ _ _ _ _ _ _ _ _ _ c.self.invariant c.self.view_is in
    let found = item_in (node_bytes c.self.inside.version) _ _ _ c.args.i c.index.result.now v.has.graph_at.nodes_at c.requires c.index.ensures in
    let fits = node_fits _ _ _ c.args.i found.0 (graph_fits _ _ _ v.fits) found.1 in
    let n = node_at _ _ _ _ _ fits.0 found.0 v.few (few_of _ _ _ (graph_fits _ _ _ v.fits)) fits.1 found.2 in
    rw (c.node_in.ensures, n.class, n.fields) found.1

pub returns-clause-few : goal.returns-clause-few
returns-clause-few c =
    let v = shows _ _ _ _ _ _ _ _ _ _ c.self.invariant c.self.view_is in
    let found = item_in (node_bytes c.self.inside.version) _ _ _ c.args.i c.index.result.now v.has.graph_at.nodes_at c.requires c.index.ensures in
    let fits = node_fits _ _ _ c.args.i found.0 (graph_fits _ _ _ v.fits) found.1 in
    let n = node_at _ _ _ _ _ fits.0 found.0 v.few (few_of _ _ _ (graph_fits _ _ _ v.fits)) fits.1 found.2 in
    rw (c.node_in.ensures, n.fields) fits.1.count

pub returns-clause-part : goal.returns-clause-part
returns-clause-part c = λ v. node_part v _ c.args.i _ (returns-clause-value c)
