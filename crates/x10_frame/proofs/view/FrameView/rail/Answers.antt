use Rattle.std.proofs.Common.{arith}
use Rattle.x10_model.specs.Frames.{FitsRail, blob_bytes}
use Rattle.x10_model.proofs.Offsets.{same_length}
use Rattle.x10_frame.proofs.Shows.{shows, graph_fits, blob_at}
use Rattle.x10_model.proofs.Lists.{all_at}
use Rattle.x10_bytes.proofs.Parts.{item_in}
use Rattle.x10_frame.proofs.Spelled.{rail_part}
use Rattle.x10_frame.proofs.view.FrameView.rail.Goals as goal

pub index-requires : goal.index-requires
index-requires c =
    let v = shows _ _ _ _ _ _ _ _ _ _ c.self.invariant c.self.view_is in
    omega (arith, c.requires, c.self.inside.body.rails.ok, same_length _ _ _ v.has.graph_at.rails_at)

pub blob_in-requires-clause-length : goal.blob_in-requires-clause-length
blob_in-requires-clause-length c =
    let v = shows _ _ _ _ _ _ _ _ _ _ c.self.invariant c.self.view_is in
    let found = item_in blob_bytes _ _ _ c.args.i c.index.result.now v.has.graph_at.rails_at c.requires c.index.ensures in
    let fits = (all_at FitsRail _ c.args.i found.0 (graph_fits _ _ _ v.fits).rails.1 found.1) in
    let b = blob_at _ _ found.0 fits.length found.2 in
    b.count_room

pub blob_in-requires-clause-room : goal.blob_in-requires-clause-room
blob_in-requires-clause-room c =
    let v = shows _ _ _ _ _ _ _ _ _ _ c.self.invariant c.self.view_is in
    let found = item_in blob_bytes _ _ _ c.args.i c.index.result.now v.has.graph_at.rails_at c.requires c.index.ensures in
    let fits = (all_at FitsRail _ c.args.i found.0 (graph_fits _ _ _ v.fits).rails.1 found.1) in
    let b = blob_at _ _ found.0 fits.length found.2 in
    rw b.count b.room

pub returns-clause-value : goal.returns-clause-value
returns-clause-value c =
    let v = shows _ _ _ _ _ _ _ _ _ _ c.self.invariant c.self.view_is in
    let found = item_in blob_bytes _ _ _ c.args.i c.index.result.now v.has.graph_at.rails_at c.requires c.index.ensures in
    let fits = (all_at FitsRail _ c.args.i found.0 (graph_fits _ _ _ v.fits).rails.1 found.1) in
    let b = blob_at _ _ found.0 fits.length found.2 in
    rw (c.blob_in.ensures, b.count, b.range) found.1

pub returns-clause-fits : goal.returns-clause-fits
returns-clause-fits c =
    let v = shows _ _ _ _ _ _ _ _ _ _ c.self.invariant c.self.view_is in
    let found = item_in blob_bytes _ _ _ c.args.i c.index.result.now v.has.graph_at.rails_at c.requires c.index.ensures in
    let fits = (all_at FitsRail _ c.args.i found.0 (graph_fits _ _ _ v.fits).rails.1 found.1) in
    let b = blob_at _ _ found.0 fits.length found.2 in
    rw (c.blob_in.ensures, b.count, b.range) fits

pub returns-clause-part : goal.returns-clause-part
returns-clause-part c = λ v. rail_part v _ c.args.i _ (returns-clause-value c)
