use Rattle.std.proofs.Common.{arith}
use Rattle.x10_model.specs.Modules.{FitsText}
use Rattle.x10_model.specs.Frames.{blob_bytes}
use Rattle.x10_model.proofs.Offsets.{same_length}
use Rattle.x10_frame.proofs.Shows.{shows, graph_fits, blob_at}
use Rattle.x10_model.proofs.Lists.{all_at}
use Rattle.x10_bytes.proofs.Parts.{item_in}
use Rattle.x10_frame.proofs.Spelled.{text_part}
use Rattle.x10_frame.proofs.view.FrameView.text.Goals as goal

pub index-requires : goal.index-requires
index-requires c =
    let v = shows _ _ _ _ _ _ _ _ _ _ c.self.invariant c.self.view_is in
    omega (arith, c.requires, c.self.inside.body.texts.ok, same_length _ _ _ v.has.graph_at.texts_at)

pub blob_in-text-requires-clause-length : goal.blob_in-text-requires-clause-length
blob_in-text-requires-clause-length c =
    let v = shows _ _ _ _ _ _ _ _ _ _ c.self.invariant c.self.view_is in
    let found = item_in blob_bytes _ _ _ c.args.i c.index.result.now v.has.graph_at.texts_at c.requires c.index.ensures in
    let fits = (all_at FitsText _ c.args.i found.0 (graph_fits _ _ _ v.fits).texts.1 found.1) in
    let b = blob_at _ _ found.0 fits.length found.2 in
    b.count_room

pub blob_in-text-requires-clause-room : goal.blob_in-text-requires-clause-room
blob_in-text-requires-clause-room c =
    let v = shows _ _ _ _ _ _ _ _ _ _ c.self.invariant c.self.view_is in
    let found = item_in blob_bytes _ _ _ c.args.i c.index.result.now v.has.graph_at.texts_at c.requires c.index.ensures in
    let fits = (all_at FitsText _ c.args.i found.0 (graph_fits _ _ _ v.fits).texts.1 found.1) in
    let b = blob_at _ _ found.0 fits.length found.2 in
    rw b.count b.room

pub from_utf8_unchecked-requires : goal.from_utf8_unchecked-requires
from_utf8_unchecked-requires c =
    let v = shows _ _ _ _ _ _ _ _ _ _ c.self.invariant c.self.view_is in
    let found = item_in blob_bytes _ _ _ c.args.i c.index.result.now v.has.graph_at.texts_at c.requires c.index.ensures in
    let fits = (all_at FitsText _ c.args.i found.0 (graph_fits _ _ _ v.fits).texts.1 found.1) in
    let b = blob_at _ _ found.0 fits.length found.2 in
    rw (c.blob_in-text.ensures, b.count, b.range) fits.utf8

pub returns-clause-value : goal.returns-clause-value
returns-clause-value c =
    let v = shows _ _ _ _ _ _ _ _ _ _ c.self.invariant c.self.view_is in
    let found = item_in blob_bytes _ _ _ c.args.i c.index.result.now v.has.graph_at.texts_at c.requires c.index.ensures in
    let fits = (all_at FitsText _ c.args.i found.0 (graph_fits _ _ _ v.fits).texts.1 found.1) in
    let b = blob_at _ _ found.0 fits.length found.2 in
    rw (c.from_utf8_unchecked.ensures, c.blob_in-text.ensures, b.count, b.range) found.1

pub returns-clause-fits : goal.returns-clause-fits
returns-clause-fits c =
    let v = shows _ _ _ _ _ _ _ _ _ _ c.self.invariant c.self.view_is in
    let found = item_in blob_bytes _ _ _ c.args.i c.index.result.now v.has.graph_at.texts_at c.requires c.index.ensures in
    let fits = (all_at FitsText _ c.args.i found.0 (graph_fits _ _ _ v.fits).texts.1 found.1) in
    let b = blob_at _ _ found.0 fits.length found.2 in
    rw (c.from_utf8_unchecked.ensures, c.blob_in-text.ensures, b.count, b.range) fits

pub returns-clause-part : goal.returns-clause-part
returns-clause-part c = λ v. text_part v _ c.args.i _ (returns-clause-value c)
