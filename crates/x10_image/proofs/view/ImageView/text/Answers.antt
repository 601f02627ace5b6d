use Rattle.std.proofs.Common.{arith}
use Rattle.x10_model.specs.Modules.{FitsText}
use Rattle.x10_model.specs.Images.{text_bytes}
use Rattle.x10_image.proofs.Accessors.{shows, text_at}
use Rattle.x10_image.proofs.Spelled.{text_part}
use Rattle.x10_bytes.proofs.Parts.{item_in}
use Rattle.x10_image.proofs.view.ImageView.text.Goals as goal
use Rattle.x10_model.proofs.Lists.{all_at}
use Rattle.x10_model.proofs.Offsets.{same_length}

pub index-requires : goal.index-requires
index-requires c =
    let v = shows _ _ _ _ _ _ _ c.self.invariant c.self.view_is in
    omega (arith, c.requires, c.self.inside.texts.ok, same_length _ _ _ v.texts_at)

pub text_in-requires-clause-length : goal.text_in-requires-clause-length
text_in-requires-clause-length c =
    let v = shows _ _ _ _ _ _ _ c.self.invariant c.self.view_is in
    let found = item_in text_bytes _ _ _ c.args.i c.index.result.now v.texts_at c.requires c.index.ensures in
    let t = text_at _ _ found.0 (all_at FitsText _ c.args.i found.0 v.fits.texts.1 found.1) found.2 in
    t.count_room

pub text_in-requires-clause-room : goal.text_in-requires-clause-room
text_in-requires-clause-room c =
    let v = shows _ _ _ _ _ _ _ c.self.invariant c.self.view_is in
    let found = item_in text_bytes _ _ _ c.args.i c.index.result.now v.texts_at c.requires c.index.ensures in
    let t = text_at _ _ found.0 (all_at FitsText _ c.args.i found.0 v.fits.texts.1 found.1) found.2 in
    rw t.count t.room

pub text_in-requires-clause-utf8 : goal.text_in-requires-clause-utf8
text_in-requires-clause-utf8 c =
    let v = shows _ _ _ _ _ _ _ c.self.invariant c.self.view_is in
    let found = item_in text_bytes _ _ _ c.args.i c.index.result.now v.texts_at c.requires c.index.ensures in
    let t = text_at _ _ found.0 (all_at FitsText _ c.args.i found.0 v.fits.texts.1 found.1) found.2 in
    rw (t.count, t.range) (all_at FitsText _ c.args.i found.0 v.fits.texts.1 found.1).utf8

pub returns-clause-value : goal.returns-clause-value
returns-clause-value c =
    let v = shows _ _ _ _ _ _ _ c.self.invariant c.self.view_is in
    let found = item_in text_bytes _ _ _ c.args.i c.index.result.now v.texts_at c.requires c.index.ensures in
    let t = text_at _ _ found.0 (all_at FitsText _ c.args.i found.0 v.fits.texts.1 found.1) found.2 in
    rw (c.text_in.ensures, t.count, t.range) found.1

pub returns-clause-fits : goal.returns-clause-fits
returns-clause-fits c =
    let v = shows _ _ _ _ _ _ _ c.self.invariant c.self.view_is in
    let found = item_in text_bytes _ _ _ c.args.i c.index.result.now v.texts_at c.requires c.index.ensures in
    let t = text_at _ _ found.0 (all_at FitsText _ c.args.i found.0 v.fits.texts.1 found.1) found.2 in
    rw (c.text_in.ensures, t.count, t.range) (all_at FitsText _ c.args.i found.0 v.fits.texts.1 found.1)

pub returns-clause-part : goal.returns-clause-part
returns-clause-part c = text_part _ c.args.i _ (returns-clause-value c)
