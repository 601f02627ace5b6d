use Rattle.std.proofs.Common.{length, arith}
use Rattle.x10_model.specs.Modules.{FitsClass}
use Rattle.x10_model.specs.Images.{class_bytes}
use Rattle.x10_image.proofs.Accessors.{shows, class_at}
use Rattle.x10_bytes.proofs.Parts.{item_in}
use Rattle.x10_image.proofs.Spelled.{class_part}
use Rattle.x10_image.proofs.view.ImageView.class.Goals as goal
use Rattle.x10_model.proofs.Lists.{all_at}
use Rattle.x10_model.proofs.Offsets.{same_length}

pub index-requires : goal.index-requires
index-requires c =
    let v = shows _ _ _ _ _ _ _ c.self.invariant c.self.view_is in
    omega (arith, c.requires, c.self.inside.classes.ok, same_length _ _ _ v.classes_at)

pub class_in-requires : goal.class_in-requires
class_in-requires c =
    let v = shows _ _ _ _ _ _ _ c.self.invariant c.self.view_is in
    let found = item_in class_bytes _ _ _ c.args.c c.index.result.now v.classes_at c.requires c.index.ensures in
    (class_at (length c.args.self.now.classes) _ _ found.0 v.fits.classes
    (all_at (FitsClass (length c.args.self.now.classes)) _ c.args.c found.0 v.fits.fields found.1) found.2).room

pub returns-clause-value : goal.returns-clause-value
returns-clause-value c =
    let v = shows _ _ _ _ _ _ _ c.self.invariant c.self.view_is in
    let found = item_in class_bytes _ _ _ c.args.c c.index.result.now v.classes_at c.requires c.index.ensures in
    let is = (class_at (length c.args.self.now.classes) _ _ found.0 v.fits.classes
    (all_at (FitsClass (length c.args.self.now.classes)) _ c.args.c found.0 v.fits.fields found.1) found.2).value in
    rw (c.class_in.ensures, is) found.1

pub returns-clause-fits : goal.returns-clause-fits
returns-clause-fits c =
    let v = shows _ _ _ _ _ _ _ c.self.invariant c.self.view_is in
    let found = item_in class_bytes _ _ _ c.args.c c.index.result.now v.classes_at c.requires c.index.ensures in
    let fits = all_at (FitsClass (length c.args.self.now.classes)) _ c.args.c found.0 v.fits.fields found.1 in
    let is = (class_at (length c.args.self.now.classes) _ _ found.0 v.fits.classes fits found.2).value in
    rw (c.class_in.ensures, is) fits

pub returns-clause-part : goal.returns-clause-part
returns-clause-part c = class_part _ _ _ (returns-clause-value c)
