use Rattle.std.proofs.Common.{arith}
use Rattle.x10_model.proofs.Offsets.{same_length}
use Rattle.x10_image.proofs.Accessors.{shows}
use Rattle.x10_image.proofs.Spelled.{texts_part}
use Rattle.x10_image.proofs.view.ImageView.texts.Goals as goal

pub returns-clause-value : goal.returns-clause-value
returns-clause-value c =
    let v = shows _ _ _ _ _ _ _ c.self.invariant c.self.view_is in
    omega (arith, c.len.ensures, c.self.inside.texts.ok, same_length _ _ _ v.texts_at)

pub returns-clause-few : goal.returns-clause-few
returns-clause-few c =
    let v = shows _ _ _ _ _ _ _ c.self.invariant c.self.view_is in
    omega (arith, c.len.ensures, c.self.inside.texts.ok, same_length _ _ _ v.texts_at, v.fits.texts.0)

pub returns-clause-part : goal.returns-clause-part
returns-clause-part c = texts_part _ _ (returns-clause-value c)
