use Rattle.std.proofs.Common.{ap, arith}
use Rattle.x10_model.specs.Images.{Header}
use Rattle.x10_image.proofs.Accessors.{shows}
use Rattle.x10_image.proofs.Spelled.{ints_part}
use Rattle.x10_image.proofs.view.ImageView.ints.Goals as goal

pub returns-clause-value : goal.returns-clause-value
returns-clause-value c =
    let v = shows _ _ _ _ _ _ _ c.self.invariant c.self.view_is in
    omega (arith, c.from.ensures, ap (λ (h : Header). h.ints) v.header_is)

pub returns-clause-few : goal.returns-clause-few
returns-clause-few c =
    let v = shows _ _ _ _ _ _ _ c.self.invariant c.self.view_is in
    omega (arith, c.from.ensures, ap (λ (h : Header). h.ints) v.header_is, v.fits.ints.0)

pub returns-clause-part : goal.returns-clause-part
returns-clause-part c = ints_part _ _ (returns-clause-value c)
