use Rattle.std.proofs.Common.{sym, ap, arith}
use Rattle.x10_model.specs.Images.{Header}
use Rattle.x10_image.proofs.Accessors.{shows}
use Rattle.x10_image.proofs.Spelled.{least_part}
use Rattle.x10_image.proofs.view.ImageView.least.Goals as goal

pub returns-clause-value : goal.returns-clause-value
returns-clause-value c =
    let v = shows _ _ _ _ _ _ _ c.self.invariant c.self.view_is in
    sym (ap (λ (h : Header). h.least_places) v.header_is)

pub returns-clause-range : goal.returns-clause-range
returns-clause-range c =
    let v = shows _ _ _ _ _ _ _ c.self.invariant c.self.view_is in
    let is = ap (λ (h : Header). h.least_places) v.header_is in
    (omega (arith, is, v.fits.least_places), omega (arith, is, v.fits.least_places))

pub returns-clause-part : goal.returns-clause-part
returns-clause-part c = least_part _ _ (returns-clause-value c)
