use Rattle.std.proofs.Common.{sym, ap}
use Rattle.x10_model.specs.Images.{Header}
use Rattle.x10_image.proofs.Accessors.{shows}
use Rattle.x10_image.proofs.Spelled.{version_part}
use Rattle.x10_image.proofs.view.ImageView.version.Goals as goal

pub returns-clause-value : goal.returns-clause-value
returns-clause-value c =
    let v = shows _ _ _ _ _ _ _ c.self.invariant c.self.view_is in
    sym (ap (λ (h : Header). h.version) v.header_is)

pub returns-clause-part : goal.returns-clause-part
returns-clause-part c = version_part _ _ (returns-clause-value c)
