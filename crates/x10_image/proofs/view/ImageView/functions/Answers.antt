use Rattle.std.proofs.Common.{arith}
use Rattle.x10_model.proofs.Offsets.{same_length}
use Rattle.x10_image.proofs.Accessors.{shows}
use Rattle.x10_image.proofs.Spelled.{functions_part}
use Rattle.x10_image.proofs.view.ImageView.functions.Goals as goal

pub returns-clause-value : goal.returns-clause-value
returns-clause-value c =
    let v = shows _ _ _ _ _ _ _ c.self.invariant c.self.view_is in
    omega (arith, c.len.ensures, c.self.inside.functions.ok, same_length _ _ _ v.functions_at)

pub returns-clause-range : goal.returns-clause-range
returns-clause-range c =
    let v = shows _ _ _ _ _ _ _ c.self.invariant c.self.view_is in (
      omega (arith, c.len.ensures, c.self.inside.functions.ok, same_length _ _ _ v.functions_at, v.fits.functions.0),
      omega (arith, c.len.ensures, c.self.inside.functions.ok, same_length _ _ _ v.functions_at, v.fits.functions.1),
    )

pub returns-clause-part : goal.returns-clause-part
returns-clause-part c = functions_part _ _ (returns-clause-value c)
