use Rattle.std.proofs.Common.{refl}
use Rattle.x10_image.proofs.Decoded.{kinds_get}
use Rattle.x10_image.proofs.class_view.ClassView.field.Goals as goal

pub returns : goal.returns
returns c =
    let k = kinds_get c.self.inside.kinds.now c.args.i _ _ _ refl refl refl (rw c.self.view_is c.requires) in
    rw (← c.self.view_is, c.kind_in.ensures) (record { value = k })
