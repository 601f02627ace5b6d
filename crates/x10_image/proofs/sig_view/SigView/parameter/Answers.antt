use Rattle.std.proofs.Common.{◌≡◌, refl, ap}
use Rattle.x10_image.specs.Parts.{Signature, slots_in}
use Rattle.x10_image.proofs.Decoded.{slots_get}
use Rattle.x10_image.proofs.sig_view.SigView.parameter.Goals as goal

pub returns : goal.returns
returns c =
    let e : slots_in c.self.inside.slots.now ≡ c.args.self.now.parameters = ap (λ (s : Signature). s.parameters) c.self.view_is in
    let k = slots_get c.self.inside.slots.now c.args.i _ _ _ _ refl refl refl refl (rw e c.requires) in
    rw (← e, c.slot_in.ensures) (record { value = k })
