use Rattle.std.proofs.Common.{arith}
use Rattle.x10_model.proofs.Offsets.{same_length}
use Rattle.x10_image.proofs.Accessors.{shows}
use Rattle.x10_image.proofs.FunctionAccess.{function_here, room_is, signature_here, signature_fits}
use Rattle.x10_image.proofs.Spelled.{signature_part}
use Rattle.x10_image.proofs.view.ImageView.signature.Goals as goal

pub index-requires : goal.index-requires
index-requires c =
    let v = shows _ _ _ _ _ _ _ c.self.invariant c.self.view_is in
    omega (arith, c.requires, c.self.inside.functions.ok, same_length _ _ _ v.functions_at)

pub signature_in-requires : goal.signature_in-requires
signature_in-requires c =
    let v = shows _ _ _ _ _ _ _ c.self.invariant c.self.view_is in
    let h = function_here _ _ _ _ _ _ _ c.args.f c.index.result.now v c.requires c.index.ensures in
    omega (arith, room_is _ _ _ _ h)

pub returns-clause-value : goal.returns-clause-value
returns-clause-value c =
    let v = shows _ _ _ _ _ _ _ c.self.invariant c.self.view_is in
    let h = function_here _ _ _ _ _ _ _ c.args.f c.index.result.now v c.requires c.index.ensures in
    (h.function, h.is, rw c.signature_in.ensures (signature_here _ _ _ _ h))

pub returns-clause-fits : goal.returns-clause-fits
returns-clause-fits c =
    let v = shows _ _ _ _ _ _ _ c.self.invariant c.self.view_is in
    let h = function_here _ _ _ _ _ _ _ c.args.f c.index.result.now v c.requires c.index.ensures in
    signature_fits _ _ _ _ _ h (rw c.signature_in.ensures (signature_here _ _ _ _ h))

pub returns-clause-part : goal.returns-clause-part
returns-clause-part c = (let g = returns-clause-value c in signature_part _ _ g.0 _ g.1 g.2)
