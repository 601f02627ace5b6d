use Rattle.std.proofs.Common.{length, arith, sym, ap, ◌∙◌}
use Rattle.x10_model.proofs.Offsets.{same_length}
use Rattle.x10_image.proofs.Accessors.{shows}
use Rattle.x10_image.proofs.FunctionAccess.{function_here, room_is, count_is, code_is}
use Rattle.x10_image.proofs.Spelled.{count_part}
use Rattle.x10_image.proofs.view.ImageView.code_len.Goals as goal

pub index-requires : goal.index-requires
index-requires c =
    let v = shows _ _ _ _ _ _ _ c.self.invariant c.self.view_is in
    omega (arith, c.requires, c.self.inside.functions.ok, same_length _ _ _ v.functions_at)

pub code_len_in-requires : goal.code_len_in-requires
code_len_in-requires c =
    let v = shows _ _ _ _ _ _ _ c.self.invariant c.self.view_is in
    let h = function_here _ _ _ _ _ _ _ c.args.f c.index.result.now v c.requires c.index.ensures in
    omega (arith, room_is _ _ _ _ h)

pub returns-clause-value : goal.returns-clause-value
returns-clause-value c =
    let v = shows _ _ _ _ _ _ _ c.self.invariant c.self.view_is in
    let h = function_here _ _ _ _ _ _ _ c.args.f c.index.result.now v c.requires c.index.ensures in
    c.code_len_in.ensures ∙ count_is _ _ _ _ h ∙ ap length (sym (code_is _ _ _ _ h))

pub returns-clause-range : goal.returns-clause-range
returns-clause-range c =
    let v = shows _ _ _ _ _ _ _ c.self.invariant c.self.view_is in
    let h = function_here _ _ _ _ _ _ _ c.args.f c.index.result.now v c.requires c.index.ensures in
    let is = c.code_len_in.ensures ∙ count_is _ _ _ _ h in
    (omega (arith, is, h.fits.length), omega (arith, is, h.fits.length))

pub returns-clause-part : goal.returns-clause-part
returns-clause-part c = count_part _ _ _ c.requires (returns-clause-value c)
