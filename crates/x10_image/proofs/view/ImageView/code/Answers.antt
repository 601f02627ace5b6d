use Rattle.std.proofs.Common.{◌+◌, ◌*◌, arith, ◌∙◌}
use Rattle.x10_model.proofs.Offsets.{same_length}
use Rattle.x10_image.proofs.Accessors.{shows}
use Rattle.x10_image.proofs.Spelled.{code_part}
use Rattle.x10_image.proofs.FunctionAccess.{function_here, room_is, count_is, code_range}
use Rattle.x10_image.proofs.view.ImageView.code.Goals as goal

pub index-at-requires : goal.index-at-requires
index-at-requires c =
    let v = shows _ _ _ _ _ _ _ c.self.invariant c.self.view_is in
    omega (arith, c.requires, c.self.inside.functions.ok, same_length _ _ _ v.functions_at)

pub code_place-start-requires : goal.code_place-start-requires
code_place-start-requires c =
    let v = shows _ _ _ _ _ _ _ c.self.invariant c.self.view_is in
    let h = function_here _ _ _ _ _ _ _ c.args.f c.index-at.result.now v c.requires c.index-at.ensures in
    omega (arith, room_is _ _ _ _ h)

pub code_len_in-requires : goal.code_len_in-requires
code_len_in-requires c =
    let v = shows _ _ _ _ _ _ _ c.self.invariant c.self.view_is in
    let h = function_here _ _ _ _ _ _ _ c.args.f c.index-at.result.now v c.requires c.index-at.ensures in
    omega (arith, room_is _ _ _ _ h)

pub overflow_mul-result : goal.overflow_mul-result
overflow_mul-result c =
    let v = shows _ _ _ _ _ _ _ c.self.invariant c.self.view_is in
    let h = function_here _ _ _ _ _ _ _ c.args.f c.index-at.result.now v c.requires c.index-at.ensures in
    omega (arith, c.code_len_in.ensures ∙ count_is _ _ _ _ h, h.fits.length)

pub overflow_add-result : goal.overflow_add-result
overflow_add-result c =
    let v = shows _ _ _ _ _ _ _ c.self.invariant c.self.view_is in
    let h = function_here _ _ _ _ _ _ _ c.args.f c.index-at.result.now v c.requires c.index-at.ensures in
    omega (arith, c.code_len_in.ensures ∙ count_is _ _ _ _ h, c.code_place-start.ensures, room_is _ _ _ _ h)

pub slice_bounds-result-end : goal.slice_bounds-result-end
slice_bounds-result-end c =
    let v = shows _ _ _ _ _ _ _ c.self.invariant c.self.view_is in
    let h = function_here _ _ _ _ _ _ _ c.args.f c.index-at.result.now v c.requires c.index-at.ensures in
    omega (arith, c.code_len_in.ensures ∙ count_is _ _ _ _ h, c.code_place-start.ensures, room_is _ _ _ _ h)

pub returns-clause-value : goal.returns-clause-value
returns-clause-value c =
    let v = shows _ _ _ _ _ _ _ c.self.invariant c.self.view_is in
    let h = function_here _ _ _ _ _ _ _ c.args.f c.index-at.result.now v c.requires c.index-at.ensures in
    code_range _ _ _ _ _ _ h c.code_place-start.ensures (omega (arith, c.code_len_in.ensures ∙ count_is _ _ _ _ h))

pub returns-clause-part : goal.returns-clause-part
returns-clause-part c =
    let v = shows _ _ _ _ _ _ _ c.self.invariant c.self.view_is in
    let h = function_here _ _ _ _ _ _ _ c.args.f c.index-at.result.now v c.requires c.index-at.ensures in
    let is = code_range _ _ _ _ _ (c.code_place-start.result + 8 * c.code_len_in.result) h c.code_place-start.ensures
    (omega (arith, c.code_len_in.ensures ∙ count_is _ _ _ _ h)) in
    rw is (code_part _ c.args.f h.function h.is h.fits.length.0)
