use Rattle.std.proofs.Common.{◌+◌, ◌*◌, ◌≡◌, Some, length, arith, ap, sym, subst, ◌∙◌}
use Rattle.x10_code.specs.declared.instr.Instr.{Instr}
use Rattle.x10_model.proofs.Offsets.{same_length}
use Rattle.x10_image.proofs.Accessors.{shows}
use Rattle.x10_image.proofs.FunctionAccess.{function_here, room_is, code_is, instr_here}
use Rattle.x10_image.proofs.view.ImageView.first_operand.Goals as goal

pub index-requires : goal.index-requires
index-requires c =
    let v = shows _ _ _ _ _ _ _ c.self.invariant c.self.view_is in
    omega (arith, c.requires.function, c.self.inside.functions.ok, same_length _ _ _ v.functions_at)

pub code_place-start-requires : goal.code_place-start-requires
code_place-start-requires c =
    let v = shows _ _ _ _ _ _ _ c.self.invariant c.self.view_is in
    let h = function_here _ _ _ _ _ _ _ c.args.f c.index.result.now v c.requires.function c.index.ensures in
    omega (arith, room_is _ _ _ _ h)

pub overflow_mul-pc : goal.overflow_mul-pc
overflow_mul-pc c =
    let v = shows _ _ _ _ _ _ _ c.self.invariant c.self.view_is in
    let h = function_here _ _ _ _ _ _ _ c.args.f c.index.result.now v c.requires.function c.index.ensures in
    omega (arith, room_is _ _ _ _ h, ap length (code_is _ _ _ _ h), c.requires.pc)

pub overflow_add-start : goal.overflow_add-start
overflow_add-start c =
    let v = shows _ _ _ _ _ _ _ c.self.invariant c.self.view_is in
    let h = function_here _ _ _ _ _ _ _ c.args.f c.index.result.now v c.requires.function c.index.ensures in
    omega (arith, room_is _ _ _ _ h, ap length (code_is _ _ _ _ h), c.requires.pc, c.code_place-start.ensures)

pub operand_in-requires : goal.operand_in-requires
operand_in-requires c =
    let v = shows _ _ _ _ _ _ _ c.self.invariant c.self.view_is in
    let h = function_here _ _ _ _ _ _ _ c.args.f c.index.result.now v c.requires.function c.index.ensures in
    omega (arith, room_is _ _ _ _ h, ap length (code_is _ _ _ _ h), c.requires.pc, c.code_place-start.ensures)

pub returns : goal.returns
returns c = λ i there.
    let v = shows _ _ _ _ _ _ _ c.self.invariant c.self.view_is in
    let h = function_here _ _ _ _ _ _ _ c.args.f c.index.result.now v c.requires.function c.index.ensures in
    let found = instr_here _ _ _ _ c.args.pc (c.code_place-start.result + 8 * c.args.pc) h c.requires.pc (omega (arith, c.code_place-start.ensures)) in
    let both : Some found.instr ≡ Some i = sym found.is ∙ there in
    let same : found.instr ≡ i = cc in
    subst (λ (k : Instr). c.operand_in.result ≡ k.a) same (c.operand_in.ensures found.instr found.decodes)
