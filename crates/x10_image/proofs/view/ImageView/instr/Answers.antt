use Rattle.std.proofs.Common.{◌+◌, ◌*◌, length, arith, ap}
use Rattle.x10_model.proofs.Offsets.{same_length}
use Rattle.x10_image.proofs.Accessors.{shows}
use Rattle.x10_image.proofs.FunctionAccess.{function_here, room_is, code_is, instr_here, instr_same}
use Rattle.x10_image.proofs.Spelled.{instr_part}
use Rattle.x10_image.proofs.view.ImageView.instr.Goals as goal

pub index-requires : goal.index-requires
index-requires c =
    let v = shows _ _ _ _ _ _ _ c.self.invariant c.self.view_is in
    omega (arith, c.requires.function, c.self.inside.functions.ok, same_length _ _ _ v.functions_at)

pub code_place-start-requires : goal.code_place-start-requires
code_place-start-requires c =
    let v = shows _ _ _ _ _ _ _ c.self.invariant c.self.view_is in
    let h = function_here _ _ _ _ _ _ _ c.args.f c.index.result.now v c.requires.function c.index.ensures in
    omega (arith, room_is _ _ _ _ h)

pub overflow_mul-pc : goal.overflow_mul-pc
overflow_mul-pc c =
    let v = shows _ _ _ _ _ _ _ c.self.invariant c.self.view_is in
    let h = function_here _ _ _ _ _ _ _ c.args.f c.index.result.now v c.requires.function c.index.ensures in
    omega (arith, room_is _ _ _ _ h, ap length (code_is _ _ _ _ h), c.requires.pc)

pub overflow_add-start : goal.overflow_add-start
overflow_add-start c =
    let v = shows _ _ _ _ _ _ _ c.self.invariant c.self.view_is in
    let h = function_here _ _ _ _ _ _ _ c.args.f c.index.result.now v c.requires.function c.index.ensures in
    omega (arith, room_is _ _ _ _ h, ap length (code_is _ _ _ _ h), c.requires.pc, c.code_place-start.ensures)

pub instr_in-requires-clause-room : goal.instr_in-requires-clause-room
instr_in-requires-clause-room c =
    let v = shows _ _ _ _ _ _ _ c.self.invariant c.self.view_is in
    let h = function_here _ _ _ _ _ _ _ c.args.f c.index.result.now v c.requires.function c.index.ensures in
    omega (arith, room_is _ _ _ _ h, ap length (code_is _ _ _ _ h), c.requires.pc, c.code_place-start.ensures)

pub instr_in-requires-clause-known : goal.instr_in-requires-clause-known
instr_in-requires-clause-known c =
    let v = shows _ _ _ _ _ _ _ c.self.invariant c.self.view_is in
    let h = function_here _ _ _ _ _ _ _ c.args.f c.index.result.now v c.requires.function c.index.ensures in
    let i = instr_here _ _ _ _ c.args.pc (c.code_place-start.result + 8 * c.args.pc) h c.requires.pc (omega (arith, c.code_place-start.ensures)) in
    (i.instr, i.decodes)

pub returns-clause-value : goal.returns-clause-value
returns-clause-value c =
    let v = shows _ _ _ _ _ _ _ c.self.invariant c.self.view_is in
    let h = function_here _ _ _ _ _ _ _ c.args.f c.index.result.now v c.requires.function c.index.ensures in
    let i = instr_here _ _ _ _ c.args.pc (c.code_place-start.result + 8 * c.args.pc) h c.requires.pc (omega (arith, c.code_place-start.ensures)) in
    rw (instr_same _ i.instr _ c.instr_in.ensures i.decodes) i.is

pub returns-clause-fits : goal.returns-clause-fits
returns-clause-fits c =
    let v = shows _ _ _ _ _ _ _ c.self.invariant c.self.view_is in
    let h = function_here _ _ _ _ _ _ _ c.args.f c.index.result.now v c.requires.function c.index.ensures in
    let i = instr_here _ _ _ _ c.args.pc (c.code_place-start.result + 8 * c.args.pc) h c.requires.pc (omega (arith, c.code_place-start.ensures)) in
    rw (instr_same _ i.instr _ c.instr_in.ensures i.decodes) i.fits.spelled

pub returns-clause-known : goal.returns-clause-known
returns-clause-known c =
    let v = shows _ _ _ _ _ _ _ c.self.invariant c.self.view_is in
    let h = function_here _ _ _ _ _ _ _ c.args.f c.index.result.now v c.requires.function c.index.ensures in
    let i = instr_here _ _ _ _ c.args.pc (c.code_place-start.result + 8 * c.args.pc) h c.requires.pc (omega (arith, c.code_place-start.ensures)) in
    rw (instr_same _ i.instr _ c.instr_in.ensures i.decodes) i.fits.known

pub returns-clause-part : goal.returns-clause-part
returns-clause-part c = instr_part _ _ _ _ (returns-clause-value c)
