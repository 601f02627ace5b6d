use Rattle.std.proofs.Common.{◌*◌, refl}
use Rattle.x10_image.proofs.Accessors.{shows}
use Rattle.x10_image.proofs.FunctionAccess.{instr_alone, alone_room, instr_same}
use Rattle.x10_image.proofs.view.ImageView.instr_from.Goals as goal

pub instr_in-requires-clause-room : goal.instr_in-requires-clause-room
instr_in-requires-clause-room c = alone_room c.args.self.now c.args.f c.args.pc c.args.code.now c.requires.code c.requires.pc

pub instr_in-requires-clause-known : goal.instr_in-requires-clause-known
instr_in-requires-clause-known c =
    let v = shows _ _ _ _ _ _ _ c.self.invariant c.self.view_is in
    let i = instr_alone c.args.self.now c.args.f c.args.pc (8 * c.args.pc) c.args.code.now v.fits c.requires.function c.requires.code refl
    c.requires.pc in
    (i.instr, i.decodes)

pub returns-clause-value : goal.returns-clause-value
returns-clause-value c =
    let v = shows _ _ _ _ _ _ _ c.self.invariant c.self.view_is in
    let i = instr_alone c.args.self.now c.args.f c.args.pc (8 * c.args.pc) c.args.code.now v.fits c.requires.function c.requires.code refl
    c.requires.pc in
    rw (instr_same _ i.instr _ c.instr_in.ensures i.decodes) i.is

pub returns-clause-fits : goal.returns-clause-fits
returns-clause-fits c =
    let v = shows _ _ _ _ _ _ _ c.self.invariant c.self.view_is in
    let i = instr_alone c.args.self.now c.args.f c.args.pc (8 * c.args.pc) c.args.code.now v.fits c.requires.function c.requires.code refl
    c.requires.pc in
    rw (instr_same _ i.instr _ c.instr_in.ensures i.decodes) i.fits.spelled
