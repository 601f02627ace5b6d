use Rattle.std.proofs.Common.{◌≡◌, ◌<◌, length, sym, subst, rules}
use Rattle.x10_code.specs.declared.op.Op.TheVariants as op
use Rattle.x10_place.specs.declared.call_frame.CallFrame.{CallFrame}
use Rattle.x10_place.proofs.Ats.{place_there}
use Rattle.x10_place.proofs.resuming.awaited.Goals as goal

pub word-requires : goal.word-requires
word-requires c =
    let is : c.instr-call.result.op ≡ op.At = search rules in
    let lt : c.instr-call.result.c < length c.args.stay.now.top.registers.items =
    place_there c.args.verified.now.program _ _ _ c.instr-call.result c.instr-call.ensures is in
    subst (λ (f : CallFrame). c.instr-call.result.c < length f.registers.items) (sym c.frame.ensures) lt
