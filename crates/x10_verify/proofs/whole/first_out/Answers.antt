use Rattle.x10_verify.proofs.Wholes.{range_more, range_out}
use Rattle.x10_verify.proofs.whole.first_out.Goals as goal

pub returns-then-not-in_range-clause-first : goal.returns-then-not-in_range-clause-first
returns-then-not-in_range-clause-first c = λ function there.
    range_out c.args.image.now c.args.f c.loop-pc.pc function c.instr.result there c.instr.ensures.value (c.loop-pc.invariant function there)
    (λ r. absurd (let h = (c.in_range.ensures function there).1 r in let f = c.if-not-in_range.true in cc))

pub loop-pc-preserved : goal.loop-pc-preserved
loop-pc-preserved c = λ function there. range_more c.args.image.now c.args.f c.loop-pc.pc function c.instr.result there c.instr.ensures.value
    (c.loop-pc.invariant function there) ((c.in_range.ensures function there).0 c.if-not-in_range.false)
