use Rattle.x10_verify.proofs.InFunction.{code_length, in_function}
use Rattle.x10_verify.proofs.Solved.{passed_by}
use Rattle.x10_verify.proofs.solver.pass.Goals as goal

pub step-requires-clause-named : goal.step-requires-clause-named
step-requires-clause-named c = c.requires.names c.args.at c.instr_from.result c.instr_from.ensures.value

pub step-requires-clause-waiting : goal.step-requires-clause-waiting
step-requires-clause-waiting c = cc (c.is_waiting.ensures, c.if-not-is_waiting.false)

pub returns-then-not-is_waiting-clause-steps : goal.returns-then-not-is_waiting-clause-steps
returns-then-not-is_waiting-clause-steps c = λ function there same.
    passed_by c.args.image.now function c.args.at c.args.table.now.items (cc (c.is_waiting.ensures, c.if-not-is_waiting.true))

pub returns-clause-steps : goal.returns-clause-steps
returns-clause-steps c = λ function there same. c.step.ensures.steps function same
    (in_function c.args.image.now c.args.f c.args.at function c.instr_from.result there c.instr_from.ensures.value)
    (code_length c.args.image.now c.args.f c.args.len function there c.requires.len)
