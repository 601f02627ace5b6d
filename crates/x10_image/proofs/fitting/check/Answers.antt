use Rattle.std.proofs.Common.{arith, rules, tests}
use Rattle.x10_image.proofs.WrittenLaws.{code_few, shown_instr}
use Rattle.x10_image.proofs.fitting.check.Goals as goal

pub overflow_cast-result-in-Some : goal.overflow_cast-result-in-Some
overflow_cast-result-in-Some c =
    let there = c.in-Some.ensures in
    omega (arith, code_few c.args.source.now c.in-Some.function there.1 (search (rules, tests)) (rw c.deref.ensures.value at there.2), there.3)

pub returns-in-Some-clause-fault : goal.returns-in-Some-clause-fault
returns-in-Some-clause-fault c =
    let there = c.in-Some.ensures in
    (there.4, shown_instr c.args.source.now c.in-Some.function c.in-Some.pc there.1 there.4 (rw c.deref.ensures.value at there.2) there.5, there.6)
