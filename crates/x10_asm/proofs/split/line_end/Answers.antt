use Rattle.x10_asm.proofs.LinesAndWords.{count_found, count_missed}
use Rattle.x10_asm.proofs.split.line_end.Goals as goal

pub returns-in-Some-clause-at : goal.returns-in-Some-clause-at
returns-in-Some-clause-at c = count_found 10 c.args.bytes.now c.in-Some.at c.in-Some.ensures

pub returns-in-None-clause-at : goal.returns-in-None-clause-at
returns-in-None-clause-at c = count_missed 10 c.args.bytes.now c.in-None.ensures
