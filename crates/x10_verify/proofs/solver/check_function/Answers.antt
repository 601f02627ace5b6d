use Rattle.x10_verify.specs.States.{stated}
use Rattle.x10_verify.proofs.Prints.{noted_solved}
use Rattle.x10_verify.proofs.Solved.{solved_least}
use Rattle.x10_verify.proofs.solver.check_function.Goals as goal

pub returns-clause-decides : goal.returns-clause-decides
returns-clause-decides c = λ function there. (
  stated c.solve.new.table.items,
  solved_least c.args.image.now function c.solve.new.table.items (c.in_default.ensures.solved function there),
)

pub returns-clause-noted : goal.returns-clause-noted
returns-clause-noted c = noted_solved c.args.image.now c.args.f c.code_len.result c.solve.new.table.items c.note.new.row.items c.requires.there
    c.code_len.ensures.value c.in_default.ensures.solved c.note.ensures.noted
