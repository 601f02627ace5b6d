use Rattle.std.proofs.Common.{sym, ap, ◌∙◌}
use Rattle.x10_asm.specs.Statements.{other_words}
use Rattle.x10_asm.proofs.Names.{words_nil}
use Rattle.x10_asm.proofs.statement.line_of.Goals as goal

pub returns-in-None-clause-rest : goal.returns-in-None-clause-rest
returns-in-None-clause-rest c = words_nil ∙ ap other_words (sym c.in-None.ensures.words)
