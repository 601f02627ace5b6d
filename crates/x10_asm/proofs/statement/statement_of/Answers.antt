use Rattle.std.proofs.Common.{sym, ◌∙◌}
use Rattle.x10_asm.proofs.Names.{label_is}
use Rattle.x10_asm.proofs.statement.statement_of.Goals as goal

pub returns-then-ends_in_colon : goal.returns-then-ends_in_colon
returns-then-ends_in_colon c = sym (label_is c.args.word.now (sym c.begins.ensures ∙ c.if-begins.false)
    (sym c.ends_in_colon.ensures ∙ c.if-ends_in_colon.true))
