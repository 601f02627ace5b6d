use Rattle.std.proofs.Common.{sym, ap, ◌∙◌}
use Rattle.x10_asm.specs.Lines.{begins}
use Rattle.x10_asm.proofs.Names.{other_line}
use Rattle.x10_asm.proofs.assembling.is_class.Goals as goal

pub returns-else-begins : goal.returns-else-begins
returns-else-begins c = c.if-begins.false ∙ sym (other_line c.args.line.now
    (sym (ap (begins 99) c.after_spaces.ensures) ∙ sym c.begins.ensures ∙ c.if-begins.false))
