use Rattle.std.proofs.Common.{◌∙◌}
use Rattle.x10_asm.specs.Lines.{words}
use Rattle.x10_asm.proofs.Names.{class_in}
use Rattle.x10_asm.proofs.assembling.names_class.Goals as goal

pub returns-in-Some : goal.returns-in-Some
returns-in-Some c = c.eq.ensures ∙ class_in c.in-Some.word.now (words c.args.line.now) (words c.in-Some.field-0-1.now) c.in-Some.ensures.words
