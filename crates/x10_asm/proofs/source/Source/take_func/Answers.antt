use Rattle.std.proofs.Common.{refl, ◌∙◌}
use Rattle.x10_asm.proofs.LinesTakenIn.{took_func}
use Rattle.x10_asm.specs.Lines.{lines}
use Rattle.x10_asm.specs.LabelLines.{labels_from}
use Rattle.x10_image.specs.Written.{function_shown}
use Rattle.x10_asm.specs.Lines.{words}
use Rattle.x10_asm.proofs.source.Source.take_func.Goals as goal

pub returns : goal.returns
returns c = λ s f. took_func c.args.self.now _ s (words c.args.line.now) c.args.classes c.len-before.result (function_shown c.in_ok-function.function)
    (labels_from c.args.number 0 (lines c.args.rest.now)) f (c.len-before.ensures ∙ c.args.self.now.so_far.functions.ok.0) c.in_ok-function.ensures
    refl refl refl c.in_ok-labels.ensures
