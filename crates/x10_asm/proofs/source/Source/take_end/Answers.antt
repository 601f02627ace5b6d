use Rattle.std.proofs.Common.{refl, ap, ◌∙◌}
use Rattle.x10_asm.proofs.LinesTakenIn.{took_end, map-push}
use Rattle.std.proofs.Common.{rules}
use Rattle.x10_image.specs.Written.{function_shown}
use Rattle.x10_asm.specs.Lines.{words}
use Rattle.x10_asm.proofs.source.Source.take_end.Goals as goal

pub returns : goal.returns
returns c = λ s f. took_end c.args.self.now _ s (words c.args.line.now) c.len.result c.in_ok-end_of.field-0 f
    (c.len.ensures ∙ c.args.self.now.function.code.ok.0) c.in_ok-end_of.ensures refl
    (rw (
      map-push function_shown c.push.new.self.items c.args.self.now.so_far.functions.items c.replace-function.result c.in_ok-push.ensures.items,
      c.replace-function.ensures.value,
    ) refl) (ap function_shown c.replace-function.ensures.after ∙ c.no_function.ensures) (search rules)
