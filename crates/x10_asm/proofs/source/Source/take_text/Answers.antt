use Rattle.std.proofs.Common.{refl, ◌∙◌}
use Rattle.x10_asm.proofs.LinesTakenIn.{took_text, map-push}
use Rattle.std.specs.String.{string_bytes}
use Rattle.x10_asm.specs.Lines.{after_spaces}
use Rattle.x10_asm.proofs.source.Source.take_text.Goals as goal

pub returns : goal.returns
returns c = λ s f. took_text c.args.self.now _ s (after_spaces c.args.line.now) c.len-before.result (string_bytes c.in_ok-text.text) f
    (c.len-before.ensures ∙ c.args.self.now.so_far.texts.ok.0) c.in_ok-text.ensures refl
    (rw (map-push string_bytes c.push.new.self.items c.args.self.now.so_far.texts.items c.in_ok-text.text c.in_ok-push.ensures.items) refl) refl
    (λ ls t. t)
