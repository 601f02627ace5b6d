use Rattle.std.proofs.Common.{refl, ◌∙◌}
use Rattle.x10_asm.proofs.LinesTakenIn.{took_class, map-push}
use Rattle.x10_asm.specs.Lines.{words}
use Rattle.x10_asm.proofs.source.Source.take_class.Goals as goal

pub returns : goal.returns
returns c = λ s f. took_class c.args.self.now _ s (words c.args.line.now) c.args.classes c.len-before.result c.in_ok-fields.fields.items f
    (c.len-before.ensures ∙ c.args.self.now.so_far.classes.ok.0) c.in_ok-fields.ensures refl
    (rw (map-push (λ v. v.items) c.push.new.self.items c.args.self.now.so_far.classes.items c.in_ok-fields.fields c.in_ok-push.ensures.items) refl)
    refl (λ ls t. t)
