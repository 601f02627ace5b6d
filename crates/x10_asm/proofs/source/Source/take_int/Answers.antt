use Rattle.std.proofs.Common.{refl, ap, ◌∙◌, List}
use Rattle.x10_asm.proofs.LinesTakenIn.{took_int}
use Rattle.std.proofs.Common.{ℤ, rules}
use Rattle.x10_image.specs.Written.{shown}
use Rattle.x10_asm.specs.Lines.{words}
use Rattle.x10_asm.proofs.source.Source.take_int.Goals as goal

pub returns : goal.returns
returns c = λ s f. took_int c.args.self.now _ s (words c.args.line.now) c.len.result c.in_ok-int.int f
    (c.len.ensures ∙ c.args.self.now.so_far.ints.ok.0) c.in_ok-int.ensures refl
    (ap (λ (xs : List ℤ). record (shown c.args.self.now.so_far) { ints = xs }) (search rules)) refl (λ ls t. t)
