use Rattle.std.proofs.Common.{refl}
use Rattle.x10_asm.proofs.LinesTakenIn.{took_version}
use Rattle.x10_asm.specs.Lines.{words}
use Rattle.x10_asm.proofs.source.Source.take_version.Goals as goal

pub returns : goal.returns
returns c = λ s f. took_version c.args.self.now _ s (words c.args.line.now) c.in_ok-version_of.field-0 f c.in_ok-version_of.ensures refl refl refl
    (λ ls t. t)
