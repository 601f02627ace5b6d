use Rattle.std.proofs.Common.{refl}
use Rattle.x10_asm.proofs.LinesTakenIn.{took_places}
use Rattle.x10_asm.specs.Lines.{words}
use Rattle.x10_asm.proofs.source.Source.take_places.Goals as goal

pub returns : goal.returns
returns c = λ s f. took_places c.args.self.now _ s (words c.args.line.now) c.in_ok-places.places f c.in_ok-places.ensures refl refl refl (λ ls t. t)
