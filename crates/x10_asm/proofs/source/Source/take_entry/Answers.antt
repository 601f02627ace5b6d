use Rattle.std.proofs.Common.{refl}
use Rattle.x10_asm.proofs.LinesTakenIn.{took_entry}
use Rattle.x10_asm.specs.Lines.{words}
use Rattle.x10_asm.proofs.source.Source.take_entry.Goals as goal

pub returns : goal.returns
returns c = λ s f. took_entry c.args.self.now _ s (words c.args.line.now) c.in_ok-entry.entry f
    (rw c.deref.ensures.value at c.in_ok-entry.ensures) refl refl refl (λ ls t. t)
