use Rattle.std.proofs.Common.{false, refl, sym, ◌∙◌}
use Rattle.x10_asm.proofs.LinesTakenIn.{took_instruction, unknown_line, asked_alike}
use Rattle.x10_asm.specs.Lines.{words}
use Rattle.x10_asm.proofs.source.Source.take_instruction.Goals as goal

pub returns-then-not-is_known : goal.returns-then-not-is_known
returns-then-not-is_known c = λ s f _. unknown_line s c.args.op (words c.args.line.now)
    (asked_alike c.args.self.now s c.args.op false f (sym c.is_known.ensures.value ∙ c.if-not-is_known.true))

pub returns : goal.returns
returns c = λ s f. took_instruction c.args.self.now _ s (words c.args.line.now) c.args.op c.is_inside-inside.result c.len-count.result
    c.in_ok-instr.instr f (c.len-count.ensures ∙ c.args.self.now.function.code.ok.0) c.is_inside-inside.ensures
    (sym c.is_known.ensures.value ∙ c.if-not-is_known.false) c.in_ok-instr.ensures refl refl (rw c.in_ok-push.ensures.items refl) (λ ls t. t)
