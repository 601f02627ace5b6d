use Rattle.std.proofs.Common.{◌++◌, [], ◌∷◌, List, sym, ap, ◌∙◌}
use Rattle.x10_code.specs.declared.instr.Instr.{Instr}
use Rattle.x10_bounds.proofs.InOrder.{take-at}
use Rattle.x10_bounds.proofs.functions.code_of.Goals as goal

pub loop-pc-preserved : goal.loop-pc-preserved
loop-pc-preserved c = c.in_ok-push.ensures.items ∙ ap (λ (xs : List Instr). xs ++ c.instr.result ∷ []) c.loop-pc.invariant
    ∙ sym (take-at c.args.image.now c.args.f c.loop-pc.pc c.instr.result c.instr.ensures.value)
