use Rattle.std.proofs.Common.{sym, ap, ◌∙◌}
use Rattle.std.proofs.lemmas.Option.{same_Some}
use Rattle.x10_model.specs.Structure.{calls_earlier}
use Rattle.x10_bounds.proofs.FirstFailure.{goes_on, fails}
use Rattle.x10_bounds.proofs.rules.order_fault.Goals as goal

pub returns-then-not-calls_earlier : goal.returns-then-not-calls_earlier
returns-then-not-calls_earlier c = sym (fails (λ pc i. calls_earlier c.args.function i) c.args.code.now c.loop-pc.pc c.calls_earlier.result _
    c.loop-pc-test.true
    (λ i e. c.calls_earlier.ensures ∙ ap (calls_earlier c.args.function) (same_Some c.instr_at.result i (sym c.instr_at.ensures ∙ e)))
    c.if-not-calls_earlier.true c.loop-pc.invariant)

pub loop-pc-preserved : goal.loop-pc-preserved
loop-pc-preserved c = goes_on (λ pc i. calls_earlier c.args.function i) c.args.code.now c.loop-pc.pc c.calls_earlier.result _ c.loop-pc-test.true
    (λ i e. c.calls_earlier.ensures ∙ ap (calls_earlier c.args.function) (same_Some c.instr_at.result i (sym c.instr_at.ensures ∙ e)))
    c.if-not-calls_earlier.false c.loop-pc.invariant
