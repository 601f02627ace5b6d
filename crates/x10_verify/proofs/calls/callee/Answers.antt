use Rattle.std.proofs.Common.{subst}
use Rattle.x10_verify.specs.Known.{state_of}
use Rattle.x10_model.specs.Assignments.{SlotsAre}
use Rattle.x10_verify.proofs.RuleDecided.{unmatched}
use Rattle.x10_verify.proofs.InFunction.{parameters_are}
use Rattle.x10_verify.proofs.calls.callee.Goals as goal

pub returns-in_err-arguments_fit-clause-found : goal.returns-in_err-arguments_fit-clause-found
returns-in_err-arguments_fit-clause-found c = λ function pc.
    unmatched _ _ c.from_residual-in_err-arguments_fit.result c.from_residual-in_err-arguments_fit.ensures.0
    (λ e callee called. c.in_err-arguments_fit.ensures.fit
    (subst (SlotsAre (state_of c.args.known.now) c.args.at c.args.instr.b)
    (parameters_are c.args.image.now c.args.instr.x callee c.signature-signature.result c.signature-signature.ensures.value called.there)
    called.arguments))
