use Rattle.std.proofs.Common.{arith}
use Rattle.x10_verify.specs.Known.{state_of}
use Rattle.x10_verify.proofs.RuleDecided.{all_slots, slot_past}
use Rattle.x10_verify.proofs.calls.arguments_fit.Goals as goal

pub returns-then-register-ge64-clause-fit : goal.returns-then-register-ge64-clause-fit
returns-then-register-ge64-clause-fit c = slot_past (state_of c.args.known.now) c.args.at c.args.first c.loop-n.n c.args.signature.now.parameters
    c.parameter-slot.result c.narrow.ensures c.parameter-slot.ensures.value (omega arith)

pub returns-clause-fit : goal.returns-clause-fit
returns-clause-fit c = all_slots (state_of c.args.known.now) c.args.at c.args.first c.args.signature.now.parameters c.loop-n.n c.loop-n.invariant
    (omega arith)
