use Rattle.std.proofs.Common.{arith}
use Rattle.x10_verify.specs.Known.{state_of}
use Rattle.x10_verify.proofs.RuleDecided.{all_kinds, kind_past}
use Rattle.x10_verify.proofs.objects.fields_fit.Goals as goal

pub returns-then-register-ge64-clause-fit : goal.returns-then-register-ge64-clause-fit
returns-then-register-ge64-clause-fit c = kind_past (state_of c.args.known.now) c.args.first c.loop-n.n c.args.fields.now c.field-want.result
    c.narrow.ensures c.field-want.ensures.value (omega arith)

pub returns-clause-fit : goal.returns-clause-fit
returns-clause-fit c = all_kinds (state_of c.args.known.now) c.args.first c.args.fields.now c.loop-n.n c.loop-n.invariant (omega arith)
