-- What a fault of one function says.
use Rattle.std.proofs.Common.{ℕ, List}
use Rattle.x10_model.specs.Modules.{Module, Function}
use Rattle.x10_verify.specs.declared.fault.FlowCause.{FlowCause}
use Rattle.x10_verify.specs.declared.fault.FlowCause.TheVariants as flow
use Rattle.x10_verify.specs.declared.states.Entry.{Entry}
use Rattle.x10_verify.specs.Faults.{flow_cause}
use Rattle.x10_verify.specs.Flows.{FlawsBy, IsStopped}

pub flaws_by : (m : Module) (function : Function) (pc : ℕ) (table : List Entry) (why : FlowCause) → IsStopped m function pc table why
    → FlawsBy (flow_cause why) m function pc table
flaws_by m function pc table flow.Unset h = h
flaws_by m function pc table flow.Kind h = h
flaws_by m function pc table flow.Home h = h
flaws_by m function pc table flow.Result h = h
