use Rattle.std.proofs.Common.{Some, sym, ap, ◌∙◌}
use Rattle.x10_handles.specs.Stations.{IsStepped}
use Rattle.x10_handles.proofs.Behind.{behind}
use Rattle.x10_handles.proofs.acts.step.Goals as goal

pub returns : goal.returns
returns c = behind c.args.handle.now c.put.new.handle c.deref_mut.result.now c.step_in-stepped.new.inside c.step_in-stepped.result
    (λ r s t. IsStepped s c.args.key r t)
    (c.in_ok-inside.ensures.taken ∙ ap Some (sym c.deref_mut.ensures.value)) c.put.ensures c.step_in-stepped.ensures
