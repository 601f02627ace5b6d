use Rattle.std.proofs.Common.{Some, sym, ap, ◌∙◌}
use Rattle.x10_handles.specs.Stations.{IsReceived}
use Rattle.x10_handles.proofs.Behind.{behind}
use Rattle.x10_handles.proofs.acts.receive.Goals as goal

pub returns : goal.returns
returns c = behind c.args.handle.now c.put.new.handle c.deref_mut.result.now c.receive_in-received.new.inside c.receive_in-received.result
    (λ r s t. IsReceived s c.args.bytes.now r t)
    (c.in_ok-inside.ensures.taken ∙ ap Some (sym c.deref_mut.ensures.value)) c.put.ensures c.receive_in-received.ensures
