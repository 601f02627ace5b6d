use Rattle.std.proofs.Common.{Some, sym, ap, ◌∙◌}
use Rattle.x10_handles.specs.Worlds.{IsMade}
use Rattle.x10_handles.proofs.BehindWorld.{behind_world}
use Rattle.x10_handles.proofs.worlds.happen.Goals as goal

pub returns : goal.returns
returns c = behind_world c.args.handle.now c.put.new.handle c.deref_mut.result.now c.happen_in-made.new.inside c.happen_in-made.result
    (λ r x y. IsMade x c.args.event r y)
    (c.in_ok-inside.ensures.taken ∙ ap Some (sym c.deref_mut.ensures.value)) c.put.ensures c.happen_in-made.ensures
