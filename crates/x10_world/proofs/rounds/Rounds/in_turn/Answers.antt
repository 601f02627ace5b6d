use Rattle.std.proofs.Common.{drop, sym, ap, inl, ◌∙◌}
use Rattle.x10_world.specs.declared.rounds.Phase.{Phase}
use Rattle.x10_world.specs.Rounds.{RoundsState, keys_left}
use Rattle.x10_world.proofs.TurnLemmas.{step_next, step_over}
use Rattle.x10_world.proofs.rounds.Rounds.in_turn.Goals as goal

pub returns-in-Steps-clause-some : goal.returns-in-Steps-clause-some
returns-in-Steps-clause-some c =
    let items = c.self.inside.keys.items in
    let left = sym (ap (λ (t : RoundsState). t.left) c.self.view_is) ∙ ap (λ (p : Phase). keys_left p items) c.in-Steps.is in
    step_next c.args.world.now c.args.self.now (drop c.in-Steps.field-0 items) c.step.result _ (inl left)
    (c.step.ensures (drop c.in-Steps.field-0 items) left)

pub returns-in-Steps-clause-none : goal.returns-in-Steps-clause-none
returns-in-Steps-clause-none c =
    let items = c.self.inside.keys.items in
    let left = sym (ap (λ (t : RoundsState). t.left) c.self.view_is) ∙ ap (λ (p : Phase). keys_left p items) c.in-Steps.is in
    step_over c.args.world.now c.args.self.now (drop c.in-Steps.field-0 items) c.step.result _ (inl left)
    (c.step.ensures (drop c.in-Steps.field-0 items) left)
