use Rattle.std.proofs.Common.{◌≡◌, ◌+◌, Some, drop, refl, sym, ap, subst, ◌∙◌, arith}
use Rattle.std.specs.Prelude.{slice_get}
use Rattle.std.proofs.lemmas.Option.{same_Some, slice_get-get_or}
use Rattle.x10_model.specs.declared.event.Event.TheVariants.{Step}
use Rattle.x10_world.specs.declared.rounds.Phase.{Phase}
use Rattle.x10_world.specs.Rounds.{RoundsState, NamesStep, IsFirstInUse, keys_left}
use Rattle.x10_world.proofs.TurnLemmas.{step_named}
use Rattle.x10_world.proofs.rounds.Rounds.step.Goals as goal

pub returns : goal.returns
returns c = λ keys left.
    (let items = c.self.inside.keys.items in
    let at = c.next_in_use-at.result in
    let same : drop c.in-Steps.from items ≡ keys = same_Some (drop c.in-Steps.from items) keys
    (ap (λ (p : Phase). keys_left p items) (sym c.in-Steps.is) ∙ ap (λ (t : RoundsState). t.left) c.self.view_is ∙ left) in
    let first = subst (λ ks. IsFirstInUse c.args.world.now c.self.inside.place ks c.in-Steps.from at) c.deref.ensures.value
    c.next_in_use-at.ensures in
    let is : slice_get items at ≡ Some c.index.result.now = slice_get-get_or items at c.index.result.now
    (omega (arith, c.if-at-len.false, c.len.ensures, c.self.inside.keys.ok.0)) ∙ ap Some (sym c.index.ensures) in
    let named = step_named c.args.world.now c.self.inside.place c.in-Steps.from at c.index.result.now items
    (Step c.self.inside.place c.index.result.now) (record { place = c.self.inside.place; left = Some (drop (at + 1) items) }) first is refl
    refl in
    subst (λ n. NamesStep c.args.world.now n keys (Step c.self.inside.place c.index.result.now)
    (record { place = c.self.inside.place; left = Some (drop (at + 1) items) })) (ap (λ (t : RoundsState). t.place) c.self.view_is)
    (subst (λ ks. NamesStep c.args.world.now c.self.inside.place ks (Step c.self.inside.place c.index.result.now)
    (record { place = c.self.inside.place; left = Some (drop (at + 1) items) })) same named))
