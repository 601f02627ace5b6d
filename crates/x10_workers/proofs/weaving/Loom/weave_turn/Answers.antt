use Rattle.std.proofs.Common.{rules, ap, subst, ◌∙◌}
use Rattle.std.specs.Prelude.{ℕ}
use Rattle.std.proofs.lemmas.Option.{slice_get_within}
use Rattle.x10_workers.specs.declared.trail.OwnTurn as turn
use Rattle.x10_workers.specs.Looms.{woven}
use Rattle.x10_workers.specs.Weaves.{IsNextTurn}
use Rattle.x10_workers.proofs.WorkLemmas.{none_next, weaves_by}
use Rattle.x10_workers.proofs.weaving.Loom.weave_turn.Goals as goal

pub returns-in_default-clause-refuses : goal.returns-in_default-clause-refuses
returns-in_default-clause-refuses c f after w =
    none_next c.args.trails.now (woven c.args.self.now) after c.args.turn.now
    (subst (λ n. (cursor : ℕ) (own : turn.OwnTurn) → IsNextTurn c.args.trails.now (woven c.args.self.now).cursors n cursor own → ⊥)
    c.from-place.ensures c.in_default.ensures.none) w

pub index_mut-requires : goal.index_mut-requires
index_mut-requires c =
    let kept = c.in_ok-post_all.ensures.cursors ∙ c.if-not-take_all.ensures.cursors in
    let lt = slice_get_within c.args.self.now.cursors.items c.from-place.result c.in-Some.cursor c.in-Some.ensures.next.cursor_is in
    search rules

pub returns-clause-weaves : goal.returns-clause-weaves
returns-clause-weaves c t =
    weaves_by c.args.trails.now (woven c.args.self.now) c.args.turn.now c.from-place.result c.in-Some.cursor c.in-Some.own.now
    (woven c.take_all.new.self).flying (woven c.post_all.new.self).flying c.post_all.new.self.cursors.items c.deref.result.now
    c.deref-2.result.now
    c.from-place.ensures c.in-Some.ensures.next (c.is_turn_of.ensures.0 c.if-not-is_turn_of.false) c.deref.ensures.value
    (c.take_all.ensures.takes c.if-not-take_all.false) c.deref-2.ensures.value
    (ap (λ v. v.items) (c.in_ok-post_all.ensures.cursors ∙ c.if-not-take_all.ensures.cursors)) c.in_ok-post_all.ensures.flying
