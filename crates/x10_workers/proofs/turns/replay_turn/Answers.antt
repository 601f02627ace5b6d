use Rattle.std.proofs.Common.{subst}
use Rattle.x10_world.specs.StandsForWorld.{WorldState}
use Rattle.x10_workers.specs.Audits.{nowhere, not_taken}
use Rattle.x10_workers.specs.Plays.{TakesFrames}
use Rattle.x10_workers.proofs.ReplayFaults.{plays_turn, is_other, true_false}
use Rattle.x10_workers.proofs.turns.replay_turn.Goals as goal

pub returns-in_default-clause-refuses : goal.returns-in_default-clause-refuses
returns-in_default-clause-refuses c f = nowhere c.in_default.ensures

pub returns-then-not-branch-clause-refuses : goal.returns-then-not-branch-clause-refuses
returns-then-not-branch-clause-refuses c f =
    not_taken (subst (λ ns. (y : WorldState) → TakesFrames c.args.world.now c.args.turn.now.place ns y → ⊥) c.deref.ensures.value
    (c.in_ok-take_all.ensures.refuses c.if-not-branch.true))

pub returns-clause-plays : goal.returns-clause-plays
returns-clause-plays c t =
    let told = c.is_told.ensures.0 t in
    plays_turn c.args.world.now c.take_all.new.world c.step_all.new.world c.args.turn.now c.posted-first.result c.in-Some.before
    c.posted-first.ensures.value c.in-Some.ensures
    (subst (λ ns. TakesFrames c.args.world.now c.args.turn.now.place ns c.take_all.new.world) c.deref.ensures.value
    (c.in_ok-take_all.ensures.takes c.if-not-branch.false)) c.in_ok-step_all.ensures.steps told.0 told.1

pub returns-clause-refuses : goal.returns-clause-refuses
returns-clause-refuses c f =
    is_other c.args.world.now c.take_all.new.world c.step_all.new.world c.args.turn.now c.posted-first.result c.in-Some.before
    c.posted-first.ensures.value c.in-Some.ensures
    (subst (λ ns. TakesFrames c.args.world.now c.args.turn.now.place ns c.take_all.new.world) c.deref.ensures.value
    (c.in_ok-take_all.ensures.takes c.if-not-branch.false)) c.in_ok-step_all.ensures.steps
    (λ told. true_false c.is_told.result (c.is_told.ensures.1 told) f)
