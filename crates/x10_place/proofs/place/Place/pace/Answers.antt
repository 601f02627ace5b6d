use Rattle.std.proofs.Common.{◌∙◌, sym}
use Rattle.std.proofs.lemmas.Bool.{both_ways}
use Rattle.x10_place.proofs.SweepLemmas.{idle_goes_on, moved_goes_on, ends_by_sent, ends_by_begun, ends_by_end}
use Rattle.x10_place.proofs.place.Place.pace.Goals as goal
use Rattle.x10_place.proofs.place.Place.pace.Goals.{else-is_nothing-via-then-is_nothing+else-not-contains, else-is_nothing-via-then-is_nothing+then-not-contains+else-live, else-is_nothing-via-else-is_nothing}

pub returns-in-Idle-clause-goes_on : goal.returns-in-Idle-clause-goes_on
returns-in-Idle-clause-goes_on c =
    let step = c.in_ok-step.ensures in
    idle_goes_on c.args.key c.args.moved.now c.args.self.now c.step.new.self c.in_ok-step.field-0 step.idle step.only step.some step.stopped step.goes
    step.kept c.vacant_key-vacant.result c.vacant_key-vacant.ensures.value c.vacant_key-vacant.ensures.vacant c.in-Idle.is

pub returns-then-live-clause-goes_on : goal.returns-then-live-clause-goes_on
returns-then-live-clause-goes_on c =
    let step = c.in_ok-step.ensures in
    moved_goes_on c.args.key c.args.moved.now c.args.self.now c.step.new.self c.in_ok-step.field-0 step.idle step.only step.some step.stopped step.goes
    step.kept c.in-Moved.sent c.vacant_key-vacant.result c.vacant_key-vacant.ensures.value
    (λ there. both_ways c.contains.result c.if-not-contains.true (c.contains.ensures.1 there)) c.in-Moved.is
    (c.is_nothing.ensures.0 c.if-is_nothing.true) (sym c.live.ensures ∙ c.if-live.true ∙ c.live-live.ensures)

pub returns-else-is_nothing-clause-ends : goal.returns-else-is_nothing-clause-ends
returns-else-is_nothing-clause-ends c =
    let step = c.in_ok-step.ensures in
    elim c.else-is_nothing.branch [
      | else-is_nothing-via-then-is_nothing+else-not-contains w ↦
          ends_by_begun c.args.key c.args.moved.now c.args.self.now c.step.new.self c.in_ok-step.field-0 step.idle step.only step.some step.stopped
          step.goes step.kept c.in-Moved.sent c.in-Moved.is c.vacant_key-vacant.result c.vacant_key-vacant.ensures.value
          c.vacant_key-vacant.ensures.vacant (w.contains.ensures.0 w.if-not-contains.false)
      | else-is_nothing-via-then-is_nothing+then-not-contains+else-live w ↦
          ends_by_end c.args.key c.args.moved.now c.args.self.now c.step.new.self c.in_ok-step.field-0 step.idle step.only step.some step.stopped
          step.goes step.kept c.in-Moved.sent c.in-Moved.is
          (λ same. w.if-live.false (w.live.ensures ∙ same ∙ sym c.live-live.ensures))
      | else-is_nothing-via-else-is_nothing w ↦
          ends_by_sent c.args.key c.args.moved.now c.args.self.now c.step.new.self c.in_ok-step.field-0 step.idle step.only step.some step.stopped
          step.goes step.kept c.in-Moved.sent c.in-Moved.is (λ e. both_ways c.is_nothing.result w.if-is_nothing.false (c.is_nothing.ensures.1 e))
    ]
