use Rattle.std.proofs.Common.{ap, sym, ◌∙◌}
use Rattle.x10_model.specs.Images.{spelling}
use Rattle.x10_world.proofs.EndingLemmas.{ending_is}
use Rattle.x10_world.proofs.StopCauses.{run_stop}
use Rattle.x10_world.proofs.ending.run_image.Goals as goal

pub returns-clause-ending : goal.returns-clause-ending
returns-clause-ending c = (
  c.in-Ok-verify.verified,
  record { certified = c.in-Ok-verify.ensures.ok.1; spelled = c.in-Ok.ensures.found.1 ∙ ap (λ m. spelling m) (sym c.in-Ok-verify.ensures.ok.0) },
  ending_is c.in-Ok-verify.verified c.args.places c.args.events.now c.in-Ok-open.world c.make-done.new.self _ _ c.in-Ok-open.ensures.opened
      c.make-done.ensures.runs c.make-done.ensures.halted c.make-done.ensures.all c.make-done.ensures.less
      (λ forbidden. absurd (let refused = c.in-Ok-open.ensures.places.1 forbidden in cc)) c.make-done.ensures.kept c.in-Ok-outputs.ensures
      c.closed-closed.ensures.value c.closed-closed.ensures.ended c.closed-closed.ensures.over,
)

pub returns-clause-stop : goal.returns-clause-stop
returns-clause-stop c = run_stop c.in-Ok-open.world c.make-done.new.self c.args.events.now c.make-done.result.0 c.make-done.result.1
    c.make-done.ensures.halted
