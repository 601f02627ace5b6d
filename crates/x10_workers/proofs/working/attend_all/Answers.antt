use Rattle.std.proofs.Common.{[], inr, subst}
use Rattle.x10_workers.specs.Causes.{Halts}
use Rattle.x10_workers.specs.Workings.{WorksOn}
use Rattle.x10_workers.proofs.CauseLemmas.{halted_as}
use Rattle.x10_workers.proofs.KeptTurns.{kept_whole}
use Rattle.x10_workers.proofs.working.attend_all.Goals as goal

pub returns : goal.returns
returns g c =
    let gone = subst (λ ts. WorksOn c.in_ok-worker.worker.place ts c.attend.new.worker.place c.attend.new.worker.kept.items) c.in_ok-worker.ensures.1
    c.in_default.ensures.works in
    kept_whole c.args.verified.now c.args.places c.args.id c.in_ok-place.place c.attend.new.worker.place c.attend.new.worker.kept.items
    c.in_ok-into_kept.field-0 c.requires.enough c.requires.few c.in_ok-place.ensures.fields c.in_ok-place.ensures.opening
    (subst (λ p. WorksOn p [] c.attend.new.worker.place c.attend.new.worker.kept.items) c.in_ok-worker.ensures.0 gone) c.in_ok-into_kept.ensures

pub returns-in-Err : goal.returns-in-Err
returns-in-Err g c = inr (record {
  first = c.in_ok-place.place;
  opened = record { is_new = c.in_ok-place.ensures.fields; stands = c.in_ok-place.ensures.opening };
  halts = halted_as c.in_ok-place.place c.in-Err.why c.into_halted.result.why c.into_halted.ensures
      (subst (λ p. Halts p c.in-Err.why) c.in_ok-worker.ensures.0 c.in-Err.ensures.halts);
})
