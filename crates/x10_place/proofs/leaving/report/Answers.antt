use Rattle.std.proofs.Common.{◌≡◌, ◌<◌, ◌^◌, ℕ, rules, subst}
use Rattle.x10_model.specs.Frames as frames
use Rattle.x10_model.specs.declared.version.FrameVersion.TheVariants.{Wide}
use Rattle.x10_model.specs.Frames.{spelling}
use Rattle.x10_place.proofs.Leavings.{reports_none, reports_one, report_short}
use Rattle.x10_place.proofs.leaving.report.Goals as goal

pub returns-in_default-clause-ok : goal.returns-in_default-clause-ok
returns-in_default-clause-ok c = reports_none c.args.store.now c.args.finish c.due.ensures.here c.in_default.ensures.none

pub write_counts-requires : goal.write_counts-requires
write_counts-requires c = report_short c.args.store.now c.args.finish c.in-Some.sent.now c.in-Some.received.now c.due.ensures.places
    c.requires.few c.in-Some.ensures.some.1

pub returns-in-Ok-clause-ok : goal.returns-in-Ok-clause-ok
returns-in-Ok-clause-ok c =
    reports_one c.args.store.now c.args.finish c.in-Some.sent.now c.in-Some.received.now c.in-Ok.bytes c.due.ensures.here
    c.due.ensures.places c.requires.within c.requires.home (let few : c.args.finish.number < 2 ^ 32 = search rules in few)
    c.in-Some.ensures.some c.counts_are_small.ensures c.counts_are_small-2.ensures
    (subst (λ (here : ℕ). c.in-Ok.bytes.items ≡ spelling Wide
    (frames.Report here c.args.finish.home c.args.finish.number c.in-Some.sent.now c.in-Some.received.now)) c.locality-here.ensures.here
    c.in-Ok.ensures.value)
