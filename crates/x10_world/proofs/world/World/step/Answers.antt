use Rattle.std.proofs.Common.{◌<◌, ◌≤◌, Ok, Err, length, refl, ap, subst, ◌∙◌, arith}
use Rattle.x10_place.specs.declared.place.Stepped.TheVariants as stepped
use Rattle.x10_world.specs.StandsForWorld.{with_sent}
use Rattle.x10_world.proofs.PlaceSteps.{Answered}
use Rattle.x10_world.proofs.WorldParts.{begun, answers_of, world_of_event, living_set, step_nowhere, step_made, step_refused, step_below}
use Rattle.x10_world.proofs.world.World.step.Goals as goal

pub returns-then-from-len : goal.returns-then-from-len
returns-then-from-len c =
    let begins = begun _ _ c.args.self.now c.self-inside.view_is c.self.invariant c.self.view_is c.requires in
    let past : length c.self-inside.inside.0.1.0.list.items ≤ c.args.place =
    omega (arith, c.if-from-len.true, c.len.ensures, c.self-inside.inside.0.1.0.list.ok.0, c.from.ensures) in
    answers_of _ _ _ _ _ begins _ _ _ _ _ (step_nowhere _ _ _ _ _ begins c.certificate.ensures.verified.bounds_are
    c.args.place c.args.key _ past c.in_default.ensures.ok) begins.off

pub invariant_of-self-inside-in-Ok-Idle : goal.invariant_of-self-inside-in-Ok-Idle
invariant_of-self-inside-in-Ok-Idle c =
    let within : c.from-2.result < length c.self-inside.inside.0.1.0.list.items =
    omega (arith, c.if-from-len.false, c.len.ensures, c.self-inside.inside.0.1.0.list.ok.0, c.from.ensures, c.from-2.ensures) in
    living_set _ _ _ _ _ _ _ _ _ c.from-2.ensures c.from-3.ensures within c.index_mut.ensures.value c.self-inside.invariant c.index.ensures
    c.noted-self-inside-inside.ensures.here c.noted-self-inside-inside.ensures.others

pub invariant_of-self-inside-in-Ok-Moved : goal.invariant_of-self-inside-in-Ok-Moved
invariant_of-self-inside-in-Ok-Moved c =
    let within : c.from-2.result < length c.self-inside.inside.0.1.0.list.items =
    omega (arith, c.if-from-len.false, c.len.ensures, c.self-inside.inside.0.1.0.list.ok.0, c.from.ensures, c.from-2.ensures) in
    living_set _ _ _ _ _ _ _ _ _ c.from-2.ensures c.from-3.ensures within c.index_mut.ensures.value c.self-inside.invariant c.index.ensures
    c.noted-self-inside-inside.ensures.here c.noted-self-inside-inside.ensures.others

pub invariant_of-self-inside-in-Err-did : goal.invariant_of-self-inside-in-Err-did
invariant_of-self-inside-in-Err-did c =
    let within : c.from-2.result < length c.self-inside.inside.0.1.0.list.items =
    omega (arith, c.if-from-len.false, c.len.ensures, c.self-inside.inside.0.1.0.list.ok.0, c.from.ensures, c.from-2.ensures) in
    living_set _ _ _ _ _ _ _ _ _ c.from-2.ensures c.from-3.ensures within c.index_mut.ensures.value c.self-inside.invariant c.index.ensures
    c.noted-self-inside-inside.ensures.here c.noted-self-inside-inside.ensures.others

pub returns-in-Ok-Idle : goal.returns-in-Ok-Idle
returns-in-Ok-Idle c =
    let begins = begun _ _ c.args.self.now c.self-inside.view_is c.self.invariant c.self.view_is c.requires in
    let within : c.from-2.result < length c.self-inside.inside.0.1.0.list.items =
    omega (arith, c.if-from-len.false, c.len.ensures, c.self-inside.inside.0.1.0.list.ok.0, c.from.ensures, c.from-2.ensures) in
    let made = c.in-Ok-Idle.ensures in
    let answered : Answered c.index_mut.result.now c.step-did.new.self c.args.key (Ok stepped.Idle) =
    subst (λ answer. Answered c.index_mut.result.now c.step-did.new.self c.args.key (Ok answer)) c.in-Ok-Idle.field-0-is
    (record {
      idle = made.idle;
      only = made.only;
      some = made.some;
      stopped = made.stopped;
      refused = made.refused;
      stop = made.stop;
      goes = made.goes;
      kept = made.kept;
    }) in
    answers_of _ _ _ _ _ begins _ _ _ _ _ (step_made _ _ _ _ _ begins c.certificate.ensures.verified.bounds_are
    c.args.place c.args.key _ _ _ c.from-2.ensures within c.index_mut.ensures.value stepped.Idle _ answered c.in_default.ensures.ok) begins.off

pub invariant_of-self-in-Ok-Idle : goal.invariant_of-self-in-Ok-Idle
invariant_of-self-in-Ok-Idle c =
    let begins = begun _ _ c.args.self.now c.self-inside.view_is c.self.invariant c.self.view_is c.requires in
    let within : c.from-2.result < length c.self-inside.inside.0.1.0.list.items =
    omega (arith, c.if-from-len.false, c.len.ensures, c.self-inside.inside.0.1.0.list.ok.0, c.from.ensures, c.from-2.ensures) in
    let made = c.in-Ok-Idle.ensures in
    let answered : Answered c.index_mut.result.now c.step-did.new.self c.args.key (Ok stepped.Idle) =
    subst (λ answer. Answered c.index_mut.result.now c.step-did.new.self c.args.key (Ok answer)) c.in-Ok-Idle.field-0-is
    (record {
      idle = made.idle;
      only = made.only;
      some = made.some;
      stopped = made.stopped;
      refused = made.refused;
      stop = made.stop;
      goes = made.goes;
      kept = made.kept;
    }) in
    world_of_event _ _ _ _ _ begins _ _ _ _ _ (step_made _ _ _ _ _ begins c.certificate.ensures.verified.bounds_are
    c.args.place c.args.key _ _ _ c.from-2.ensures within c.index_mut.ensures.value stepped.Idle _ answered c.in_default.ensures.ok) begins.off

pub returns-in-Ok-Moved : goal.returns-in-Ok-Moved
returns-in-Ok-Moved c =
    let begins = begun _ _ c.args.self.now c.self-inside.view_is c.self.invariant c.self.view_is c.requires in
    let within : c.from-2.result < length c.self-inside.inside.0.1.0.list.items =
    omega (arith, c.if-from-len.false, c.len.ensures, c.self-inside.inside.0.1.0.list.ok.0, c.from.ensures, c.from-2.ensures) in
    let made = c.in-Ok-Moved.ensures in
    let answered : Answered c.index_mut.result.now c.step-did.new.self c.args.key (Ok (stepped.Moved c.in-Ok-Moved.sent)) =
    subst (λ answer. Answered c.index_mut.result.now c.step-did.new.self c.args.key (Ok answer)) c.in-Ok-Moved.field-0-is
    (record {
      idle = made.idle;
      only = made.only;
      some = made.some;
      stopped = made.stopped;
      refused = made.refused;
      stop = made.stop;
      goes = made.goes;
      kept = made.kept;
    }) in
    answers_of _ _ _ _ _ begins _ _ _ _ _ (step_made _ _ _ _ _ begins c.certificate.ensures.verified.bounds_are
    c.args.place c.args.key _ _ _ c.from-2.ensures within c.index_mut.ensures.value (stepped.Moved c.in-Ok-Moved.sent) _ answered
    (c.post_all.ensures ∙ ap (λ g. with_sent g c.in-Ok-Moved.sent) c.in_default.ensures.ok)) begins.off

pub invariant_of-self-in-Ok-Moved : goal.invariant_of-self-in-Ok-Moved
invariant_of-self-in-Ok-Moved c =
    let begins = begun _ _ c.args.self.now c.self-inside.view_is c.self.invariant c.self.view_is c.requires in
    let within : c.from-2.result < length c.self-inside.inside.0.1.0.list.items =
    omega (arith, c.if-from-len.false, c.len.ensures, c.self-inside.inside.0.1.0.list.ok.0, c.from.ensures, c.from-2.ensures) in
    let made = c.in-Ok-Moved.ensures in
    let answered : Answered c.index_mut.result.now c.step-did.new.self c.args.key (Ok (stepped.Moved c.in-Ok-Moved.sent)) =
    subst (λ answer. Answered c.index_mut.result.now c.step-did.new.self c.args.key (Ok answer)) c.in-Ok-Moved.field-0-is
    (record {
      idle = made.idle;
      only = made.only;
      some = made.some;
      stopped = made.stopped;
      refused = made.refused;
      stop = made.stop;
      goes = made.goes;
      kept = made.kept;
    }) in
    world_of_event _ _ _ _ _ begins _ _ _ _ _ (step_made _ _ _ _ _ begins c.certificate.ensures.verified.bounds_are
    c.args.place c.args.key _ _ _ c.from-2.ensures within c.index_mut.ensures.value (stepped.Moved c.in-Ok-Moved.sent) _ answered
    (c.post_all.ensures ∙ ap (λ g. with_sent g c.in-Ok-Moved.sent) c.in_default.ensures.ok)) begins.off

pub returns-in-Err-did : goal.returns-in-Err-did
returns-in-Err-did c =
    let begins = begun _ _ c.args.self.now c.self-inside.view_is c.self.invariant c.self.view_is c.requires in
    let within : c.from-2.result < length c.self-inside.inside.0.1.0.list.items =
    omega (arith, c.if-from-len.false, c.len.ensures, c.self-inside.inside.0.1.0.list.ok.0, c.from.ensures, c.from-2.ensures) in
    let made = c.in-Err-did.ensures in
    let answered : Answered c.index_mut.result.now c.step-did.new.self c.args.key (Err c.in-Err-did.why) =
    record {
      idle = made.idle;
      only = made.only;
      some = made.some;
      stopped = made.stopped;
      refused = made.refused;
      stop = made.stop;
      goes = made.goes;
      kept = made.kept;
    } in
    answers_of _ _ _ _ _ begins _ _ _ _ _ (step_refused _ _ _ _ _ begins c.certificate.ensures.verified.bounds_are
    c.args.place c.args.key _ _ _ c.from-2.ensures within c.index_mut.ensures.value c.in-Err-did.why _ answered c.in_default.ensures.ok) refl

pub invariant_of-self-in-Err-did : goal.invariant_of-self-in-Err-did
invariant_of-self-in-Err-did c =
    let begins = begun _ _ c.args.self.now c.self-inside.view_is c.self.invariant c.self.view_is c.requires in
    let within : c.from-2.result < length c.self-inside.inside.0.1.0.list.items =
    omega (arith, c.if-from-len.false, c.len.ensures, c.self-inside.inside.0.1.0.list.ok.0, c.from.ensures, c.from-2.ensures) in
    let made = c.in-Err-did.ensures in
    let answered : Answered c.index_mut.result.now c.step-did.new.self c.args.key (Err c.in-Err-did.why) =
    record {
      idle = made.idle;
      only = made.only;
      some = made.some;
      stopped = made.stopped;
      refused = made.refused;
      stop = made.stop;
      goes = made.goes;
      kept = made.kept;
    } in
    world_of_event _ _ _ _ _ begins _ _ _ _ _ (step_refused _ _ _ _ _ begins c.certificate.ensures.verified.bounds_are
    c.args.place c.args.key _ _ _ c.from-2.ensures within c.index_mut.ensures.value c.in-Err-did.why _ answered c.in_default.ensures.ok) refl

pub post_all-requires-clause-there : goal.post_all-requires-clause-there
post_all-requires-clause-there c =
    let begins = begun _ _ c.args.self.now c.self-inside.view_is c.self.invariant c.self.view_is c.requires in
    let within : c.from-2.result < length c.self-inside.inside.0.1.0.list.items =
    omega (arith, c.if-from-len.false, c.len.ensures, c.self-inside.inside.0.1.0.list.ok.0, c.from.ensures, c.from-2.ensures) in
    let made = c.in-Ok-Moved.ensures in
    let answered : Answered c.index_mut.result.now c.step-did.new.self c.args.key (Ok (stepped.Moved c.in-Ok-Moved.sent)) =
    subst (λ answer. Answered c.index_mut.result.now c.step-did.new.self c.args.key (Ok answer)) c.in-Ok-Moved.field-0-is
    (record {
      idle = made.idle;
      only = made.only;
      some = made.some;
      stopped = made.stopped;
      refused = made.refused;
      stop = made.stop;
      goes = made.goes;
      kept = made.kept;
    }) in
    step_below _ _ _ _ _ begins c.certificate.ensures.verified.bounds_are
    c.args.place c.args.key _ _ _ c.from-2.ensures within c.index_mut.ensures.value c.in-Ok-Moved.sent _ answered c.in_default.ensures.ok
