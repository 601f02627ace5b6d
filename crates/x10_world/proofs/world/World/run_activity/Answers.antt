use Rattle.std.proofs.Common.{◌<◌, ◌≤◌, [], length, refl, ap, ◌∙◌, arith}
use Rattle.x10_model.specs.Worlds.{done}
use Rattle.x10_world.specs.Runs.{Reaches, at_rest}
use Rattle.x10_world.specs.StandsForWorld.{IsRunOn, with_sent}
use Rattle.x10_world.proofs.CallAnswers.{answers_run}
use Rattle.x10_world.proofs.RunLemmas.{within as in_bounds}
use Rattle.x10_world.proofs.StretchLemmas.{roomless_is}
use Rattle.x10_world.proofs.WorldParts.{begun, living_set, run_nowhere, run_roomless, run_made, run_refused, run_below, world_of_run}
use Rattle.x10_world.proofs.world.World.run_activity.Goals as goal

pub returns-in_err-going-clause-some : goal.returns-in_err-going-clause-some
returns-in_err-going-clause-some c = λ w stand.
    (let still : Reaches c.args.self.now w [] c.args.self.now =
    record { last = w; run = done w (in_bounds c.args.self.now w stand); stands = stand } in
    (0, omega arith, record { reaches = still; moves = at_rest }))

pub returns-in-Err : goal.returns-in-Err
returns-in-Err c =
    let begins = begun _ _ c.args.self.now c.self-inside.view_is c.self.invariant c.self.view_is c.in_ok-going.ensures.ok in
    let h = run_roomless _ _ _ _ _ begins c.certificate.ensures.verified.bounds_are c.args.place c.args.key c.args.most _ c.in-Err.why
    c.in-Err.ensures.err.0 (roomless_is c.self-inside.inside.0.1.1.0 c.in-Err.why c.in-Err.ensures.err.1 c.in-Err.ensures.limit) in
    let a = answers_run _ _ _ _ begins.seen _ _ _ _ _ _ _ h refl c.in_ok-going.ensures.ok in
    record {
      ok = a.ok;
      some = a.some;
      few = a.few;
      all = a.all;
      waits = a.waits;
      stopped = a.stopped;
      goes = a.goes;
      hindered = a.hindered;
      stop = a.stop_is;
      kept = a.kept;
    }

pub returns-then-from-len : goal.returns-then-from-len
returns-then-from-len c =
    let begins = begun _ _ c.args.self.now c.self-inside.view_is c.self.invariant c.self.view_is c.in_ok-going.ensures.ok in
    let past : length c.self-inside.inside.0.1.0.list.items ≤ c.args.place =
    omega (arith, c.if-from-len.true, c.len.ensures, c.self-inside.inside.0.1.0.list.ok.0, c.from.ensures) in
    let h = run_nowhere _ _ _ _ _ begins c.certificate.ensures.verified.bounds_are
    c.args.place c.args.key c.args.most _ past c.in_default.ensures.ok in
    let a = answers_run _ _ _ _ begins.seen _ _ _ _ _ _ _ h begins.off c.in_ok-going.ensures.ok in
    record {
      ok = a.ok;
      some = a.some;
      few = a.few;
      all = a.all;
      waits = a.waits;
      stopped = a.stopped;
      goes = a.goes;
      hindered = a.hindered;
      stop = a.stop_is;
      kept = a.kept;
    }

pub returns-in-Ok : goal.returns-in-Ok
returns-in-Ok c =
    let begins = begun _ _ c.args.self.now c.self-inside.view_is c.self.invariant c.self.view_is c.in_ok-going.ensures.ok in
    let within : c.from-2.result < length c.self-inside.inside.0.1.0.list.items =
    omega (arith, c.if-from-len.false, c.len.ensures, c.self-inside.inside.0.1.0.list.ok.0, c.from.ensures, c.from-2.ensures) in
    let run : IsRunOn c.index_mut.result.now c.run-done.new.self c.args.key c.args.most c.run-done.result.0 c.run-done.result.1 =
    record {
      kept = c.run-done.ensures.kept;
      ran = c.run-done.ensures.ran;
      few = c.run-done.ensures.few;
      all = c.run-done.ensures.all;
      goes = c.run-done.ensures.goes;
    } in
    let h = run_made _ _ _ _ _ begins c.certificate.ensures.verified.bounds_are
    c.args.place c.args.key _ _ _ c.from-2.ensures within c.index_mut.ensures.value c.args.most _
    c.in-Ok.sent _ _ run c.in-Ok.is
    (c.post_all.ensures ∙ ap (λ g. with_sent g c.in-Ok.sent) c.in_default.ensures.ok) in
    let a = answers_run _ _ _ _ begins.seen _ _ _ _ _ _ _ h begins.off c.in_ok-going.ensures.ok in
    record {
      ok = a.ok;
      some = a.some;
      few = a.few;
      all = a.all;
      waits = a.waits;
      stopped = a.stopped;
      goes = a.goes;
      hindered = a.hindered;
      stop = a.stop_is;
      kept = a.kept;
    }

pub returns-in-Err-last : goal.returns-in-Err-last
returns-in-Err-last c =
    let begins = begun _ _ c.args.self.now c.self-inside.view_is c.self.invariant c.self.view_is c.in_ok-going.ensures.ok in
    let within : c.from-2.result < length c.self-inside.inside.0.1.0.list.items =
    omega (arith, c.if-from-len.false, c.len.ensures, c.self-inside.inside.0.1.0.list.ok.0, c.from.ensures, c.from-2.ensures) in
    let run : IsRunOn c.index_mut.result.now c.run-done.new.self c.args.key c.args.most c.run-done.result.0 c.run-done.result.1 =
    record {
      kept = c.run-done.ensures.kept;
      ran = c.run-done.ensures.ran;
      few = c.run-done.ensures.few;
      all = c.run-done.ensures.all;
      goes = c.run-done.ensures.goes;
    } in
    let h = run_refused _ _ _ _ _ begins c.certificate.ensures.verified.bounds_are
    c.args.place c.args.key _ _ _ c.from-2.ensures within c.index_mut.ensures.value c.args.most _
    c.in-Err-last.why _ _ run c.in-Err-last.is c.in_default.ensures.ok in
    let a = answers_run _ _ _ _ begins.seen _ _ _ _ _ _ _ h refl c.in_ok-going.ensures.ok in
    record {
      ok = a.ok;
      some = a.some;
      few = a.few;
      all = a.all;
      waits = a.waits;
      stopped = a.stopped;
      goes = a.goes;
      hindered = a.hindered;
      stop = a.stop_is;
      kept = a.kept;
    }

pub post_all-requires-clause-there : goal.post_all-requires-clause-there
post_all-requires-clause-there c =
    let begins = begun _ _ c.args.self.now c.self-inside.view_is c.self.invariant c.self.view_is c.in_ok-going.ensures.ok in
    let within : c.from-2.result < length c.self-inside.inside.0.1.0.list.items =
    omega (arith, c.if-from-len.false, c.len.ensures, c.self-inside.inside.0.1.0.list.ok.0, c.from.ensures, c.from-2.ensures) in
    let run : IsRunOn c.index_mut.result.now c.run-done.new.self c.args.key c.args.most c.run-done.result.0 c.run-done.result.1 =
    record {
      kept = c.run-done.ensures.kept;
      ran = c.run-done.ensures.ran;
      few = c.run-done.ensures.few;
      all = c.run-done.ensures.all;
      goes = c.run-done.ensures.goes;
    } in
    run_below _ _ _ _ _ begins c.certificate.ensures.verified.bounds_are
    c.args.place c.args.key _ _ _ c.from-2.ensures within c.index_mut.ensures.value c.args.most _
    c.in-Ok.sent _ _ run c.in-Ok.is c.in_default.ensures.ok

pub invariant_of-self-inside-in-Ok : goal.invariant_of-self-inside-in-Ok
invariant_of-self-inside-in-Ok c =
    let within : c.from-2.result < length c.self-inside.inside.0.1.0.list.items =
    omega (arith, c.if-from-len.false, c.len.ensures, c.self-inside.inside.0.1.0.list.ok.0, c.from.ensures, c.from-2.ensures) in
    living_set _ _ _ _ _ _ _ _ _ c.from-2.ensures c.from-3.ensures within c.index_mut.ensures.value c.self-inside.invariant c.index.ensures
    c.noted-self-inside-inside.ensures.here c.noted-self-inside-inside.ensures.others

pub invariant_of-self-inside-in-Err-last : goal.invariant_of-self-inside-in-Err-last
invariant_of-self-inside-in-Err-last c =
    let within : c.from-2.result < length c.self-inside.inside.0.1.0.list.items =
    omega (arith, c.if-from-len.false, c.len.ensures, c.self-inside.inside.0.1.0.list.ok.0, c.from.ensures, c.from-2.ensures) in
    living_set _ _ _ _ _ _ _ _ _ c.from-2.ensures c.from-3.ensures within c.index_mut.ensures.value c.self-inside.invariant c.index.ensures
    c.noted-self-inside-inside.ensures.here c.noted-self-inside-inside.ensures.others

pub invariant_of-self-in-Ok : goal.invariant_of-self-in-Ok
invariant_of-self-in-Ok c =
    let begins = begun _ _ c.args.self.now c.self-inside.view_is c.self.invariant c.self.view_is c.in_ok-going.ensures.ok in
    let within : c.from-2.result < length c.self-inside.inside.0.1.0.list.items =
    omega (arith, c.if-from-len.false, c.len.ensures, c.self-inside.inside.0.1.0.list.ok.0, c.from.ensures, c.from-2.ensures) in
    let run : IsRunOn c.index_mut.result.now c.run-done.new.self c.args.key c.args.most c.run-done.result.0 c.run-done.result.1 =
    record {
      kept = c.run-done.ensures.kept;
      ran = c.run-done.ensures.ran;
      few = c.run-done.ensures.few;
      all = c.run-done.ensures.all;
      goes = c.run-done.ensures.goes;
    } in
    let h = run_made _ _ _ _ _ begins c.certificate.ensures.verified.bounds_are
    c.args.place c.args.key _ _ _ c.from-2.ensures within c.index_mut.ensures.value c.args.most _
    c.in-Ok.sent _ _ run c.in-Ok.is
    (c.post_all.ensures ∙ ap (λ g. with_sent g c.in-Ok.sent) c.in_default.ensures.ok) in
    world_of_run _ _ _ _ _ begins _ _ _ _ _ _ _ h begins.off

pub invariant_of-self-in-Err-last : goal.invariant_of-self-in-Err-last
invariant_of-self-in-Err-last c =
    let begins = begun _ _ c.args.self.now c.self-inside.view_is c.self.invariant c.self.view_is c.in_ok-going.ensures.ok in
    let within : c.from-2.result < length c.self-inside.inside.0.1.0.list.items =
    omega (arith, c.if-from-len.false, c.len.ensures, c.self-inside.inside.0.1.0.list.ok.0, c.from.ensures, c.from-2.ensures) in
    let run : IsRunOn c.index_mut.result.now c.run-done.new.self c.args.key c.args.most c.run-done.result.0 c.run-done.result.1 =
    record {
      kept = c.run-done.ensures.kept;
      ran = c.run-done.ensures.ran;
      few = c.run-done.ensures.few;
      all = c.run-done.ensures.all;
      goes = c.run-done.ensures.goes;
    } in
    let h = run_refused _ _ _ _ _ begins c.certificate.ensures.verified.bounds_are
    c.args.place c.args.key _ _ _ c.from-2.ensures within c.index_mut.ensures.value c.args.most _
    c.in-Err-last.why _ _ run c.in-Err-last.is c.in_default.ensures.ok in
    h.world
