use Rattle.std.proofs.Common.{◌<◌, length, ap, ◌∙◌, arith}
use Rattle.x10_world.specs.Runs.{steps_at}
use Rattle.x10_world.specs.StandsForWorld.{with_sent}
use Rattle.x10_world.proofs.StretchLemmas.{roomless_is}
use Rattle.x10_world.proofs.WorldParts.{begun, living_set}
use Rattle.x10_world.proofs.SweepRuns.{nowhere_runs, roomless_run, swept_below, swept_world, swept_runs, swept_halted_world, swept_halted, some_made}
use Rattle.x10_world.proofs.world.World.sweep.Goals as goal

pub returns-in-Err-clause-halted : goal.returns-in-Err-clause-halted
returns-in-Err-clause-halted c =
    let begins = begun _ _ c.args.self.now c.self-inside.view_is c.self.invariant c.self.view_is c.requires.going in
    roomless_run _ _ _ _ _ _ c.args.place c.args.keys.now c.in-Err.why begins c.requires.some c.in-Err.ensures.err.0
    (roomless_is c.self-inside.inside.0.1.1.0 c.in-Err.why c.in-Err.ensures.err.1 c.in-Err.ensures.limit)

pub returns-then-from-len-clause-runs : goal.returns-then-from-len-clause-runs
returns-then-from-len-clause-runs c =
    let begins = begun _ _ c.args.self.now c.self-inside.view_is c.self.invariant c.self.view_is c.requires.going in
    nowhere_runs _ _ _ _ _ _ (steps_at c.args.place c.args.keys.now) begins c.in_default.ensures.ok

pub post_all-requires-clause-there : goal.post_all-requires-clause-there
post_all-requires-clause-there c =
    let begins = begun _ _ c.args.self.now c.self-inside.view_is c.self.invariant c.self.view_is c.requires.going in
    let within : c.from-2.result < length c.self-inside.inside.0.1.0.list.items =
    omega (arith, c.if-from-len.false, c.len.ensures, c.self-inside.inside.0.1.0.list.ok.0, c.from.ensures, c.from-2.ensures) in
    swept_below _ _ _ _ _ begins c.certificate.ensures.verified.bounds_are c.args.place _ _ _ c.args.keys.now c.from-2.ensures within
    c.index_mut.ensures.value _ _ _ c.sweep-made.ensures.ran c.in-Ok.sent c.in-Ok.is _ c.in_default.ensures.ok

pub invariant_of-self-inside-in-Ok : goal.invariant_of-self-inside-in-Ok
invariant_of-self-inside-in-Ok c =
    let within : c.from-2.result < length c.self-inside.inside.0.1.0.list.items =
    omega (arith, c.if-from-len.false, c.len.ensures, c.self-inside.inside.0.1.0.list.ok.0, c.from.ensures, c.from-2.ensures) in
    living_set _ _ _ _ _ _ _ _ _ c.from-2.ensures c.from-3.ensures within c.index_mut.ensures.value c.self-inside.invariant c.index.ensures
    c.noted-self-inside-inside.ensures.here c.noted-self-inside-inside.ensures.others

pub invariant_of-self-in-Ok : goal.invariant_of-self-in-Ok
invariant_of-self-in-Ok c =
    let begins = begun _ _ c.args.self.now c.self-inside.view_is c.self.invariant c.self.view_is c.requires.going in
    let within : c.from-2.result < length c.self-inside.inside.0.1.0.list.items =
    omega (arith, c.if-from-len.false, c.len.ensures, c.self-inside.inside.0.1.0.list.ok.0, c.from.ensures, c.from-2.ensures) in
    swept_world _ _ _ _ _ begins c.certificate.ensures.verified.bounds_are c.args.place _ _ _ c.args.keys.now c.from-2.ensures within
    c.index_mut.ensures.value _ _ _ c.sweep-made.ensures.ran c.in-Ok.sent c.in-Ok.is _
    (c.post_all.ensures ∙ ap (λ g. with_sent g c.in-Ok.sent) c.in_default.ensures.ok)

pub invariant_of-self-inside-in-Err-last : goal.invariant_of-self-inside-in-Err-last
invariant_of-self-inside-in-Err-last c =
    let within : c.from-2.result < length c.self-inside.inside.0.1.0.list.items =
    omega (arith, c.if-from-len.false, c.len.ensures, c.self-inside.inside.0.1.0.list.ok.0, c.from.ensures, c.from-2.ensures) in
    living_set _ _ _ _ _ _ _ _ _ c.from-2.ensures c.from-3.ensures within c.index_mut.ensures.value c.self-inside.invariant c.index.ensures
    c.noted-self-inside-inside.ensures.here c.noted-self-inside-inside.ensures.others

pub invariant_of-self-in-Err-last : goal.invariant_of-self-in-Err-last
invariant_of-self-in-Err-last c =
    let begins = begun _ _ c.args.self.now c.self-inside.view_is c.self.invariant c.self.view_is c.requires.going in
    let within : c.from-2.result < length c.self-inside.inside.0.1.0.list.items =
    omega (arith, c.if-from-len.false, c.len.ensures, c.self-inside.inside.0.1.0.list.ok.0, c.from.ensures, c.from-2.ensures) in
    swept_halted_world _ _ _ _ _ begins c.certificate.ensures.verified.bounds_are c.args.place _ _ _ c.args.keys.now c.from-2.ensures within
    c.index_mut.ensures.value _ _ _ c.sweep-made.ensures.ran c.in-Err-last.why c.in-Err-last.is _ c.in_default.ensures.ok

pub returns-in-Ok-clause-runs : goal.returns-in-Ok-clause-runs
returns-in-Ok-clause-runs c =
    let begins = begun _ _ c.args.self.now c.self-inside.view_is c.self.invariant c.self.view_is c.requires.going in
    let within : c.from-2.result < length c.self-inside.inside.0.1.0.list.items =
    omega (arith, c.if-from-len.false, c.len.ensures, c.self-inside.inside.0.1.0.list.ok.0, c.from.ensures, c.from-2.ensures) in
    swept_runs _ _ _ _ _ begins c.certificate.ensures.verified.bounds_are c.args.place _ _ _ c.args.keys.now c.from-2.ensures within
    c.index_mut.ensures.value _ _ _ c.sweep-made.ensures.ran c.in-Ok.sent c.in-Ok.is _
    (c.post_all.ensures ∙ ap (λ g. with_sent g c.in-Ok.sent) c.in_default.ensures.ok)

pub returns-in-Err-last-clause-halted : goal.returns-in-Err-last-clause-halted
returns-in-Err-last-clause-halted c =
    let begins = begun _ _ c.args.self.now c.self-inside.view_is c.self.invariant c.self.view_is c.requires.going in
    let within : c.from-2.result < length c.self-inside.inside.0.1.0.list.items =
    omega (arith, c.if-from-len.false, c.len.ensures, c.self-inside.inside.0.1.0.list.ok.0, c.from.ensures, c.from-2.ensures) in
    swept_halted _ _ _ _ _ begins c.certificate.ensures.verified.bounds_are c.args.place _ _ _ c.args.keys.now c.from-2.ensures within
    c.index_mut.ensures.value _ _ _ c.sweep-made.ensures.ran c.in-Err-last.why c.in-Err-last.is _ c.in_default.ensures.ok

pub returns-in-Ok-clause-some : goal.returns-in-Ok-clause-some
returns-in-Ok-clause-some c = λ none. absurd (some_made c.args.keys.now _ _ _ _ _ c.in-Ok.sent c.sweep-made.ensures.all c.in-Ok.is c.requires.some none)
