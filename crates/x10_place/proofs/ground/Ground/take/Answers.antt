use Rattle.std.proofs.Common.{◌≡◌, sym, ap, ◌∙◌, rules}
use Rattle.x10_frame.specs.Heads.{head}
use Rattle.x10_place.proofs.Delivered.{ok_then, err_then, spawn_is, shift_is, back_is, spawn_taken, spawn_refused, shift_taken, shift_refused, back_taken, back_refused_so}
use Rattle.x10_place.proofs.StandingFrames.{checked}
use Rattle.x10_place.proofs.ground.Ground.take.Goals as goal
use Rattle.x10_place.proofs.Insides.{launched_inside, back_inside}

pub returns-in-Spawn-clause-ok : goal.returns-in-Spawn-clause-ok
returns-in-Spawn-clause-ok c =
    let here : c.head-from.result.to ≡ c.args.self.now.store.here = search rules in
    let under = c.in-Spawn.under in
    ok_then c.launch.result (spawn_taken c.args.self.now.verified.now c.args.self.now.stays c.args.self.now.store
    c.head-from.result.from c.head-from.result.to under.home under.number c.in-Spawn.function here c.args.view.now
    (spawn_is c.args.view.now c.head-from.result.from c.head-from.result.to under.home under.number c.in-Spawn.function
    (sym c.head-from.ensures.value ∙ ap (head c.head-from.result.from c.head-from.result.to) c.in-Spawn.is))
    c.launch.new.self.stays c.launch.new.self.store c.certificate.ensures.fits c.requires.fits) c.launch.ensures.ok

pub returns-in-Spawn-clause-refused : goal.returns-in-Spawn-clause-refused
returns-in-Spawn-clause-refused c =
    let here : c.head-from.result.to ≡ c.args.self.now.store.here = search rules in
    let under = c.in-Spawn.under in
    err_then c.launch.result (spawn_refused c.args.self.now.verified.now c.args.self.now.stays c.args.self.now.store
    c.head-from.result.from c.head-from.result.to under.home under.number c.in-Spawn.function here c.args.view.now
    (spawn_is c.args.view.now c.head-from.result.from c.head-from.result.to under.home under.number c.in-Spawn.function
    (sym c.head-from.ensures.value ∙ ap (head c.head-from.result.from c.head-from.result.to) c.in-Spawn.is))) c.launch.ensures.refused

pub returns-in-Shift-clause-ok : goal.returns-in-Shift-clause-ok
returns-in-Shift-clause-ok c =
    let here : c.head-from.result.to ≡ c.args.self.now.store.here = search rules in
    let under = c.in-Shift.under in
    ok_then c.launch-in-Shift.result (shift_taken c.args.self.now.verified.now c.args.self.now.stays c.args.self.now.store
    c.head-from.result.from c.head-from.result.to under.home under.number c.in-Shift.function here c.in-Shift.waiting c.args.view.now
    (shift_is c.args.view.now c.head-from.result.from c.head-from.result.to c.in-Shift.waiting under.home under.number c.in-Shift.function
    (sym c.head-from.ensures.value ∙ ap (head c.head-from.result.from c.head-from.result.to) c.in-Shift.is))
    c.launch-in-Shift.new.self.stays c.launch-in-Shift.new.self.store c.certificate.ensures.fits c.requires.fits)
    c.launch-in-Shift.ensures.ok

pub returns-in-Shift-clause-refused : goal.returns-in-Shift-clause-refused
returns-in-Shift-clause-refused c =
    let here : c.head-from.result.to ≡ c.args.self.now.store.here = search rules in
    let under = c.in-Shift.under in
    err_then c.launch-in-Shift.result (shift_refused c.args.self.now.verified.now c.args.self.now.stays c.args.self.now.store
    c.head-from.result.from c.head-from.result.to under.home under.number c.in-Shift.function here c.in-Shift.waiting c.args.view.now
    (shift_is c.args.view.now c.head-from.result.from c.head-from.result.to c.in-Shift.waiting under.home under.number c.in-Shift.function
    (sym c.head-from.ensures.value ∙ ap (head c.head-from.result.from c.head-from.result.to) c.in-Shift.is))) c.launch-in-Shift.ensures.refused

pub returns-in-Back-clause-ok : goal.returns-in-Back-clause-ok
returns-in-Back-clause-ok c =
    let here : c.head-from.result.to ≡ c.args.self.now.store.here = search rules in
    ok_then c.resume.result (back_taken c.args.self.now.verified.now c.args.self.now.stays c.args.self.now.store c.head-from.result.from
    c.head-from.result.to c.in-Back.waiting here c.args.view.now (back_is c.args.view.now c.head-from.result.from c.head-from.result.to
    c.in-Back.waiting (sym c.head-from.ensures.value ∙ ap (head c.head-from.result.from c.head-from.result.to) c.in-Back.is))
    c.resume.new.self.stays c.resume.new.self.store (checked c.args.self.now.verified.now c.certificate.ensures) c.requires.fits) c.resume.ensures.ok

pub returns-in-Back-clause-refused : goal.returns-in-Back-clause-refused
returns-in-Back-clause-refused c =
    let here : c.head-from.result.to ≡ c.args.self.now.store.here = search rules in
    err_then c.resume.result (back_refused_so c.args.self.now.verified.now c.args.self.now.stays c.args.self.now.store c.head-from.result.from
    c.head-from.result.to c.in-Back.waiting here c.args.view.now (back_is c.args.view.now c.head-from.result.from c.head-from.result.to
    c.in-Back.waiting (sym c.head-from.ensures.value ∙ ap (head c.head-from.result.from c.head-from.result.to) c.in-Back.is))) c.resume.ensures.refused

pub returns-in-Spawn-clause-inside : goal.returns-in-Spawn-clause-inside
returns-in-Spawn-clause-inside c = launched_inside c.launch.result c.args.self.now.verified.now.program c.args.self.now.stays c.args.self.now.store
    c.args.view.now _ c.launch.new.self.stays c.launch.new.self.store c.launch.ensures.ok c.launch.ensures.err

pub returns-in-Shift-clause-inside : goal.returns-in-Shift-clause-inside
returns-in-Shift-clause-inside c = launched_inside c.launch-in-Shift.result c.args.self.now.verified.now.program c.args.self.now.stays
    c.args.self.now.store c.args.view.now _ c.launch-in-Shift.new.self.stays c.launch-in-Shift.new.self.store c.launch-in-Shift.ensures.ok
    c.launch-in-Shift.ensures.err

pub returns-in-Back-clause-inside : goal.returns-in-Back-clause-inside
returns-in-Back-clause-inside c = back_inside c.resume.result c.args.self.now.verified.now.program c.args.self.now.stays c.args.self.now.store
    c.args.view.now c.head-from.result.from c.in-Back.waiting c.resume.new.self.stays c.resume.new.self.store c.resume.ensures.ok c.resume.ensures.err
