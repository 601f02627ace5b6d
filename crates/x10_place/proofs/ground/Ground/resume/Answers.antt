use Rattle.std.proofs.Common.{sym, rules}
use Rattle.x10_copy.specs.Arrived.{IsRefusal}
use Rattle.x10_frame.specs.Heads.{graph_of}
use Rattle.x10_place.specs.Arrivals.{IsBackRefused}
use Rattle.x10_place.specs.Sending.{slots_of}
use Rattle.x10_place.proofs.Ats.{back_refused, expected, comes_back}
use Rattle.x10_place.proofs.KeptStays.{written}
use Rattle.x10_place.proofs.ground.Ground.resume.Goals as goal

pub returns-in_err-roots-clause-refused : goal.returns-in_err-roots-clause-refused
returns-in_err-roots-clause-refused c =
    let refusal : IsRefusal c.args.self.now.verified.now.program c.args.self.now.store.here c.args.from c.args.self.now.store.heap
    (slots_of c.result-slot.result) (graph_of c.args.view.now) c.in_err-roots.field-0.0 = search rules in
    let refused : IsBackRefused c.args.self.now.verified.now.program c.args.self.now.stays c.args.self.now.store c.args.view.now c.args.from
    c.args.waiting c.in_err-roots.field-0.0 = back_refused c.args.self.now.verified.now.program c.args.self.now.stays c.args.self.now.store
    c.args.view.now c.args.from c.args.waiting (slots_of c.result-slot.result) c.in_err-roots.field-0.0
    (expected c.args.self.now.verified.now.program c.image.result.now c.args.self.now.stays c.args.self.now.store c.args.view.now c.args.from
    c.args.waiting c.in-Some.stay.now c.in-Some-awaited.call c.signature.result c.result-slot.result c.image.ensures
    (sym c.in-Some.ensures.value) c.in-Some-awaited.ensures.some c.signature.ensures.value c.result-slot.ensures.value) refusal in
    search rules

pub returns-clause-ok : goal.returns-clause-ok
returns-clause-ok c =
    comes_back c.args.self.now.verified.now.program c.image.result.now c.args.self.now.stays c.args.self.now.store c.args.view.now c.args.from
    c.args.waiting c.in-Some.stay.now c.in-Some-awaited.call c.signature.result c.result-slot.result c.image.ensures
    (sym c.in-Some.ensures.value) c.in-Some-awaited.ensures.some c.signature.ensures.value c.result-slot.ensures.value
    _ c.arrive_as.new.store c.in_ok-roots.roots.items c.come_back.new.stay c.in_ok-roots.ensures.ok c.in_ok-roots.ensures.taken c.come_back.ensures
    (written c.args.self.now.stays c.args.waiting c.in-Some.stay.now c.come_back.new.stay (sym c.in-Some.ensures.value))
    c.in_ok-roots.ensures.store
