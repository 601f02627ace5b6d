use Rattle.std.proofs.Common.{◌≡◌, ◌≢◌, ◌<◌, false, true, Some, Ok, Err, length, refl, sym, subst, arith}
use Rattle.std.specs.Prelude.{slice_get, slice_set}
use Rattle.x10_model.specs.declared.event.Event.TheVariants.{Deliver}
use Rattle.x10_flights.specs.Flights.{Flight, flight_of, taken_from}
use Rattle.x10_world.specs.EventAnswers.{AnswersEvent, Handles}
use Rattle.x10_world.specs.StandsForWorld.{stop_for_refusal}
use Rattle.x10_world.proofs.DeliveryEvents.{flight_below, handles_nothing, handles_taken, handles_refusal, taken_is}
use Rattle.x10_world.proofs.WorldParts.{IsBegun, begun, answers_of, world_of_event, was_there, living_set, handled_there}
use Rattle.x10_world.proofs.world.World.deliver.Goals as goal

false_true : false ≢ true
false_true e = cc

pub returns-in_default : goal.returns-in_default
returns-in_default c =
    let verified = c.self-inside.inside.0.0.now in
    let places = c.self-inside.inside.0.1.0.list.items in
    let flights = c.self-inside.inside.0.1.1.0 in
    let stopped = c.self-inside.inside.0.1.1.1.0 in
    let begins : IsBegun verified places flights stopped c.args.self.now = begun _ _ c.args.self.now c.self-inside.view_is c.self.invariant
    c.self.view_is c.requires in
    subst (λ y. AnswersEvent c.args.self.now (Deliver c.args.number) (Ok false) y) begins.seen
    (answers_of verified places flights stopped c.args.self.now begins (Deliver c.args.number) (Ok false) places flights false
    (handles_nothing verified places flights c.args.number begins.world c.in_default.ensures) refl)

pub index_mut-requires : goal.index_mut-requires
index_mut-requires c =
    let verified = c.self-inside.inside.0.0.now in
    let places = c.self-inside.inside.0.1.0.list.items in
    let flights = c.self-inside.inside.0.1.1.0 in
    let stopped = c.self-inside.inside.0.1.1.1.0 in
    let begins : IsBegun verified places flights stopped c.args.self.now = begun _ _ c.args.self.now c.self-inside.view_is c.self.invariant
    c.self.view_is c.requires in
    let flight : Flight = record { number = c.args.number; to = c.in-Some.to; bytes = c.in-Some.bytes.now } in
    let below : c.in-Some.to < length places = flight_below verified.program verified.bounds places flights begins.world.world c.args.number flight
    begins.world.stands c.in-Some.ensures in
    omega (arith, below, c.from.ensures, c.self-inside.inside.0.1.0.list.ok.0)

pub index-requires : goal.index-requires
index-requires c =
    let verified = c.self-inside.inside.0.0.now in
    let places = c.self-inside.inside.0.1.0.list.items in
    let flights = c.self-inside.inside.0.1.1.0 in
    let stopped = c.self-inside.inside.0.1.1.1.0 in
    let begins : IsBegun verified places flights stopped c.args.self.now = begun _ _ c.args.self.now c.self-inside.view_is c.self.invariant
    c.self.view_is c.requires in
    let flight : Flight = record { number = c.args.number; to = c.in-Some.to; bytes = c.in-Some.bytes.now } in
    let below : c.in-Some.to < length places = flight_below verified.program verified.bounds places flights begins.world.world c.args.number flight
    begins.world.stands c.in-Some.ensures in
    omega (arith, below, c.from-2.ensures, c.self-inside.inside.0.1.0.list.ok.0)

pub noted-self-inside-inside-requires : goal.noted-self-inside-inside-requires
noted-self-inside-inside-requires c =
    let verified = c.self-inside.inside.0.0.now in
    let places = c.self-inside.inside.0.1.0.list.items in
    let flights = c.self-inside.inside.0.1.1.0 in
    let stopped = c.self-inside.inside.0.1.1.1.0 in
    let begins : IsBegun verified places flights stopped c.args.self.now = begun _ _ c.args.self.now c.self-inside.view_is c.self.invariant
    c.self.view_is c.requires in
    let flight : Flight = record { number = c.args.number; to = c.in-Some.to; bytes = c.in-Some.bytes.now } in
    let below : c.in-Some.to < length places = flight_below verified.program verified.bounds places flights begins.world.world c.args.number flight
    begins.world.stands c.in-Some.ensures in
    let few = begins.world.few in
    omega (arith, below, few)

pub invariant_of-self-inside : goal.invariant_of-self-inside
invariant_of-self-inside c =
    let verified = c.self-inside.inside.0.0.now in
    let places = c.self-inside.inside.0.1.0.list.items in
    let flights = c.self-inside.inside.0.1.1.0 in
    let stopped = c.self-inside.inside.0.1.1.1.0 in
    let begins : IsBegun verified places flights stopped c.args.self.now = begun _ _ c.args.self.now c.self-inside.view_is c.self.invariant
    c.self.view_is c.requires in
    let flight : Flight = record { number = c.args.number; to = c.in-Some.to; bytes = c.in-Some.bytes.now } in
    let below : c.in-Some.to < length places = flight_below verified.program verified.bounds places flights begins.world.world c.args.number flight
    begins.world.stands c.in-Some.ensures in
    let within : c.from.result < length places = omega (arith, below, c.from.ensures) in
    living_set places c.self-inside.inside.0.1.0.living c.noted-self-inside-inside.result c.in-Some.to c.from.result c.from-2.result
    c.index_mut.result.now c.receive-did.new.self c.index.result.now
    c.from.ensures c.from-2.ensures within c.index_mut.ensures.value c.self-inside.invariant c.index.ensures
    c.noted-self-inside-inside.ensures.here c.noted-self-inside-inside.ensures.others

pub invariant_of-self-inside-in-Err : goal.invariant_of-self-inside-in-Err
invariant_of-self-inside-in-Err c =
    let verified = c.self-inside.inside.0.0.now in
    let places = c.self-inside.inside.0.1.0.list.items in
    let flights = c.self-inside.inside.0.1.1.0 in
    let stopped = c.self-inside.inside.0.1.1.1.0 in
    let begins : IsBegun verified places flights stopped c.args.self.now = begun _ _ c.args.self.now c.self-inside.view_is c.self.invariant
    c.self.view_is c.requires in
    let flight : Flight = record { number = c.args.number; to = c.in-Some.to; bytes = c.in-Some.bytes.now } in
    let below : c.in-Some.to < length places = flight_below verified.program verified.bounds places flights begins.world.world c.args.number flight
    begins.world.stands c.in-Some.ensures in
    let within : c.from.result < length places = omega (arith, below, c.from.ensures) in
    living_set places c.self-inside.inside.0.1.0.living c.noted-self-inside-inside.result c.in-Some.to c.from.result c.from-2.result
    c.index_mut.result.now c.receive-did.new.self c.index.result.now
    c.from.ensures c.from-2.ensures within c.index_mut.ensures.value c.self-inside.invariant c.index.ensures
    c.noted-self-inside-inside.ensures.here c.noted-self-inside-inside.ensures.others

pub returns-in-Ok : goal.returns-in-Ok
returns-in-Ok c =
    let verified = c.self-inside.inside.0.0.now in
    let places = c.self-inside.inside.0.1.0.list.items in
    let flights = c.self-inside.inside.0.1.1.0 in
    let stopped = c.self-inside.inside.0.1.1.1.0 in
    let begins : IsBegun verified places flights stopped c.args.self.now = begun _ _ c.args.self.now c.self-inside.view_is c.self.invariant
    c.self.view_is c.requires in
    let flight : Flight = record { number = c.args.number; to = c.in-Some.to; bytes = c.in-Some.bytes.now } in
    let below : c.in-Some.to < length places = flight_below verified.program verified.bounds places flights begins.world.world c.args.number flight
    begins.world.stands c.in-Some.ensures in
    let within : c.from.result < length places = omega (arith, below, c.from.ensures) in
    let there : slice_get places c.in-Some.to ≡ Some c.index_mut.result.now = subst (λ n. slice_get places n ≡ Some c.index_mut.result.now)
    c.from.ensures (was_there places c.from.result c.index_mut.result.now within c.index_mut.ensures.value) in
    let taken = taken_is c.take.result (flight_of flights c.args.number) flight
    (λ x. flight_of flights c.args.number ≡ Some (record { number = c.args.number; to = x.0; bytes = x.1.items })) c.take.new.self flights
    (taken_from flights c.args.number) c.take.ensures.none c.take.ensures.some c.in-Some.ensures in
    let h = subst (λ g. Handles verified places flights (Deliver c.args.number) (Ok true) (slice_set places c.from.result c.receive-did.new.self)
    g) (sym taken)
    (handled_there verified places flights (taken_from flights c.args.number) (Deliver c.args.number) (Ok true) c.from.result c.in-Some.to
    c.receive-did.new.self c.from.ensures
    (handles_taken verified places flights c.args.number flight c.index_mut.result.now c.receive-did.new.self
    c.certificate.ensures.verified.bounds_are begins.world c.in-Some.ensures there c.in-Ok.ensures.kept c.in-Ok.ensures.ok c.in-Ok.ensures.goes)) in
    answers_of verified places flights stopped c.args.self.now begins (Deliver c.args.number) (Ok true)
    (slice_set places c.from.result c.receive-did.new.self) c.take.new.self stopped h begins.off

pub invariant_of-self : goal.invariant_of-self
invariant_of-self c =
    let verified = c.self-inside.inside.0.0.now in
    let places = c.self-inside.inside.0.1.0.list.items in
    let flights = c.self-inside.inside.0.1.1.0 in
    let stopped = c.self-inside.inside.0.1.1.1.0 in
    let begins : IsBegun verified places flights stopped c.args.self.now = begun _ _ c.args.self.now c.self-inside.view_is c.self.invariant
    c.self.view_is c.requires in
    let flight : Flight = record { number = c.args.number; to = c.in-Some.to; bytes = c.in-Some.bytes.now } in
    let below : c.in-Some.to < length places = flight_below verified.program verified.bounds places flights begins.world.world c.args.number flight
    begins.world.stands c.in-Some.ensures in
    let within : c.from.result < length places = omega (arith, below, c.from.ensures) in
    let there : slice_get places c.in-Some.to ≡ Some c.index_mut.result.now = subst (λ n. slice_get places n ≡ Some c.index_mut.result.now)
    c.from.ensures (was_there places c.from.result c.index_mut.result.now within c.index_mut.ensures.value) in
    let taken = taken_is c.take.result (flight_of flights c.args.number) flight
    (λ x. flight_of flights c.args.number ≡ Some (record { number = c.args.number; to = x.0; bytes = x.1.items })) c.take.new.self flights
    (taken_from flights c.args.number) c.take.ensures.none c.take.ensures.some c.in-Some.ensures in
    let h = subst (λ g. Handles verified places flights (Deliver c.args.number) (Ok true) (slice_set places c.from.result c.receive-did.new.self)
    g) (sym taken)
    (handled_there verified places flights (taken_from flights c.args.number) (Deliver c.args.number) (Ok true) c.from.result c.in-Some.to
    c.receive-did.new.self c.from.ensures
    (handles_taken verified places flights c.args.number flight c.index_mut.result.now c.receive-did.new.self
    c.certificate.ensures.verified.bounds_are begins.world c.in-Some.ensures there c.in-Ok.ensures.kept c.in-Ok.ensures.ok c.in-Ok.ensures.goes)) in
    world_of_event verified places flights stopped c.args.self.now begins (Deliver c.args.number) (Ok true)
    (slice_set places c.from.result c.receive-did.new.self) c.take.new.self stopped h begins.off

pub returns-in-Err : goal.returns-in-Err
returns-in-Err c =
    let verified = c.self-inside.inside.0.0.now in
    let places = c.self-inside.inside.0.1.0.list.items in
    let flights = c.self-inside.inside.0.1.1.0 in
    let stopped = c.self-inside.inside.0.1.1.1.0 in
    let begins : IsBegun verified places flights stopped c.args.self.now = begun _ _ c.args.self.now c.self-inside.view_is c.self.invariant
    c.self.view_is c.requires in
    let flight : Flight = record { number = c.args.number; to = c.in-Some.to; bytes = c.in-Some.bytes.now } in
    let below : c.in-Some.to < length places = flight_below verified.program verified.bounds places flights begins.world.world c.args.number flight
    begins.world.stands c.in-Some.ensures in
    let within : c.from.result < length places = omega (arith, below, c.from.ensures) in
    let there : slice_get places c.in-Some.to ≡ Some c.index_mut.result.now = subst (λ n. slice_get places n ≡ Some c.index_mut.result.now)
    c.from.ensures (was_there places c.from.result c.index_mut.result.now within c.index_mut.ensures.value) in
    let h = subst (λ why. Handles verified places flights (Deliver c.args.number) (Err why) (slice_set places c.from.result c.receive-did.new.self)
    flights) (sym c.stop_for.ensures)
    (handled_there verified places flights flights (Deliver c.args.number) (Err (stop_for_refusal c.in-Err.why)) c.from.result c.in-Some.to
    c.receive-did.new.self c.from.ensures
    (handles_refusal verified places flights c.args.number flight c.index_mut.result.now c.receive-did.new.self
    c.certificate.ensures.verified.bounds_are begins.world c.in-Some.ensures there c.in-Err.ensures.kept
    c.in-Err.why c.in-Err.ensures.left (c.in-Err.ensures.refused (begins.world.none_stopped false_true c.in-Some.to c.index_mut.result.now
    there)))) in
    answers_of verified places flights stopped c.args.self.now begins (Deliver c.args.number) (Err c.stop_for.result)
    (slice_set places c.from.result c.receive-did.new.self) flights true h refl

pub invariant_of-self-in-Err : goal.invariant_of-self-in-Err
invariant_of-self-in-Err c =
    let verified = c.self-inside.inside.0.0.now in
    let places = c.self-inside.inside.0.1.0.list.items in
    let flights = c.self-inside.inside.0.1.1.0 in
    let stopped = c.self-inside.inside.0.1.1.1.0 in
    let begins : IsBegun verified places flights stopped c.args.self.now = begun _ _ c.args.self.now c.self-inside.view_is c.self.invariant
    c.self.view_is c.requires in
    let flight : Flight = record { number = c.args.number; to = c.in-Some.to; bytes = c.in-Some.bytes.now } in
    let below : c.in-Some.to < length places = flight_below verified.program verified.bounds places flights begins.world.world c.args.number flight
    begins.world.stands c.in-Some.ensures in
    let within : c.from.result < length places = omega (arith, below, c.from.ensures) in
    let there : slice_get places c.in-Some.to ≡ Some c.index_mut.result.now = subst (λ n. slice_get places n ≡ Some c.index_mut.result.now)
    c.from.ensures (was_there places c.from.result c.index_mut.result.now within c.index_mut.ensures.value) in
    let h = handled_there verified places flights flights (Deliver c.args.number) (Err (stop_for_refusal c.in-Err.why)) c.from.result c.in-Some.to
    c.receive-did.new.self c.from.ensures
    (handles_refusal verified places flights c.args.number flight c.index_mut.result.now c.receive-did.new.self
    c.certificate.ensures.verified.bounds_are begins.world c.in-Some.ensures there c.in-Err.ensures.kept
    c.in-Err.why c.in-Err.ensures.left (c.in-Err.ensures.refused (begins.world.none_stopped false_true c.in-Some.to c.index_mut.result.now there)))
    in
    world_of_event verified places flights stopped c.args.self.now begins (Deliver c.args.number) (Err (stop_for_refusal c.in-Err.why))
    (slice_set places c.from.result c.receive-did.new.self) flights true h refl
