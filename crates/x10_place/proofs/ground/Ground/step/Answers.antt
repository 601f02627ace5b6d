use Rattle.std.proofs.Common.{Ok, sym, ap, subst, ◌∙◌}
use Rattle.slab.specs.Slab.{Slab, with_value}
use Rattle.x10_place.specs.declared.place.Stepped.TheVariants as stepped
use Rattle.x10_place.specs.Stretches.{IsAdvanced}
use Rattle.x10_place.specs.declared.outcome.Outcome.TheVariants as outcome
use Rattle.x10_place.specs.Stays.{StayState}
use Rattle.x10_place.specs.StandsFor.{plain, IsInsider}
use Rattle.x10_place.proofs.StaySteps.{steps_as, inside_at, reads_at, advanced_away, for_place, advanced_goes, advanced_left, advanced_placed, hindered_placed, advanced_refused, waits_same, handed}
use Rattle.x10_place.proofs.KeptStays.{written}
use Rattle.x10_place.proofs.StandingFrames.{checked}
use Rattle.x10_place.proofs.StepsOfPlace.{with_same}
use Rattle.x10_place.proofs.ground.Ground.step.Goals as goal
use Rattle.x10_place.proofs.Insides.{insider_written, same_insider}

pub instr-instr-requires : goal.instr-instr-requires
instr-instr-requires c = inside_at c.args.self.now.verified.now c.args.self.now.stays c.args.self.now.store c.args.key c.in-Some.stay.now
    c.requires.standing (sym c.in-Some.ensures.value) (ap (λ (a : StayState). a.away) (sym c.stay.view_is) ∙ c.if-stay.false)

pub step-requires-clause-reads : goal.step-requires-clause-reads
step-requires-clause-reads c =
    reads_at c.args.self.now.verified.now c.args.self.now.stays c.args.self.now.store c.args.key c.in-Some.stay.now c.locality-locality.result
    c.instr-instr.result c.requires.standing (checked c.args.self.now.verified.now c.certificate.ensures) (sym c.in-Some.ensures.value)
    (ap (λ (a : StayState). a.away) (sym c.stay.view_is) ∙ c.if-stay.false) c.instr-instr.ensures c.locality-locality.ensures.here
    c.locality-locality.ensures.places

pub make-requires : goal.make-requires
make-requires c =
    for_place c.args.self.now.verified.now c.args.self.now.stays c.args.self.now.store c.args.key c.requires.standing
    (checked c.args.self.now.verified.now c.certificate.ensures) c.in-Some.stay.now (sym c.in-Some.ensures.value)
    (ap (λ (a : StayState). a.away) (sym c.stay.view_is) ∙ c.if-stay.false) c.requires.outside c.instr-instr.result c.instr-instr.ensures
    c.in-Ok-ForPlace.deed c.in-Ok-ForPlace.instr c.step.new.self c.step.new.store
    (steps_as c.args.self.now.verified.now.program c.locality-locality.result c.args.self.now.store c.in-Some.stay.now c.instr-instr.result
    c.in-Ok-ForPlace.field-0 (outcome.ForPlace c.in-Ok-ForPlace.deed c.in-Ok-ForPlace.instr) c.step.new.self c.step.new.store
    c.locality-locality.ensures.here c.locality-locality.ensures.places c.in-Ok-ForPlace.field-0-is c.in-Ok-ForPlace.ensures.ok)

pub returns-in-Ok-Goes-clause-made : goal.returns-in-Ok-Goes-clause-made
returns-in-Ok-Goes-clause-made c =
    subst (λ o. IsAdvanced c.args.self.now.verified.now c.args.self.now.stays c.args.self.now.store c.args.key (Ok (stepped.Moved o))
    (with_value c.args.self.now.stays c.args.key c.step.new.self) c.step.new.store) (sym c.no_sent.ensures)
    (advanced_goes c.args.self.now.verified.now c.args.self.now.stays c.args.self.now.store c.args.key c.requires.standing
    (checked c.args.self.now.verified.now c.certificate.ensures) c.in-Some.stay.now (sym c.in-Some.ensures.value)
    (ap (λ (a : StayState). a.away) (sym c.stay.view_is) ∙ c.if-stay.false) c.requires.outside c.instr-instr.result c.instr-instr.ensures
    (with_value c.args.self.now.stays c.args.key c.step.new.self) c.step.new.self c.step.new.store
    (steps_as c.args.self.now.verified.now.program c.locality-locality.result c.args.self.now.store c.in-Some.stay.now c.instr-instr.result
    c.in-Ok-Goes.field-0 outcome.Goes c.step.new.self c.step.new.store c.locality-locality.ensures.here c.locality-locality.ensures.places
    c.in-Ok-Goes.field-0-is c.in-Ok-Goes.ensures.ok) (written c.args.self.now.stays c.args.key c.in-Some.stay.now c.step.new.self
    (sym c.in-Some.ensures.value)) (λ limit over. absurd (let f = c.in-Ok-Goes.ensures.full limit over in cc)))

pub returns-in-Ok-Waits-clause-made : goal.returns-in-Ok-Waits-clause-made
returns-in-Ok-Waits-clause-made c =
    advanced_left c.args.self.now.verified.now c.args.self.now.stays c.args.self.now.store c.args.key c.requires.standing
    (checked c.args.self.now.verified.now c.certificate.ensures) c.in-Some.stay.now (sym c.in-Some.ensures.value)
    (ap (λ (a : StayState). a.away) (sym c.stay.view_is) ∙ c.if-stay.false) c.requires.outside c.instr-instr.result c.instr-instr.ensures
    c.step.new.self c.step.new.store (steps_as c.args.self.now.verified.now.program c.locality-locality.result c.args.self.now.store
    c.in-Some.stay.now c.instr-instr.result c.in-Ok-Waits.field-0 outcome.Waits c.step.new.self c.step.new.store c.locality-locality.ensures.here
    c.locality-locality.ensures.places c.in-Ok-Waits.field-0-is c.in-Ok-Waits.ensures.ok)
    (λ limit over. absurd (let f = c.in-Ok-Waits.ensures.full limit over in cc))

pub returns-in-Ok-clause-made : goal.returns-in-Ok-clause-made
returns-in-Ok-clause-made c =
    advanced_placed c.args.self.now.verified.now c.args.self.now.stays c.args.self.now.store c.args.key c.requires.standing
    (checked c.args.self.now.verified.now c.certificate.ensures) c.in-Some.stay.now (sym c.in-Some.ensures.value)
    (ap (λ (a : StayState). a.away) (sym c.stay.view_is) ∙ c.if-stay.false) c.requires.outside c.instr-instr.result c.instr-instr.ensures
    c.in-Ok-ForPlace.deed c.in-Ok-ForPlace.instr c.step.new.self c.step.new.store
    (steps_as c.args.self.now.verified.now.program c.locality-locality.result c.args.self.now.store c.in-Some.stay.now c.instr-instr.result
    c.in-Ok-ForPlace.field-0 (outcome.ForPlace c.in-Ok-ForPlace.deed c.in-Ok-ForPlace.instr) c.step.new.self c.step.new.store
    c.locality-locality.ensures.here c.locality-locality.ensures.places c.in-Ok-ForPlace.field-0-is c.in-Ok-ForPlace.ensures.ok)
    c.make.new.self.stays c.make.new.self.store c.in-Ok.sent c.in-Ok.ensures.ok
    (λ limit over. absurd (let f = c.in-Ok.ensures.full limit over in cc))

pub returns-in-Err-make-clause-made : goal.returns-in-Err-make-clause-made
returns-in-Err-make-clause-made c =
    hindered_placed c.args.self.now.verified.now c.args.self.now.stays c.args.self.now.store c.args.key c.requires.standing
    (checked c.args.self.now.verified.now c.certificate.ensures) c.in-Some.stay.now (sym c.in-Some.ensures.value)
    (ap (λ (a : StayState). a.away) (sym c.stay.view_is) ∙ c.if-stay.false) c.requires.outside c.instr-instr.result c.instr-instr.ensures
    c.in-Ok-ForPlace.deed c.in-Ok-ForPlace.instr c.step.new.self c.step.new.store
    (steps_as c.args.self.now.verified.now.program c.locality-locality.result c.args.self.now.store c.in-Some.stay.now c.instr-instr.result
    c.in-Ok-ForPlace.field-0 (outcome.ForPlace c.in-Ok-ForPlace.deed c.in-Ok-ForPlace.instr) c.step.new.self c.step.new.store
    c.locality-locality.ensures.here c.locality-locality.ensures.places c.in-Ok-ForPlace.field-0-is c.in-Ok-ForPlace.ensures.ok)
    c.make.new.self.stays c.make.new.self.store c.in-Err-make.why c.in-Err-make.ensures.err c.in-Err-make.ensures.refused
    (λ limit over. let f = c.in-Err-make.ensures.full limit over in cc)

pub returns-in-Err-clause-made : goal.returns-in-Err-clause-made
returns-in-Err-clause-made c =
    advanced_refused c.args.self.now.verified.now c.args.self.now.stays c.args.self.now.store c.args.key c.requires.standing
    (checked c.args.self.now.verified.now c.certificate.ensures) c.in-Some.stay.now (sym c.in-Some.ensures.value)
    (ap (λ (a : StayState). a.away) (sym c.stay.view_is) ∙ c.if-stay.false) c.requires.outside c.instr-instr.result c.instr-instr.ensures
    (with_value c.args.self.now.stays c.args.key c.step.new.self) c.step.new.store c.in-Err.why
    (ap plain (ap (with_value c.args.self.now.stays c.args.key) c.in-Err.ensures.err.0
    ∙ with_same c.args.self.now.stays c.args.key c.in-Some.stay.now (sym c.in-Some.ensures.value))) c.in-Err.ensures.err.1 c.in-Err.ensures.err.2
    (λ limit over. let f = c.in-Err.ensures.full limit over in cc)

pub returns-then-stay-clause-made : goal.returns-then-stay-clause-made
returns-then-stay-clause-made c =
    subst (λ (slab : Slab StayState). IsAdvanced c.args.self.now.verified.now c.args.self.now.stays c.args.self.now.store c.args.key
    (Ok stepped.Idle) slab c.args.self.now.store) (sym (with_same c.args.self.now.stays c.args.key c.in-Some.stay.now
    (sym c.in-Some.ensures.value)))
    (advanced_away c.args.self.now.verified.now c.args.self.now.stays c.args.self.now.store c.args.key c.requires.standing
    (checked c.args.self.now.verified.now c.certificate.ensures) c.in-Some.stay.now (sym c.in-Some.ensures.value)
    (ap (λ (a : StayState). a.away) (sym c.stay.view_is) ∙ c.if-stay.true))

pub returns-in-Ok-Goes-clause-inside : goal.returns-in-Ok-Goes-clause-inside
returns-in-Ok-Goes-clause-inside c = λ before. insider_written c.args.self.now.stays c.args.key c.in-Some.stay.now c.step.new.self c.insider.result
    (sym c.in-Some.ensures.value) c.requires.outside c.insider.ensures

pub returns-in-Ok-Waits-clause-inside : goal.returns-in-Ok-Waits-clause-inside
returns-in-Ok-Waits-clause-inside c = λ before. subst (λ slab. IsInsider slab c.args.inside.now)
    (sym (waits_same c.args.self.now.verified.now c.args.self.now.stays c.args.self.now.store c.args.key c.requires.standing
    (checked c.args.self.now.verified.now c.certificate.ensures) c.in-Some.stay.now (sym c.in-Some.ensures.value)
    (ap (λ (a : StayState). a.away) (sym c.stay.view_is) ∙ c.if-stay.false) c.requires.outside c.instr-instr.result c.instr-instr.ensures
    c.step.new.self c.step.new.store (steps_as c.args.self.now.verified.now.program c.locality-locality.result c.args.self.now.store
    c.in-Some.stay.now c.instr-instr.result c.in-Ok-Waits.field-0 outcome.Waits c.step.new.self c.step.new.store c.locality-locality.ensures.here
    c.locality-locality.ensures.places c.in-Ok-Waits.field-0-is c.in-Ok-Waits.ensures.ok))) before

pub returns-in-Err-clause-inside : goal.returns-in-Err-clause-inside
returns-in-Err-clause-inside c = λ before. subst (λ slab. IsInsider slab c.args.inside.now)
    (sym (ap (with_value c.args.self.now.stays c.args.key) c.in-Err.ensures.err.0
    ∙ with_same c.args.self.now.stays c.args.key c.in-Some.stay.now (sym c.in-Some.ensures.value))) before

pub returns-in-Ok-clause-inside : goal.returns-in-Ok-clause-inside
returns-in-Ok-clause-inside c = λ before. same_insider (with_value c.args.self.now.stays c.args.key c.step.new.self) c.make.new.self.stays
    c.args.inside.now c.make.ensures.inside
    (subst (λ slab. IsInsider slab c.args.inside.now) (sym (handed c.args.self.now.verified.now c.args.self.now.stays c.args.self.now.store c.args.key
    c.requires.standing (checked c.args.self.now.verified.now c.certificate.ensures) c.in-Some.stay.now (sym c.in-Some.ensures.value)
    (ap (λ (a : StayState). a.away) (sym c.stay.view_is) ∙ c.if-stay.false) c.requires.outside c.instr-instr.result c.instr-instr.ensures
    c.in-Ok-ForPlace.deed c.in-Ok-ForPlace.instr c.step.new.self c.step.new.store
    (steps_as c.args.self.now.verified.now.program c.locality-locality.result c.args.self.now.store c.in-Some.stay.now c.instr-instr.result
    c.in-Ok-ForPlace.field-0 (outcome.ForPlace c.in-Ok-ForPlace.deed c.in-Ok-ForPlace.instr) c.step.new.self c.step.new.store
    c.locality-locality.ensures.here c.locality-locality.ensures.places c.in-Ok-ForPlace.field-0-is c.in-Ok-ForPlace.ensures.ok)).0) before)

pub returns-in-Err-make-clause-inside : goal.returns-in-Err-make-clause-inside
returns-in-Err-make-clause-inside c = λ before. same_insider
    (with_value c.args.self.now.stays c.args.key c.step.new.self) c.make.new.self.stays c.args.inside.now c.make.ensures.inside
    (subst (λ slab. IsInsider slab c.args.inside.now) (sym (handed c.args.self.now.verified.now c.args.self.now.stays c.args.self.now.store c.args.key
    c.requires.standing (checked c.args.self.now.verified.now c.certificate.ensures) c.in-Some.stay.now (sym c.in-Some.ensures.value)
    (ap (λ (a : StayState). a.away) (sym c.stay.view_is) ∙ c.if-stay.false) c.requires.outside c.instr-instr.result c.instr-instr.ensures
    c.in-Ok-ForPlace.deed c.in-Ok-ForPlace.instr c.step.new.self c.step.new.store
    (steps_as c.args.self.now.verified.now.program c.locality-locality.result c.args.self.now.store c.in-Some.stay.now c.instr-instr.result
    c.in-Ok-ForPlace.field-0 (outcome.ForPlace c.in-Ok-ForPlace.deed c.in-Ok-ForPlace.instr) c.step.new.self c.step.new.store
    c.locality-locality.ensures.here c.locality-locality.ensures.places c.in-Ok-ForPlace.field-0-is c.in-Ok-ForPlace.ensures.ok)).0) before)

pub returns-then-stay-clause-inside : goal.returns-then-stay-clause-inside
returns-then-stay-clause-inside c = λ before. subst (λ slab. IsInsider slab c.args.inside.now)
    (sym (with_same c.args.self.now.stays c.args.key c.in-Some.stay.now (sym c.in-Some.ensures.value))) before
