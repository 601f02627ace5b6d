use Rattle.std.proofs.Common.{Ok, Err, sym, ap, subst, ◌∙◌, inl, inr}
use Rattle.slab.specs.Slab.{Slab, with_value}
use Rattle.x10_place.specs.Stretches.{IsRun}
use Rattle.x10_place.proofs.StepsOfPlace.{with_same}
use Rattle.std.specs.Option.{option_copied_mut}
use Rattle.x10_place.specs.declared.outcome.Outcome.TheVariants as outcome
use Rattle.x10_place.specs.Stays.{StayState}
use Rattle.x10_place.proofs.StandingFrames.{checked}
use Rattle.x10_place.proofs.StretchesOfPlace.{paused_as, working_as, run_nobody, run_away, run_goes, run_waits, run_refused, run_for_place, run_placed, run_not_placed}
use Rattle.x10_place.proofs.ground.Ground.run_activity.Goals as goal
use Rattle.x10_place.proofs.Insides.{insider_written, same_insider}
use Rattle.x10_place.specs.StandsFor.{IsInsider}

pub returns-in_default-clause-ran : goal.returns-in_default-clause-ran
returns-in_default-clause-ran c =
    subst (λ o. IsRun c.args.self.now.verified.now c.args.self.now.stays c.args.self.now.store c.args.key c.args.most 0
    (Ok o) c.args.self.now.stays c.args.self.now.store) (sym c.no_sent.ensures)
    (run_nobody c.args.self.now.verified.now c.args.self.now.stays c.args.self.now.store c.args.key c.requires.standing
    (checked c.args.self.now.verified.now c.certificate.ensures) c.args.most
    (sym (c.get_mut.ensures.value) ∙ ap option_copied_mut c.in_default.is))

pub run_stretch-done-requires : goal.run_stretch-done-requires
run_stretch-done-requires c =
    working_as c.args.self.now.verified.now c.args.self.now.stays c.args.self.now.store c.args.key c.in-Some.stay.now c.locality-locality.result
    c.requires.standing (sym c.in-Some.ensures.value) (ap (λ (a : StayState). a.away) (sym c.stay.view_is) ∙ c.if-stay.false)
    c.locality-locality.ensures.here c.locality-locality.ensures.places

pub make-requires : goal.make-requires
make-requires c =
    let paused = (paused_as c.args.self.now.verified.now.program c.locality-locality.result c.args.self.now.store c.in-Some.stay.now
    c.run_stretch-done.result.1 (Ok (outcome.ForPlace c.in-ForPlace.deed c.in-ForPlace.instr)) c.run_stretch-done.result.0
    c.run_stretch-done.new.self c.run_stretch-done.new.store c.locality-locality.ensures.here c.locality-locality.ensures.places
    (c.in-Ok.is ∙ ap Ok c.in-ForPlace.is) c.run_stretch-done.ensures.ran) in
    run_for_place c.args.self.now.verified.now c.args.self.now.stays c.args.self.now.store c.args.key c.requires.standing
    (checked c.args.self.now.verified.now c.certificate.ensures) c.in-Some.stay.now (sym c.in-Some.ensures.value)
    (ap (λ (a : StayState). a.away) (sym c.stay.view_is) ∙ c.if-stay.false) c.requires.outside c.run_stretch-done.result.0 c.args.most
    c.run_stretch-done.new.self c.run_stretch-done.new.store paused.0 c.run_stretch-done.ensures.few c.in-ForPlace.deed c.in-ForPlace.instr
    paused.1

pub returns-in-Goes-clause-ran : goal.returns-in-Goes-clause-ran
returns-in-Goes-clause-ran c =
    subst (λ o. IsRun c.args.self.now.verified.now c.args.self.now.stays c.args.self.now.store c.args.key c.args.most c.run_stretch-done.result.0
    (Ok o) (with_value c.args.self.now.stays c.args.key c.run_stretch-done.new.self) c.run_stretch-done.new.store) (sym c.no_sent-in-Goes.ensures)
    (elim c.in-Goes.is [
      | inl goes ↦ run_goes c.args.self.now.verified.now c.args.self.now.stays c.args.self.now.store c.args.key c.requires.standing
          (checked c.args.self.now.verified.now c.certificate.ensures) c.in-Some.stay.now (sym c.in-Some.ensures.value)
          (ap (λ (a : StayState). a.away) (sym c.stay.view_is) ∙ c.if-stay.false) c.requires.outside c.run_stretch-done.result.0 c.args.most
          c.run_stretch-done.new.self c.run_stretch-done.new.store
          (paused_as c.args.self.now.verified.now.program c.locality-locality.result c.args.self.now.store c.in-Some.stay.now
          c.run_stretch-done.result.1 (Ok outcome.Goes) c.run_stretch-done.result.0 c.run_stretch-done.new.self c.run_stretch-done.new.store
          c.locality-locality.ensures.here c.locality-locality.ensures.places (c.in-Ok.is ∙ ap Ok goes) c.run_stretch-done.ensures.ran)
          c.run_stretch-done.ensures.few (c.run_stretch-done.ensures.all (c.in-Ok.is ∙ ap Ok goes))
      | inr waits ↦ let paused = (paused_as c.args.self.now.verified.now.program c.locality-locality.result c.args.self.now.store c.in-Some.stay.now
          c.run_stretch-done.result.1 (Ok outcome.Waits) c.run_stretch-done.result.0 c.run_stretch-done.new.self c.run_stretch-done.new.store
          c.locality-locality.ensures.here c.locality-locality.ensures.places (c.in-Ok.is ∙ ap Ok waits) c.run_stretch-done.ensures.ran) in run_waits
          c.args.self.now.verified.now c.args.self.now.stays c.args.self.now.store c.args.key c.requires.standing
          (checked c.args.self.now.verified.now c.certificate.ensures) c.in-Some.stay.now (sym c.in-Some.ensures.value)
          (ap (λ (a : StayState). a.away) (sym c.stay.view_is) ∙ c.if-stay.false) c.requires.outside c.run_stretch-done.result.0 c.args.most
          c.run_stretch-done.new.self c.run_stretch-done.new.store paused.0 c.run_stretch-done.ensures.few paused.1
    ])

pub returns-in-Err-clause-ran : goal.returns-in-Err-clause-ran
returns-in-Err-clause-ran c =
    let paused = (paused_as c.args.self.now.verified.now.program c.locality-locality.result c.args.self.now.store c.in-Some.stay.now
    c.run_stretch-done.result.1 (Err c.in-Err.why) c.run_stretch-done.result.0 c.run_stretch-done.new.self c.run_stretch-done.new.store
    c.locality-locality.ensures.here c.locality-locality.ensures.places c.in-Err.is c.run_stretch-done.ensures.ran) in
    run_refused c.args.self.now.verified.now c.args.self.now.stays c.args.self.now.store c.args.key c.requires.standing
    (checked c.args.self.now.verified.now c.certificate.ensures) c.in-Some.stay.now (sym c.in-Some.ensures.value)
    (ap (λ (a : StayState). a.away) (sym c.stay.view_is) ∙ c.if-stay.false) c.requires.outside c.run_stretch-done.result.0 c.args.most
    c.run_stretch-done.new.self c.run_stretch-done.new.store paused.0 c.run_stretch-done.ensures.few c.in-Err.why paused.1

pub returns-in-Ok-make-clause-ran : goal.returns-in-Ok-make-clause-ran
returns-in-Ok-make-clause-ran c =
    let paused = (paused_as c.args.self.now.verified.now.program c.locality-locality.result c.args.self.now.store c.in-Some.stay.now
    c.run_stretch-done.result.1 (Ok (outcome.ForPlace c.in-ForPlace.deed c.in-ForPlace.instr)) c.run_stretch-done.result.0
    c.run_stretch-done.new.self c.run_stretch-done.new.store c.locality-locality.ensures.here c.locality-locality.ensures.places
    (c.in-Ok.is ∙ ap Ok c.in-ForPlace.is) c.run_stretch-done.ensures.ran) in
    run_placed c.args.self.now.verified.now c.args.self.now.stays c.args.self.now.store c.args.key c.requires.standing
    (checked c.args.self.now.verified.now c.certificate.ensures) c.in-Some.stay.now (sym c.in-Some.ensures.value)
    (ap (λ (a : StayState). a.away) (sym c.stay.view_is) ∙ c.if-stay.false) c.requires.outside c.run_stretch-done.result.0 c.args.most
    c.run_stretch-done.new.self c.run_stretch-done.new.store paused.0 c.run_stretch-done.ensures.few c.make.new.self.stays c.make.new.self.store
    c.in-Ok-make.sent (c.run_stretch-done.ensures.less (λ goes. absurd (let f = sym (c.in-Ok.is ∙ ap Ok c.in-ForPlace.is) ∙ goes in cc)))
    c.in-Ok-make.ensures.ok

pub returns-in-Err-make-clause-ran : goal.returns-in-Err-make-clause-ran
returns-in-Err-make-clause-ran c =
    let paused = (paused_as c.args.self.now.verified.now.program c.locality-locality.result c.args.self.now.store c.in-Some.stay.now
    c.run_stretch-done.result.1 (Ok (outcome.ForPlace c.in-ForPlace.deed c.in-ForPlace.instr)) c.run_stretch-done.result.0
    c.run_stretch-done.new.self c.run_stretch-done.new.store c.locality-locality.ensures.here c.locality-locality.ensures.places
    (c.in-Ok.is ∙ ap Ok c.in-ForPlace.is) c.run_stretch-done.ensures.ran) in
    run_not_placed c.args.self.now.verified.now c.args.self.now.stays c.args.self.now.store c.args.key c.requires.standing
    (checked c.args.self.now.verified.now c.certificate.ensures) c.in-Some.stay.now (sym c.in-Some.ensures.value)
    (ap (λ (a : StayState). a.away) (sym c.stay.view_is) ∙ c.if-stay.false) c.requires.outside c.run_stretch-done.result.0 c.args.most
    c.run_stretch-done.new.self c.run_stretch-done.new.store paused.0 c.run_stretch-done.ensures.few c.make.new.self.stays c.make.new.self.store
    c.in-Err-make.why c.in-Err-make.ensures.err c.in-Err-make.ensures.refused

pub returns-then-stay-clause-ran : goal.returns-then-stay-clause-ran
returns-then-stay-clause-ran c =
    subst (λ (slab : Slab StayState). IsRun c.args.self.now.verified.now c.args.self.now.stays c.args.self.now.store c.args.key c.args.most 0
    (Ok c.no_sent-then-stay.result) slab c.args.self.now.store)
    (sym (with_same c.args.self.now.stays c.args.key c.in-Some.stay.now (sym c.in-Some.ensures.value)))
    (subst (λ o. IsRun c.args.self.now.verified.now c.args.self.now.stays c.args.self.now.store c.args.key c.args.most 0
    (Ok o) c.args.self.now.stays c.args.self.now.store) (sym c.no_sent-then-stay.ensures)
    (run_away c.args.self.now.verified.now c.args.self.now.stays c.args.self.now.store c.args.key c.requires.standing
    (checked c.args.self.now.verified.now c.certificate.ensures) c.args.most c.in-Some.stay.now (sym c.in-Some.ensures.value)
    (ap (λ (a : StayState). a.away) (sym c.stay.view_is) ∙ c.if-stay.true)))

pub returns-in-Goes-clause-inside : goal.returns-in-Goes-clause-inside
returns-in-Goes-clause-inside c = λ before. insider_written c.args.self.now.stays c.args.key c.in-Some.stay.now c.run_stretch-done.new.self
    c.insider.result (sym c.in-Some.ensures.value) c.requires.outside c.insider.ensures

pub returns-in-Err-clause-inside : goal.returns-in-Err-clause-inside
returns-in-Err-clause-inside c = λ before. insider_written c.args.self.now.stays c.args.key c.in-Some.stay.now c.run_stretch-done.new.self
    c.insider.result (sym c.in-Some.ensures.value) c.requires.outside c.insider.ensures

pub returns-in-Ok-make-clause-inside : goal.returns-in-Ok-make-clause-inside
returns-in-Ok-make-clause-inside c = λ before. same_insider (with_value c.args.self.now.stays c.args.key c.run_stretch-done.new.self)
    c.make.new.self.stays c.insider.result c.make.ensures.inside
    (insider_written c.args.self.now.stays c.args.key c.in-Some.stay.now c.run_stretch-done.new.self c.insider.result
    (sym c.in-Some.ensures.value) c.requires.outside c.insider.ensures)

pub returns-in-Err-make-clause-inside : goal.returns-in-Err-make-clause-inside
returns-in-Err-make-clause-inside c = λ before. same_insider
    (with_value c.args.self.now.stays c.args.key c.run_stretch-done.new.self) c.make.new.self.stays c.insider.result c.make.ensures.inside
    (insider_written c.args.self.now.stays c.args.key c.in-Some.stay.now c.run_stretch-done.new.self c.insider.result
    (sym c.in-Some.ensures.value) c.requires.outside c.insider.ensures)

pub returns-then-stay-clause-inside : goal.returns-then-stay-clause-inside
returns-then-stay-clause-inside c = λ before. subst (λ slab. IsInsider slab c.args.inside.now)
    (sym (with_same c.args.self.now.stays c.args.key c.in-Some.stay.now (sym c.in-Some.ensures.value))) before
