use Rattle.std.proofs.Common.{◌↔◌, IsTrue, false, refl, sym, ap, subst, ◌∙◌}
use Rattle.x10_place.specs.Stays.{StayState}
use Rattle.x10_place.specs.StandsFor.{PlaceState, place_of, IsIdleAt, away, AreOutside}
use Rattle.x10_place.proofs.StepAnswers.{out_idle}
use Rattle.x10_place.proofs.StaySteps.{finish_there, idle_is}
use Rattle.x10_place.proofs.StandingFrames.{checked}
use Rattle.x10_place.proofs.StepsOfPlace.{stopped_standing}
use Rattle.x10_place.proofs.place.Place.is_idle.Goals as goal

pub returns-then-is_kept_out : goal.returns-then-is_kept_out
returns-then-is_kept_out c = ((λ t. out_idle c.args.self.now c.args.key (c.if-is_kept_out.ensures.out refl)), (λ idle. refl))

pub is_waiting-requires-clause-open : goal.is_waiting-requires-clause-open
is_waiting-requires-clause-open c = λ i fetched fine.
    finish_there c.self.inside.ground.verified.now c.self.inside.ground.stays c.self.inside.ground.store c.args.key c.in-Some.stay.now i
    (stopped_standing (place_of c.self.inside.ground.verified.now c.self.inside.ground.stays c.self.inside.ground.store c.self.inside.stopped)
    false c.self.invariant.0) (checked c.self.inside.ground.verified.now c.certificate.ensures) (sym c.in-Some.ensures)
    (ap (λ (a : StayState). a.away) (sym c.stay.view_is) ∙ c.if-stay.false) fetched fine

pub returns-then-stay : goal.returns-then-stay
returns-then-stay c = (
  (λ t. subst (λ p. IsIdleAt p c.args.key) c.self.view_is
      (away c.in-Some.stay.now (sym c.in-Some.ensures) (ap (λ (a : StayState). a.away) (sym c.stay.view_is) ∙ c.if-stay.true))),
  (λ idle. c.if-stay.true),
)

pub returns-else-stay : goal.returns-else-stay
returns-else-stay c =
    let idle = idle_is c.self.inside.ground.verified.now c.self.inside.ground.stays c.self.inside.ground.store c.args.key
    (stopped_standing (place_of c.self.inside.ground.verified.now c.self.inside.ground.stays c.self.inside.ground.store c.self.inside.stopped)
    false c.self.invariant.0) (checked c.self.inside.ground.verified.now c.certificate.ensures) c.in-Some.stay.now (sym c.in-Some.ensures)
    (ap (λ (a : StayState). a.away) (sym c.stay.view_is) ∙ c.if-stay.false)
    (subst (λ (p : PlaceState). AreOutside p.stays c.args.key) (sym c.self.view_is) (c.if-is_kept_out.ensures.free refl)) c.is_waiting.ensures.0
    c.is_waiting.ensures.1 c.is_waiting.result c.is_waiting.ensures.2 c.self.inside.stopped in
    subst (λ p. IsTrue c.is_waiting.result ↔ IsIdleAt p c.args.key) c.self.view_is idle
