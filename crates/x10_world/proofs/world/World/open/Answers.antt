use Rattle.std.proofs.Common.{refl, false, ap, arith}
use Rattle.x10_flights.specs.Flights.{FlightsState}
use Rattle.x10_world.specs.StandsForWorld.{world_of}
use Rattle.x10_world.proofs.OpeningLemmas.{opening_stands, opened_world}
use Rattle.x10_world.proofs.world.World.open.Goals as goal

pub invariant_of-result : goal.invariant_of-result
invariant_of-result c = opened_world c.args.verified.now c.args.places c.in_ok-list.list c.in_ok-flights.flights c.certificate.ensures
    (omega (arith, c.least.ensures.range.0, c.if-places-least.false)) (omega (arith, c.if-places-gt-MOST_PLACES.false)) c.in_ok-list.ensures
    (ap (λ (f : FlightsState). f.places) c.in_ok-flights.ensures) (ap (λ (f : FlightsState). f.flying) c.in_ok-flights.ensures)

pub returns-clause-opened : goal.returns-clause-opened
returns-clause-opened c = record {
  program = refl;
  bounds = refl;
  stopped = refl;
  places = c.in_ok-list.ensures;
  flying = ap (λ (f : FlightsState). f.flying) c.in_ok-flights.ensures;
  posted = ap (λ (f : FlightsState). f.posted) c.in_ok-flights.ensures;
  stands = opening_stands c.args.verified.now c.args.places (world_of c.args.verified.now c.in_ok-list.list c.in_ok-flights.flights false)
      c.certificate.ensures (omega (arith, c.least.ensures.range.0, c.if-places-least.false)) refl refl c.in_ok-list.ensures
      (ap (λ (f : FlightsState). f.flying) c.in_ok-flights.ensures);
}
