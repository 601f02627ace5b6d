use Rattle.std.proofs.Common.{◌≡◌, ◌↔◌, ℕ, true, sym, subst}
use Rattle.x10_flights.specs.Flights.{IsNext}
use Rattle.x10_flights.specs.PlaceSets.{has_place}
use Rattle.x10_world.specs.Rounds.{IsBusy, IsEmptyWorld}
use Rattle.x10_world.specs.StandsForWorld.{WorldState, world_of}
use Rattle.x10_world.proofs.TurnLemmas.{turn_behind, turn_first, turn_none}
use Rattle.x10_world.proofs.world.World.busy_after.Goals as goal

pub returns-in-Some-clause-some : goal.returns-in-Some-clause-some
returns-in-Some-clause-some c = turn_behind c.args.self.now c.busy-busy.result c.busy-busy.ensures c.args.place c.saturating_add.result c.in-Some.next
    c.saturating_add.ensures c.in-Some.ensures.below c.in-Some.ensures.next

pub returns-in-None-clause-some : goal.returns-in-None-clause-some
returns-in-None-clause-some c = turn_first c.args.self.now c.busy-busy.result c.busy-busy.ensures c.args.place c.saturating_add.result
    c.first_from-in-None.result c.saturating_add.ensures c.first_from-in-None.ensures.below c.in-None.ensures.next c.first_from-in-None.ensures.next

pub returns-in-None-clause-none : goal.returns-in-None-clause-none
returns-in-None-clause-none c = λ none. subst (λ (x : WorldState). IsEmptyWorld x) c.self.view_is
    (turn_none (world_of c.self.inside.verified.now c.self.inside.places c.self.inside.flights c.self.inside.stopped) c.busy-busy.result
    (subst (λ (x : WorldState). (id : ℕ) → (has_place c.busy-busy.result id ≡ true) ↔ IsBusy x id) (sym c.self.view_is) c.busy-busy.ensures)
    c.self.invariant
    (subst (λ o. IsNext (has_place c.busy-busy.result) 0 o) none c.first_from-in-None.ensures.next))
