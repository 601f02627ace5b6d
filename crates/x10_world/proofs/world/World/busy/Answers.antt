use Rattle.std.proofs.Common.{◌≡◌, ◌↔◌, ℕ, true, subst}
use Rattle.x10_flights.specs.PlaceSets.{has_place}
use Rattle.x10_world.specs.Rounds.{IsBusy}
use Rattle.x10_world.specs.StandsForWorld.{WorldState, world_of}
use Rattle.x10_world.proofs.TurnLemmas.{busy_is}
use Rattle.x10_world.proofs.world.World.busy.Goals as goal

pub returns : goal.returns
returns c = subst (λ (x : WorldState). (id : ℕ) → (has_place c.union.result id ≡ true) ↔ IsBusy x id) c.self.view_is
    (busy_is (world_of c.self.inside.verified.now c.self.inside.places c.self.inside.flights c.self.inside.stopped) c.living.result c.awaited.result
    c.union.result c.living.ensures c.awaited.ensures c.union.ensures)
