use Rattle.std.proofs.Common.{subst}
use Rattle.x10_model.specs.declared.event.Event.TheVariants.{Deliver}
use Rattle.x10_world.specs.Happenings.{CanHappen}
use Rattle.x10_world.specs.StandsForWorld.{WorldState, world_of}
use Rattle.x10_world.proofs.QueryLemmas.{flies_can, no_frame}
use Rattle.x10_world.proofs.world.World.possible_delivery.Goals as goal

pub returns-in_err-place : goal.returns-in_err-place
returns-in_err-place c = rw c.from_residual.ensures (no_frame _ c.args.self.now c.awaited.result c.self.view_is c.awaited.ensures
    c.in_err-place.ensures.next)

pub returns : goal.returns
returns c = subst (λ (x : WorldState). CanHappen x (Deliver c.in_ok-number.number)) c.self.view_is
    (flies_can (world_of c.self.inside.verified.now c.self.inside.places c.self.inside.flights c.self.inside.stopped) c.in_ok-place.place
    c.in_ok-number.number c.in_ok-number.ensures.passes)
