use Rattle.x10_flights.proofs.FiledFrames.{filed_awaited}
use Rattle.x10_flights.proofs.flights.Flights.awaited.Goals as goal

pub returns : goal.returns
returns c = rw (← c.self.view_is) (λ p. filed_awaited c.self.inside.queues.items c.self.inside.table c.self.inside.room c.self.inside.first
    c.self.inside.second c.self.inside.awaited p c.self.invariant)
