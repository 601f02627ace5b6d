use Rattle.x10_flights.proofs.Places.{has_or}
use Rattle.x10_flights.proofs.place_set.PlaceSet.union.Goals as goal

pub returns : goal.returns
returns c = rw (← c.self.view_is, ← c.other.view_is) (has_or c.self.inside.bits c.other.inside.bits)
