use Rattle.x10_flights.proofs.Places.{has_none}
use Rattle.x10_flights.proofs.place_set.PlaceSet.new.Goals as goal

pub returns : goal.returns
returns c = has_none
