use Rattle.std.proofs.Common.{ap, ◌∙◌, w64}
use Rattle.std.proofs.lemmas.Nat.Bits.{bit_at_set_same, bit_at_set_other}
use Rattle.x10_flights.specs.PlaceSets.{has_place}
use Rattle.x10_flights.proofs.Places.{has_from, has_same}
use Rattle.x10_flights.proofs.place_set.PlaceSet.insert.Goals as goal

pub returns-clause-same : goal.returns-clause-same
returns-clause-same c = has_from _ c.args.place (bit_at_set_same w64 c.self.inside.bits c.args.place c.requires)

pub returns-clause-others : goal.returns-clause-others
returns-clause-others c p apart =
    has_same _ c.self.inside.bits p (bit_at_set_other w64 c.self.inside.bits c.args.place c.requires p apart) ∙ ap (λ n. has_place n p) c.self.view_is
