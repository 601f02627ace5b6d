use Rattle.std.proofs.Common.{◌≡◌, ◌+◌, ◌/◌, ◌^◌, ap, ◌∙◌, sym, arith, w64}
use Rattle.std.specs.Int.{trailing_zeros}
use Rattle.x10_flights.specs.Flights.{IsLeast}
use Rattle.x10_flights.specs.PlaceSets.{has_place}
use Rattle.x10_flights.proofs.Places.{none_above, none_left, least_left, has_below}
use Rattle.x10_flights.proofs.place_set.PlaceSet.first_from.Goals as goal

pub returns-in_err-rest-clause-next : goal.returns-in_err-rest-clause-next
returns-in_err-rest-clause-next c =
    rw (← c.self.view_is, c.from_residual.ensures)
    (λ m a. none_above c.self.inside.bits m (omega arith) (omega (arith, c.in_err-rest.ensures, c.from.ensures)))

pub returns-then-rest-eq0-clause-next : goal.returns-then-rest-eq0-clause-next
returns-then-rest-eq0-clause-next c =
    let left : c.in_ok-rest.rest ≡ c.self.inside.bits / 2 ^ c.args.from =
    c.in_ok-rest.ensures.1 ∙ ap (λ k. c.self.inside.bits / 2 ^ k) c.from.ensures in
    rw (← c.self.view_is) (λ m a. none_left c.self.inside.bits c.args.from m (sym left ∙ c.if-rest-eq0.true) a)

least : (c : goal.Else-rest-eq0) → IsLeast (has_place c.self.inside.bits) c.args.from (c.args.from + trailing_zeros w64 c.in_ok-rest.rest)
least c =
    least_left c.self.inside.bits c.args.from c.in_ok-rest.rest (c.in_ok-rest.ensures.1 ∙ ap (λ k. c.self.inside.bits / 2 ^ k) c.from.ensures)
    (omega arith) (omega arith)

pub returns-clause-next : goal.returns-clause-next
returns-clause-next c = rw (← c.self.view_is) (least c)

pub returns-clause-below : goal.returns-clause-below
returns-clause-below c = has_below c.self.inside.bits _ (omega arith) ((least c).passes)
