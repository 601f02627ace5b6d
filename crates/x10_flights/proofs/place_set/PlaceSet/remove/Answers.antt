use Rattle.std.proofs.Common.{ap, ◌∙◌, sym, arith, inl, inr, w64}
use Rattle.std.proofs.lemmas.Bool.{cases_lt}
use Rattle.std.proofs.lemmas.Nat.Bits.{bit_at_clear_same, bit_at_clear_other}
use Rattle.x10_flights.specs.PlaceSets.{has_place}
use Rattle.x10_flights.proofs.Places.{not_from, has_same, none_above, none_above_both}
use Rattle.x10_flights.proofs.place_set.PlaceSet.remove.Goals as goal

pub returns-clause-same : goal.returns-clause-same
returns-clause-same c = not_from _ c.args.place (bit_at_clear_same w64 c.self.inside.bits c.args.place c.requires)

pub returns-clause-others : goal.returns-clause-others
returns-clause-others c p apart = elim (cases_lt p 64) [
  | inl l ↦ has_same _ c.self.inside.bits p (bit_at_clear_other w64 c.self.inside.bits c.args.place c.requires p l apart)
      ∙ ap (λ n. has_place n p) c.self.view_is
  | inr g ↦ none_above_both c.self.inside.bits _ p (omega arith) g ∙ sym (none_above c.self.inside.bits p (omega arith) g)
      ∙ ap (λ n. has_place n p) c.self.view_is
]
