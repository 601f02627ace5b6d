use Rattle.std.proofs.Common.{◌≡◌, None, subst, arith, inl, inr}
use Rattle.std.proofs.lemmas.Bool.{cases_lt, both_ways}
use Rattle.std.proofs.lemmas.List.{get_or_past}
use Rattle.slab.specs.Slab.{get}
use Rattle.x10_place.specs.StandsFor.{PlaceState, IsIdleAt}
use Rattle.x10_place.specs.StandsFor.IsIdleAt.{nobody}
use Rattle.x10_place.proofs.place.Place.first_able.Goals as goal

pub returns-then-not-is_idle : goal.returns-then-not-is_idle
returns-then-not-is_idle c = record {
  able = λ idle. both_ways c.is_idle.result c.if-not-is_idle.true (c.is_idle.ensures.1 idle);
  first = c.loop-key.invariant;
}

pub loop-key-preserved : goal.loop-key-preserved
loop-key-preserved c = λ k less. elim (cases_lt k c.loop-key.key) [
  | inl before ↦ c.loop-key.invariant k before
  | inr le ↦ let same : c.loop-key.key ≡ k = omega (arith, less, le) in
      subst (λ n. IsIdleAt c.args.self.now n) same (c.is_idle.ensures.0 c.if-not-is_idle.false)
]

pub returns : goal.returns
returns c = λ key. elim (cases_lt key c.loop-key.key) [
  | inl before ↦ c.loop-key.invariant key before
  | inr le ↦ nobody (subst (λ (p : PlaceState). get p.stays key ≡ None) c.self.view_is
      (get_or_past c.self.inside.ground.stays.slots key None (omega
      (arith, le, c.loop-key-test.false, c.loop-key.auto.key-end, c.capacity-key-end.ensures.slots))))
]
