use Rattle.std.proofs.Common.{arith, inl, inr, subst, ◌≡◌}
use Rattle.std.proofs.lemmas.Bool.{cases_lt}
use Rattle.std.proofs.lemmas.Option.{slice_get_within}
use Rattle.x10_world.specs.Happenings.{AllIdle}
use Rattle.x10_world.proofs.world.World.possible_step.Goals as goal

pub loop-place-preserved : goal.loop-place-preserved
loop-place-preserved c = λ id less. elim (cases_lt id c.loop-place.place) [
  | inl before ↦ c.loop-place.invariant id before
  | inr le ↦ let same : c.loop-place.place ≡ id = omega (arith, less, le) in subst (λ n. AllIdle c.args.self.now n) same c.in_default.ensures
]

pub returns : goal.returns
returns c = λ id p there key. c.loop-place.invariant id (omega
    (arith, slice_get_within c.args.self.now.places id p there, c.loop-place-test.false, c.loop-place.auto.place-end, c.count-place-end.ensures)) p
    there key
