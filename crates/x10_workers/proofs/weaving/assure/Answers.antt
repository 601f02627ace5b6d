use Rattle.std.proofs.Common.{refl, sym, ap, subst, ◌∙◌, arith, inl, inr}
use Rattle.std.specs.Prelude.{◌≡◌, length, slice_get}
use Rattle.std.proofs.lemmas.Bool.{cases_lt}
use Rattle.std.proofs.lemmas.Option.{same_Some, slice_get_read, slice_get_within}
use Rattle.x10_verify.specs.Certified.{IsCertified}
use Rattle.x10_workers.specs.Trails.{IsTrail}
use Rattle.x10_workers.specs.declared.trail.Trail.{Trail}
use Rattle.x10_workers.proofs.weaving.assure.Goals as goal

pub loop-at-preserved : goal.loop-at-preserved
loop-at-preserved c id t lt is =
    let there = slice_get_read c.args.trails.now (length c.args.trails.now) c.loop-at.at c.index-trails-at.result refl c.loop-at-test.true
    c.index-trails-at.is in
    elim (cases_lt id c.loop-at.at) [
      | inl before ↦ c.loop-at.invariant id t before is
      | inr past ↦ (let same : c.loop-at.at ≡ id = omega (arith, lt, past) in
          let trail = same_Some c.index-trails-at.result t (sym there ∙ ap (λ n. slice_get c.args.trails.now n) same ∙ is) in
          subst (λ (u : Trail). IsTrail u × IsCertified u.certified) trail (c.assure.ensures.trail, c.assure.ensures.certified))
    ]

pub returns : goal.returns
returns c id t is = c.loop-at.invariant id t (let lt = slice_get_within c.args.trails.now id t is in let end = c.loop-at-test.false in
    omega (arith, lt, end)) is
