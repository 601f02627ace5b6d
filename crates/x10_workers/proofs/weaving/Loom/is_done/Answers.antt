use Rattle.std.proofs.Common.{refl, sym, ap, subst, ◌∙◌, arith, inl, inr}
use Rattle.std.specs.Prelude.{◌≡◌, Some, length, slice_get}
use Rattle.std.proofs.lemmas.Bool.{cases_lt}
use Rattle.std.proofs.lemmas.Option.{same_Some, slice_get_read, slice_get_within}
use Rattle.x10_workers.specs.declared.trail.Trail.{Trail}
use Rattle.x10_workers.proofs.WorkLemmas.{true_false}
use Rattle.x10_workers.proofs.weaving.Loom.is_done.Goals as goal

pub returns-then-not-is_at_end : goal.returns-then-not-is_at_end
returns-then-not-is_at_end c =
    let there = slice_get_read c.args.trails.now (length c.args.trails.now) c.loop-at.at c.index-trails-at.result refl c.loop-at-test.true
    c.index-trails-at.is in (
      λ t. absurd cc,
      λ all. absurd (true_false c.is_at_end.result
          (c.is_at_end.ensures.1 (all c.loop-at.at c.index-trails-at.result there)) c.if-not-is_at_end.true),
    )

pub loop-at-preserved : goal.loop-at-preserved
loop-at-preserved c id t lt is =
    let there = slice_get_read c.args.trails.now (length c.args.trails.now) c.loop-at.at c.index-trails-at.result refl c.loop-at-test.true
    c.index-trails-at.is in
    elim (cases_lt id c.loop-at.at) [
      | inl before ↦ c.loop-at.invariant id t before is
      | inr past ↦ (let same : c.loop-at.at ≡ id = omega (arith, lt, past) in
          let trail = same_Some c.index-trails-at.result t (sym there ∙ ap (λ n. slice_get c.args.trails.now n) same ∙ is) in
          subst (λ n. slice_get c.args.self.now.cursors.items n ≡ Some (length t.turns)) same
          (c.is_at_end.ensures.0 c.if-not-is_at_end.false ∙ ap (λ (u : Trail). Some (length u.turns)) trail))
    ]

pub returns : goal.returns
returns c = (
  λ t id trail is. c.loop-at.invariant id trail (let lt = slice_get_within c.args.trails.now id trail is in
      let end = c.loop-at-test.false in omega (arith, lt, end)) is,
  λ all. refl,
)
