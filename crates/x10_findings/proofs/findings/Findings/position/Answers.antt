use Rattle.std.proofs.Common.{◌≡◌, Some, sym, ap, subst, ◌∙◌, arith, inl, inr}
use Rattle.std.specs.Prelude.{slice_get}
use Rattle.std.proofs.lemmas.Bool.{cases_lt, both_ways}
use Rattle.std.proofs.lemmas.Option.{same_Some, slice_get_within, slice_get-get_or}
use Rattle.x10_findings.specs.Findings.{FindingsState, IsThis}
use Rattle.x10_findings.proofs.findings.Findings.position.Goals as goal

pub returns-then-is_this : goal.returns-then-is_this
returns-then-is_this c = (
  c.index.result.now,
  subst (λ (s : FindingsState). slice_get s.found c.loop-at.at ≡ Some c.index.result.now) c.self.view_is
      (slice_get-get_or c.self.inside.list.items c.loop-at.at c.index.result.now (omega arith) ∙ ap Some (sym c.index.ensures)),
  c.is_this.ensures.0 c.if-is_this.true,
)

pub loop-at-preserved : goal.loop-at-preserved
loop-at-preserved c = λ k f less there is. elim (cases_lt k c.loop-at.at) [
  | inl before ↦ c.loop-at.invariant k f before there is
  | inr le ↦
      let same : k ≡ c.loop-at.at = omega (arith, less, le) in
      let here = subst (λ (s : FindingsState). slice_get s.found c.loop-at.at ≡ Some c.index.result.now) c.self.view_is
      (slice_get-get_or c.self.inside.list.items c.loop-at.at c.index.result.now (omega arith) ∙ ap Some (sym c.index.ensures)) in
      let e = same_Some f c.index.result.now (sym there ∙ ap (λ n. slice_get c.args.self.now.found n) same ∙ here) in
      both_ways c.is_this.result c.if-is_this.false (c.is_this.ensures.1 (subst (λ g. IsThis g c.args.output.now c.args.ended) e is))
]

pub returns : goal.returns
returns c = λ at f there is.
    let there = subst (λ (s : FindingsState). slice_get s.found at ≡ Some f) (sym c.self.view_is) there in
    c.loop-at.invariant at f (omega (arith, slice_get_within c.self.inside.list.items at f there, c.loop-at-test.false, c.loop-at.auto.at-end))
    (subst (λ (s : FindingsState). slice_get s.found at ≡ Some f) c.self.view_is there) is
