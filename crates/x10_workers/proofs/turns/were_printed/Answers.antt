use Rattle.std.proofs.Common.{map, sym, ap, ◌∙◌, drop}
use Rattle.std.proofs.lemmas.Option.{same_Some}
use Rattle.x10_place.specs.StandsFor.{PlaceState, line_as}
use Rattle.x10_workers.proofs.turns.were_printed.Goals as goal

pub returns-in-Some : goal.returns-in-Some
returns-in-Some c = (
  (λ same. let there = c.in-Some.ensures in (
    there.0,
    there.1,
    ap (λ ls. map line_as (drop c.args.before ls)) (sym there.2) ∙ c.are_behind.ensures.0 same,
  )),
  (λ p. let there = c.in-Some.ensures in
      let same = ap (λ (q : PlaceState). q.lines) (same_Some there.0 p.0 (sym there.1 ∙ p.1)) in
      c.are_behind.ensures.1 (ap (λ ls. map line_as (drop c.args.before ls)) (there.2 ∙ same) ∙ p.2)),
)
