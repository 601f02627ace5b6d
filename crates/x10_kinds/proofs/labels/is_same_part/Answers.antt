use Rattle.std.proofs.Common.{◌≡◌, ◌+◌, ◌*◌, ℕ, ◌<◌, sym, ◌∙◌, arith, inl, inr}
use Rattle.std.specs.Prelude.{slice_index}
use Rattle.std.proofs.lemmas.Bool.{cases_lt, eqb-true}
use Rattle.x10_kinds.specs.Labels.{eight_from}
use Rattle.x10_kinds.proofs.Rows.{eight_from-same}
use Rattle.x10_kinds.proofs.labels.is_same_part.Goals as goal

pub returns-then-eight : goal.returns-then-eight
returns-then-eight c = λ same i above below.
    let left : (k : ℕ) → slice_index c.args.labels.now k < 256 = λ k. omega (arith, c.fits-labels k) in
    let right : (k : ℕ) → slice_index c.args.other.now k < 256 = λ k. omega (arith, c.fits-other k) in
    let one : eight_from c.args.labels.now (16 * c.args.part + 1) ≡ eight_from c.args.other.now (16 * c.args.part + 1) =
    sym c.eight.ensures ∙ c.if-eight.true ∙ c.eight-2.ensures in
    let two : eight_from c.args.labels.now (16 * c.args.part + 1 + 8) ≡ eight_from c.args.other.now (16 * c.args.part + 1 + 8) =
    sym c.eight-then-eight.ensures ∙ eqb-true _ _ same ∙ c.eight-then-eight-2.ensures in
    elim (cases_lt i (16 * c.args.part + 1 + 8)) [
      | inl first ↦ eight_from-same c.args.labels.now c.args.other.now (16 * c.args.part + 1) left right one i above first
      | inr second ↦ eight_from-same c.args.labels.now c.args.other.now (16 * c.args.part + 1 + 8) left right two i (omega arith) (omega arith)
    ]
