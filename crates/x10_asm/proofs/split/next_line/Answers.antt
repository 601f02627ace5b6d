use Rattle.std.proofs.Common.{◌<◌, sym, ◌∙◌, ap, length, arith}
use Rattle.std.proofs.lemmas.Bool.{eqb-true, eqb-false}
use Rattle.std.proofs.lemmas.Str.{IsCharBoundary-after_ascii}
use Rattle.x10_asm.specs.Lines.{lines}
use Rattle.x10_asm.proofs.LinesAndWords.{lines_whole, lines_first, nil_of, no_lines}
use Rattle.x10_asm.proofs.split.next_line.Goals as goal

pub range_from-requires : goal.range_from-requires
range_from-requires c = λ _.
    let lt : c.line_end-end.result < length c.args.text.now = omega
    (arith, ap length c.as_bytes.ensures.value, c.line_end-end.ensures.within, c.if-end-text.false) in
    let feed = rw c.as_bytes.ensures.value at (c.line_end-end.ensures.there (omega (arith, ap length c.as_bytes.ensures.value))) in
    IsCharBoundary-after_ascii c.args.text.now c.line_end-end.result c.utf8.text lt (omega (arith, feed))

pub returns-then-is_empty-clause-lines : goal.returns-then-is_empty-clause-lines
returns-then-is_empty-clause-lines c = ap lines (nil_of c.args.text.now
    (eqb-true (length c.args.text.now) 0 (sym c.is_empty.ensures ∙ c.if-is_empty.true))) ∙ no_lines

pub returns-then-end-text-clause-lines : goal.returns-then-end-text-clause-lines
returns-then-end-text-clause-lines c = lines_whole c.args.text.now c.as_bytes.result.now c.line_end-end.result c.as_bytes.ensures.value
    c.line_end-end.ensures.at c.if-end-text.true (omega (arith, eqb-false (length c.args.text.now) 0 (sym c.is_empty.ensures ∙ c.if-is_empty.false)))

pub returns-clause-lines : goal.returns-clause-lines
returns-clause-lines c = lines_first c.args.text.now c.as_bytes.result.now c.range.result.now c.without_return.result.now c.range_from.result.now
    c.line_end-end.result c.as_bytes.ensures.value c.line_end-end.ensures.at
    (omega (arith, ap length c.as_bytes.ensures.value, c.line_end-end.ensures.within, c.if-end-text.false)) c.range.ensures.value
    c.without_return.ensures c.range_from.ensures.value
