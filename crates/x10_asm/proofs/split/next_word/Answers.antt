use Rattle.std.proofs.Common.{◌<◌, sym, ◌∙◌, ap, length, arith}
use Rattle.std.proofs.lemmas.Bool.{eqb-true, eqb-false}
use Rattle.x10_asm.specs.Lines.{after_spaces}
use Rattle.x10_asm.proofs.LinesAndWords.{no_words, word_is, rest_is}
use Rattle.x10_asm.proofs.split.next_word.Goals as goal

pub returns-then-is_empty-clause-words : goal.returns-then-is_empty-clause-words
returns-then-is_empty-clause-words c =
    no_words c.args.line.now (ap length (sym c.after_spaces-line.ensures)
    ∙ eqb-true (length c.after_spaces-line.result.now) 0 (sym c.is_empty.ensures ∙ c.if-is_empty.true))

pub returns-clause-words : goal.returns-clause-words
returns-clause-words c =
    let some : 0 < length (after_spaces c.args.line.now) = omega (
      arith,
      ap length c.after_spaces-line.ensures,
      eqb-false (length c.after_spaces-line.result.now) 0
          (sym c.is_empty.ensures ∙ c.if-is_empty.false),
    ) in
    word_is c.args.line.now c.after_spaces-line.result.now c.as_bytes.result.now c.range.result.now c.range_from.result.now c.position_of-end.result
    c.after_spaces-line.ensures c.as_bytes.ensures.value c.position_of-end.ensures.at c.range.ensures.value c.range_from.ensures.value some

pub returns-clause-rest : goal.returns-clause-rest
returns-clause-rest c = rest_is c.args.line.now c.after_spaces-line.result.now c.as_bytes.result.now c.range_from.result.now c.position_of-end.result
    c.after_spaces-line.ensures c.as_bytes.ensures.value c.position_of-end.ensures.at c.range_from.ensures.value
