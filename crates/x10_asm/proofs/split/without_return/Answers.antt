use Rattle.std.proofs.Common.{sym, ◌∙◌, ap, length}
use Rattle.std.proofs.lemmas.Bool.{eqb-true, eqb-false}
use Rattle.x10_asm.proofs.LinesAndWords.{return_is, no_return, empty_line}
use Rattle.x10_asm.proofs.split.without_return.Goals as goal
use Rattle.x10_asm.proofs.split.without_return.Goals.{else-not-is_empty-via-then-not-is_empty+else-bytes-eq13, else-not-is_empty-via-else-not-is_empty}

pub returns-then-bytes-eq13 : goal.returns-then-bytes-eq13
returns-then-bytes-eq13 c = return_is c.args.line.now c.as_bytes-bytes.result.now c.range.result.now c.as_bytes-bytes.ensures.value
    (eqb-false (length c.as_bytes-bytes.result.now) 0 (sym c.is_empty.ensures ∙ c.if-not-is_empty.true)) c.if-bytes-eq13.true c.range.ensures.value

pub returns-else-not-is_empty : goal.returns-else-not-is_empty
returns-else-not-is_empty c = elim c.else-not-is_empty.branch [
  | else-not-is_empty-via-then-not-is_empty+else-bytes-eq13 w ↦ no_return c.args.line.now c.as_bytes-bytes.result.now c.as_bytes-bytes.ensures.value
      (eqb-false (length c.as_bytes-bytes.result.now) 0 (sym c.is_empty.ensures ∙ w.if-not-is_empty.true)) w.if-bytes-eq13.false
  | else-not-is_empty-via-else-not-is_empty w ↦ sym (empty_line c.args.line.now
      (ap length (sym c.as_bytes-bytes.ensures.value) ∙ eqb-true (length c.as_bytes-bytes.result.now) 0
      (sym c.is_empty.ensures ∙ w.if-not-is_empty.false)))
]
