use Rattle.std.proofs.Common.{◌+◌, ◌*◌, ◌∙◌, ℕ, sym, ap, length, arith}
use Rattle.std.proofs.lemmas.Bool.{eqb-false}
use Rattle.x10_asm.proofs.Numbers.{one_more_read, value_more, no_digit, too_great, all_read}
use Rattle.x10_asm.proofs.number.number_of.Goals as goal
use Rattle.x10_asm.proofs.number.number_of.Goals.{then-not-is_ascii_digit-via-then-not-is_ascii_digit, then-not-is_ascii_digit-via-else-not-is_ascii_digit+then-value}

pub returns-then-not-is_ascii_digit-clause-value : goal.returns-then-not-is_ascii_digit-clause-value
returns-then-not-is_ascii_digit-clause-value c =
    let lt = rw c.as_bytes-bytes.ensures.value at c.loop-at-test.true in
    elim c.then-not-is_ascii_digit.branch [
      | then-not-is_ascii_digit-via-then-not-is_ascii_digit w ↦
          let wrong = rw c.as_bytes-bytes.ensures.value at w.if-not-is_ascii_digit.ensures.cases in
          sym (no_digit c.args.word.now c.args.most c.loop-at.at lt (λ d. absurd (omega (arith, d, wrong))))
      | then-not-is_ascii_digit-via-else-not-is_ascii_digit+then-value w ↦
          let digit = rw c.as_bytes-bytes.ensures.value at w.if-not-is_ascii_digit.ensures.cases in
          sym (too_great c.args.word.now c.args.most (c.loop-at.at + 1)
          (omega (arith, value_more c.args.word.now c.args.most c.loop-at.at c.loop-at.value c.loop-at.invariant lt digit)))
    ]

pub returns-then-value-most-clause-value : goal.returns-then-value-most-clause-value
returns-then-value-most-clause-value c =
    let lt = rw c.as_bytes-bytes.ensures.value at c.loop-at-test.true in
    let digit = rw c.as_bytes-bytes.ensures.value at c.if-not-is_ascii_digit.ensures.cases in
    let add = rw c.as_bytes-bytes.ensures.value at c.from.ensures in
    sym (too_great c.args.word.now c.args.most (c.loop-at.at + 1)
    (omega (arith, add, value_more c.args.word.now c.args.most c.loop-at.at c.loop-at.value c.loop-at.invariant lt digit)))

pub loop-at-preserved : goal.loop-at-preserved
loop-at-preserved c =
    let lt = rw c.as_bytes-bytes.ensures.value at c.loop-at-test.true in
    let digit = rw c.as_bytes-bytes.ensures.value at c.if-not-is_ascii_digit.ensures.cases in
    let add = rw c.as_bytes-bytes.ensures.value at c.from.ensures in
    one_more_read c.args.word.now c.args.most c.loop-at.at c.loop-at.value _ c.loop-at.invariant lt digit
    (ap (λ (n : ℕ). 10 * c.loop-at.value + n) add) c.if-value-most.false

pub returns-clause-value : goal.returns-clause-value
returns-clause-value c =
    let empty = eqb-false (length c.as_bytes-bytes.result.now) 0 (sym c.is_empty.ensures ∙ c.if-is_empty.false) in
    sym (all_read c.args.word.now c.args.most c.loop-at.at c.loop-at.value c.loop-at.invariant
    (omega (arith, ap length c.as_bytes-bytes.ensures.value)) (λ e. empty (ap length c.as_bytes-bytes.ensures.value ∙ e)))
