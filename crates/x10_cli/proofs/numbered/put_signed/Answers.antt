use Rattle.std.proofs.Common.{drop, take, ◌≡◌, ◌+◌, ◌-◌, ◌++◌, arith, rules, to_z-of_z, ap, ◌∙◌, sym, decimal}
use Rattle.std.proofs.lemmas.Fmt.{length-decimal-le}
use Rattle.std.proofs.lemmas.List.{drop-set, drop-set-lt, take-set-le, take-take}
use Rattle.itoa.proofs.Decimal.{minus_first}
use Rattle.x10_cli.proofs.LineParts.{drop_behind}
use Rattle.x10_cli.proofs.numbered.put_signed.Goals as goal

pub write_digits-start-requires : goal.write_digits-start-requires
write_digits-start-requires c = (omega (arith, length-decimal-le 19 c.unsigned_abs.result (omega arith) (omega arith) (omega arith)), search rules)

pub returns-then-number-ge0-clause-room : goal.returns-then-number-ge0-clause-room
returns-then-number-ge0-clause-room c = omega (arith, length-decimal-le 19 c.unsigned_abs.result (omega arith) (omega arith) (omega arith))

pub returns-then-number-ge0-clause-kept : goal.returns-then-number-ge0-clause-kept
returns-then-number-ge0-clause-kept c = drop_behind c.write_digits-start.new.buf (decimal c.unsigned_abs.result) (drop 42 c.args.line.now)
    c.write_digits-start.result 42 c.write_digits-start.ensures.start c.write_digits-start.ensures.written

pub overflow_sub-line : goal.overflow_sub-line
overflow_sub-line c = omega (arith, length-decimal-le 19 c.unsigned_abs.result (omega arith) (omega arith) (omega arith))

pub overflow_sub-result : goal.overflow_sub-result
overflow_sub-result c = omega (arith, length-decimal-le 19 c.unsigned_abs.result (omega arith) (omega arith) (omega arith))

pub returns-clause-room : goal.returns-clause-room
returns-clause-room c = omega (arith, length-decimal-le 19 c.unsigned_abs.result (omega arith) (omega arith) (omega arith))

pub returns-clause-digits : goal.returns-clause-digits
returns-clause-digits c =
    let w = c.write_digits-start in
    let long = length-decimal-le 19 c.unsigned_abs.result (omega arith) (omega arith) (omega arith) in
    let e : w.result - 1 + 1 ≡ w.result = omega arith in
    let back = to_z-of_z c.ranges.number in
    rw (drop-set w.new.buf (w.result - 1) 45 (omega arith), e, w.ensures.written, c.unsigned_abs.ensures.value, back)
    (ap (λ xs. xs ++ drop 42 c.args.line.now) (minus_first c.args.number (rw back at c.if-number-ge0.false)))

pub returns-clause-before : goal.returns-clause-before
returns-clause-before c =
    let w = c.write_digits-start in
    take-set-le (w.result - 1) w.new.buf (w.result - 1) 45 (omega arith)
    ∙ sym (take-take (w.result - 1) w.result w.new.buf (omega arith))
    ∙ ap (take (w.result - 1)) w.ensures.before
    ∙ take-take (w.result - 1) w.result c.args.line.now (omega arith)

pub returns-clause-kept : goal.returns-clause-kept
returns-clause-kept c =
    let w = c.write_digits-start in
    let long = length-decimal-le 19 c.unsigned_abs.result (omega arith) (omega arith) (omega arith) in
    drop-set-lt 42 w.new.buf (w.result - 1) 45 (omega arith)
    ∙ drop_behind w.new.buf (decimal c.unsigned_abs.result) (drop 42 c.args.line.now) w.result 42 w.ensures.start w.ensures.written
