use Rattle.std.proofs.Common.{◌≡◌, ◌++◌, OnOk, List, ℕ, sym, subst, arith}
use Rattle.std.specs.String.{string_bytes}
use Rattle.std.proofs.lemmas.Fmt.{decimal_digit}
use Rattle.x10_asm.proofs.Decimals.{two_digits}
use Rattle.x10_asm.proofs.words.push_decimal.Goals as goal

pub returns-then-number-lt10 : goal.returns-then-number-lt10
returns-then-number-lt10 c =
    subst (λ (ds : List ℕ). OnOk c.push_digit.result (string_bytes c.push_digit.new.out ≡ string_bytes c.args.out.now ++ ds))
    (sym (decimal_digit c.args.number c.if-number-lt10.true)) c.push_digit.ensures

pub returns-then-number-lt100 : goal.returns-then-number-lt100
returns-then-number-lt100 c =
    subst (λ (bs : List ℕ). OnOk c.push_digit-then-number-lt100-2.result (string_bytes c.push_digit-then-number-lt100-2.new.out ≡ bs))
    (two_digits (string_bytes c.args.out.now) (string_bytes c.push_digit-then-number-lt100.new.out) c.args.number
    (omega (arith, c.if-number-lt10.false)) c.if-number-lt100.true c.in_ok-push_digit.ensures)
    c.push_digit-then-number-lt100-2.ensures
