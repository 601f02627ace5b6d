use Rattle.std.proofs.Common.{◌≡◌, ◌+◌, ◌-◌, [], ◌∷◌, ◌++◌, decimal, drop, set, arith, length-set, length-append, rules, refl, sym, ◌∙◌, append_assoc}
use Rattle.std.proofs.lemmas.Fmt.{length-decimal-le}
use Rattle.std.proofs.lemmas.List.{set_comm, drop-set}
use Rattle.x10_cli.proofs.LineParts.{drop_behind}
use Rattle.x10_cli.proofs.numbered.put_front.Goals as goal

pub write_digits-requires : goal.write_digits-requires
write_digits-requires c = (omega (arith, length-decimal-le 20 c.args.place (omega arith) (omega arith) (omega arith)), search rules)

pub returns-clause-front : goal.returns-clause-front
returns-clause-front c =
    let at = c.args.end - 2 in
    let old = c.args.line.now in
    let e : at + 1 ≡ c.args.end - 1 = omega arith in
    let f : at + 1 + 1 ≡ c.args.end = omega arith in
    rw (
      c.write_digits.ensures.written,
      ← e,
      set_comm old at (at + 1) _ _ (λ x. omega arith),
      drop-set (set old (at + 1) 32) at _ (omega (arith, length-set old (at + 1) 32)),
      drop-set old (at + 1) _ (omega arith),
      f,
    )
    refl

pub returns-clause-kept : goal.returns-clause-kept
returns-clause-kept c =
    let w = c.write_digits in
    let front = decimal c.args.place ++ 58 ∷ 32 ∷ [] in
    let long = length-append (decimal c.args.place) (58 ∷ 32 ∷ []) in
    drop_behind w.new.buf front (drop c.args.end c.args.line.now) w.result c.args.end (let start = w.ensures.start in omega (arith, long, start))
    (returns-clause-front c ∙ sym (append_assoc (decimal c.args.place) (58 ∷ 32 ∷ []) (drop c.args.end c.args.line.now)))
