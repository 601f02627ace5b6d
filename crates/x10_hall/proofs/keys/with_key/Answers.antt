use Rattle.std.proofs.Common.{◌≡◌, ◌++◌, length, replicate, sym, ap, subst, ◌∙◌, arith}
use Rattle.std.specs.Prelude.{IfOk}
use Rattle.std.proofs.lemmas.List.{replicate-append-replicate}
use Rattle.x10_hall.specs.KeyLists.{in_rounds, keys_in}
use Rattle.x10_hall.specs.declared.keys.Form.{Form}
use Rattle.x10_hall.proofs.KeyRounds.{whole, long}
use Rattle.x10_hall.proofs.keys.with_key.Goals as goal

pub listed-requires-in-Round : goal.listed-requires-in-Round
listed-requires-in-Round c = omega (
  arith,
  c.requires,
  ap (λ (f : Form). length (keys_in f)) c.in-Round.is,
  long c.in-Round.list.items c.in-Round.before,
  c.len.ensures,
  c.if-before-len.true,
)

pub returns-in-Same : goal.returns-in-Same
returns-in-Same c =
    sym (replicate-append-replicate c.in-Same.before c.args.count c.args.key)
    ∙ ap (λ k. replicate c.in-Same.before k ++ replicate c.args.count c.args.key) (sym c.if-same-key.true)
    ∙ ap (λ (f : Form). keys_in f ++ replicate c.args.count c.args.key) (sym c.in-Same.is)

pub returns-in-Round : goal.returns-in-Round
returns-in-Round c =
    let list = c.in-Round.list.items in
    let all : c.in-Round.before ≡ length list = omega (arith, c.if-before-len.true, c.len.ensures, c.in-Round.list.ok) in
    let same : list ≡ keys_in c.args.form = whole list ∙ ap (in_rounds list) (sym all) ∙ sym (ap keys_in c.in-Round.is) in
    subst (λ ks. IfOk c.listed-in-Round.result (λ made. keys_in made ≡ ks ++ replicate c.args.count c.args.key)) same c.listed-in-Round.ensures
