use Rattle.std.proofs.Common.{List, ℕ, ◌≡◌, length, sym, ap, ◌∙◌, arith}
use Rattle.x10_hall.specs.KeyLists.{in_rounds, keys_in}
use Rattle.x10_hall.proofs.KeyRounds.{whole}
use Rattle.x10_hall.proofs.keys.folded_form.Goals as goal

pub returns-in_ok-round-in-Round : goal.returns-in_ok-round-in-Round
returns-in_ok-round-in-Round c =
    let list = c.in-Round.list.items in
    let all : c.in-Round.count ≡ length list = omega (arith, c.if-count-len.true, c.len.ensures, c.in-Round.list.ok) in
    ap (λ (ks : List ℕ). in_rounds ks c.in-Round.count) c.in_ok-round-in-Round.ensures.items
    ∙ ap (in_rounds c.round_of.result.now) all
    ∙ sym (rw c.deref.ensures.value at c.round_of.ensures)
    ∙ whole list ∙ ap (in_rounds list) (sym all) ∙ sym (ap keys_in c.in-Round.is)
