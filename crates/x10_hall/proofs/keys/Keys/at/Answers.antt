use Rattle.std.proofs.Common.{◌≡◌, ◌<◌, ◌%◌, ℕ, List, length, get_or, sym, ap, ◌∙◌, arith}
use Rattle.std.specs.Prelude.{slice_index}
use Rattle.x10_hall.specs.KeyLists.{keys_in}
use Rattle.x10_hall.proofs.KeyRounds.{long, item}
use Rattle.x10_hall.proofs.keys.Keys.at.Goals as goal

pub returns-in-Round : goal.returns-in-Round
returns-in-Round c =
    let is = sym c.self.view_is ∙ ap keys_in c.in-Round.is in
    let lt : c.args.position < c.in-Round.field-1 = omega (
      arith,
      c.requires,
      ap (λ (ks : List ℕ). length ks) is,
      long c.in-Round.round.items c.in-Round.field-1,
    ) in
    let stored : c.deref.result.now ≡ c.in-Round.round.items = c.deref.ensures.value in
    c.in_round.ensures ∙ ap (λ ks. get_or ks (c.args.position % length ks) 0) stored
    ∙ sym (ap (λ (ks : List ℕ). slice_index ks c.args.position) is ∙ item c.in-Round.round.items c.in-Round.field-1 c.args.position 0 lt)
