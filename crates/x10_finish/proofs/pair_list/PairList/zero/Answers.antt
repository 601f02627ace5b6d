use Rattle.std.proofs.Common.{rules, ◌≡◌, ℕ, length, replicate, ◌∙◌, ap, arith}
use Rattle.x10_finish.specs.Pairs.{no_pair}
use Rattle.x10_finish.proofs.PairLists.{all_none}
use Rattle.x10_finish.proofs.pair_list.PairList.zero.Goals as goal

pub returns-in-Some-clause-ok : goal.returns-in-Some-clause-ok
returns-in-Some-clause-ok c =
    let same : length c.self.inside.items.items ≡ c.args.size = search rules in
    all_none c.self.inside.round c.in-Some.round c.self.inside.items.items (omega arith) c.self.invariant ∙ ap (λ (n : ℕ). replicate n no_pair) same
