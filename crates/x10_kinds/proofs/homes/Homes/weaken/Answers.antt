use Rattle.x10_kinds.specs.declared.homes.Homes.{Homes}
use Rattle.x10_kinds.specs.Equations.{equations}
use Rattle.x10_kinds.specs.Ranks.{rank}
use Rattle.x10_kinds.proofs.Ranks.{met-falls}
use Rattle.x10_kinds.proofs.Terms.{index_of-below, known_of_numbers}
use Rattle.x10_kinds.proofs.homes.Homes.weaken.Goals as goal

pub returns-clause-met : goal.returns-clause-met
unfolding equations
returns-clause-met c = λ v w v_term w_term. c.weaken.ensures.met _ _ (index_of-below v v_term) (index_of-below w w_term)

pub returns-clause-fewer : goal.returns-clause-fewer
unfolding equations rank
returns-clause-fewer c = λ e.
    let new : Homes = record { labels = c.weaken.new.labels; canonical = c.weaken.ensures.canonical } in
    met-falls c.args.self.now c.args.other.now new (λ v w v_term w_term. c.weaken.ensures.met _ _ (index_of-below v v_term) (index_of-below w w_term))
    (λ all. c.weaken.ensures.lacking e (known_of_numbers c.args.other.now.labels c.args.self.now.labels all))
