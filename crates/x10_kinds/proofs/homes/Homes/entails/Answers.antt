use Rattle.x10_kinds.specs.Equations.{equations}
use Rattle.x10_kinds.proofs.Terms.{index_of-below, known_of_numbers}
use Rattle.x10_kinds.proofs.homes.Homes.entails.Goals as goal

pub returns : goal.returns
unfolding equations
returns c = (
  λ all v w v_term w_term. c.contains.ensures.0 all _ _ (index_of-below v v_term) (index_of-below w w_term),
  λ all. c.contains.ensures.1 (known_of_numbers c.args.self.now.labels c.args.other.now.labels all),
)
