use Rattle.x10_kinds.specs.Equations.{equations}
use Rattle.std.proofs.Common.{◌≢◌, ◌∙◌, rules}
use Rattle.x10_kinds.specs.declared.homes.Term.TheVariants.{Reg}
use Rattle.x10_kinds.proofs.Terms.{rejoined}
use Rattle.x10_kinds.proofs.homes.Homes.follow.Goals as goal

pub returns : goal.returns
unfolding equations
returns c =
    let other : c.args.term ≢ Reg c.args.reg = search rules in
    λ v w v_term w_term. c.join.ensures v w v_term w_term
    ∙ rejoined c.args.self.now.labels _ c.args.reg c.args.term c.requires.register c.requires.term other c.leave.ensures v w v_term w_term
