use Rattle.std.proofs.Common.{◌≡◌, ◌+◌, drop}
use Rattle.x10_model.specs.Structure.{bound_of, steps_from}
use Rattle.x10_bounds.specs.Spots.{capped}
use Rattle.x10_bounds.proofs.steps.bound_of.Given as goal

abbrev pub invariant-loop-pc : goal.invariant-loop-pc
invariant-loop-pc l = (capped (l.steps + steps_from l.earlier l.code l.pc (drop l.pc l.code)) ≡ capped (bound_of l.earlier l.code))
    × (l.steps ≡ capped l.steps)
