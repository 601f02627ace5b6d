use Rattle.std.proofs.Common.{◌≡◌, length, drop}
use Rattle.x10_model.specs.Structure.{bounds_of, bounds_from}
use Rattle.x10_bounds.proofs.functions.bounds.Given as goal

abbrev pub invariant-loop-f : goal.invariant-loop-f
invariant-loop-f l = (bounds_of l.image ≡ bounds_from l.bounds.items (drop l.f l.image.functions)) × (length l.bounds.items ≡ l.f)
