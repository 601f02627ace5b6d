-- The modules that the verifier accepts.
use Rattle.std.specs.Prelude.{◌≡◌, ℕ, List, Ok, Some}
use Rattle.x10_model.specs.Modules.{Module, Function}
use Rattle.x10_model.specs.Ranges.{function_at}
use Rattle.x10_model.specs.Structure.{bounds_of}
use Rattle.x10_model.specs.Assignments.{AreInRange, HasAssignment}

-- The structure holds and the bounds are these, what is named is there, and each function has a consistent assignment.
pub record IsVerified (program : Module) (bounds : List ℕ) : Type 0 where
  pub bounds_are : bounds_of program ≡ Ok bounds
  pub in_range : AreInRange program
  pub assignments : (f : ℕ) (function : Function) → function_at program f ≡ Some function
      → HasAssignment program function
