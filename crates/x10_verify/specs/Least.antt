-- What every consistent assignment of a function knows.
use Rattle.std.specs.Prelude.{◌≡◌, ℕ, Option, Some}
use Rattle.x10_model.specs.Modules.{Module, Function}
use Rattle.x10_model.specs.Assignments.{State, IsBelow, IsConsistent, HasAssignment}

-- the flow reaches an instruction: every consistent assignment has a state there
abbrev pub IsReached : Module → Function → ℕ → Type 0
IsReached program function pc = (a : HasAssignment program function)
    → (s : State) × (a.0 pc ≡ Some s)

-- the states are a consistent assignment, and where there is one every consistent assignment has one, which knows no more
pub record IsLeast (program : Module) (function : Function)
    (states : ℕ → Option State) : Type 0 where
  pub consistent : IsConsistent program function states
  pub below : (pc : ℕ) (s : State) → states pc ≡ Some s → (a : HasAssignment program function)
      → (t : State) × (a.0 pc ≡ Some t) × IsBelow s t

abbrev pub HasLeast : Module → Function → Type 0
HasLeast program function = (states : ℕ → Option State) × IsLeast program function states
