-- Answers that name an effect, and effects that keep what is known of places right.
use Rattle.std.specs.Prelude.{◌≡◌, ℕ, ◌<◌, ◌⊎◌, Option, Some, None, true, Result, Ok, Err}
use Rattle.x10_kinds.specs.declared.kind.Kind.{Kind}
use Rattle.x10_kinds.specs.declared.homes.Term.{Term}
use Rattle.x10_kinds.specs.declared.homes.Term.TheVariants as term
use Rattle.x10_kinds.specs.Kinds.{Fits, has_place}
use Rattle.x10_kinds.specs.Equations.{IsTerm}
use Rattle.x10_model.specs.Assignments.{State, IsState, holds_place}
use Rattle.x10_verify.specs.declared.fault.FlowCause.{FlowCause}
use Rattle.x10_code.specs.declared.rule.Effect.{Effect}
use Rattle.x10_code.specs.declared.rule.Effect.TheVariants.{Keeps, Sets, Joins}
use Rattle.x10_code.specs.declared.rule.Outcome.{Outcome}
use Rattle.x10_code.specs.declared.rule.Outcome.TheVariants.{Fixed}

-- an answer is an effect for which the property holds, or there is none
abbrev pub Decides : (Effect → Type 0) → Result Effect FlowCause → Type 0
Decides P (Ok e) = P e
Decides P (Err cause) = (e : Effect) → P e → ⊥

-- only the 64 registers that there may be are set
abbrev pub IsNarrow : State → Type 0
IsNarrow s = (r : ℕ) (k : Kind) → s.kinds r ≡ Some k → r < 64

-- a state as the verifier keeps it
pub record IsKept (s : State) : Type 0 where
  pub state : IsState s
  pub narrow : IsNarrow s

-- here, a place that there may be, or a register that holds a place or a reference with a home
abbrev pub StandsFor : State → Term → Type 0
StandsFor s term.Here = Unit {0}
StandsFor s (term.Place p) = p < 64
StandsFor s (term.Reg r) = (r < 64) × (holds_place (s.kinds r) ≡ true)

-- only what stands for a place is said to be one
abbrev pub IsSoundIn : State → Effect → Type 0
IsSoundIn s Keeps = Unit {0}
IsSoundIn s (Sets k None) = Unit {0}
IsSoundIn s (Sets k (Some t)) = (has_place k ≡ true) × StandsFor s t
IsSoundIn s (Joins t u) = StandsFor s t × StandsFor s u

-- the effects that an operation has by itself
abbrev pub IsSoundFixed : Effect → Type 0
IsSoundFixed Keeps = Unit {0}
IsSoundFixed (Sets k None) = Unit {0}
IsSoundFixed (Sets k (Some term.Here)) = has_place k ≡ true
IsSoundFixed (Sets k (Some (term.Place p))) = (has_place k ≡ true) × (p < 64)
IsSoundFixed (Sets k (Some (term.Reg r))) = ⊥
IsSoundFixed (Joins t u) = ⊥

abbrev pub IsSoundOutcome : Outcome → Type 0
IsSoundOutcome (Fixed e) = IsSoundFixed e
IsSoundOutcome _ = Unit {0}

-- the first effect leaves all that the second does: they are the same, or set a kind that fits
abbrev pub Leaves : Effect → Effect → Type 0
Leaves e f = (e ≡ f) ⊎ ((k : Kind) × (l : Kind) × (like : Option Term) × Fits k l
    × (e ≡ Sets k like) × (f ≡ Sets l like))

-- what an effect writes is there
abbrev pub IsTermLike : Option Term → Type 0
IsTermLike None = Unit {0}
IsTermLike (Some t) = IsTerm t

abbrev pub CanApply : ℕ → Effect → Type 0
CanApply a Keeps = Unit {0}
CanApply a (Sets k like) = (a < 64) × IsTermLike like
CanApply a (Joins t u) = IsTerm t × IsTerm u
