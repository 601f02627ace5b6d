-- What the verifier knows of the registers of all functions.
use Rattle.std.specs.Prelude.{◌≡◌, ℕ, zero, suc, List, [], ◌∷◌, ◌++◌, length, Option, Some, None, slice_get}
use Rattle.x10_kinds.specs.declared.kind.Kind.{Kind}
use Rattle.x10_model.specs.Modules.{Module, Function}
use Rattle.x10_model.specs.Ranges.{function_at}
use Rattle.x10_verify.specs.Flows.{FlowFacts, kind_of, states_of}
use Rattle.x10_verify.specs.Least.{IsLeast}

abbrev pub kind_by : Option FlowFacts → (pc register : ℕ) → Option Kind
kind_by None pc register = None
kind_by (Some flow) pc register = kind_of (states_of flow pc) register

-- the kind that a register is known to have before an instruction of a function, if it is known to be set
abbrev pub known_kind : List FlowFacts → (function pc register : ℕ) → Option Kind
known_kind flows function pc register = kind_by (slice_get flows function) pc register

abbrev pub if_known : Option Kind → ℕ → List ℕ
if_known None register = []
if_known (Some kind) register = register ∷ []

-- those of the first n registers of which the kind is known, by rising number
abbrev pub known_below : (ℕ → Option Kind) → ℕ → List ℕ
known_below known zero = []
known_below known (suc n) = known_below known n ++ if_known (known n) n

-- those of all registers that there can be
unfoldable pub known_registers : (ℕ → Option Kind) → List ℕ
known_registers known = known_below known 64

-- for each function its least consistent assignment
pub record AreLeast (program : Module) (flows : List FlowFacts) : Type 0 where
  pub length_is : length flows ≡ length program.functions
  pub least : (f : ℕ) (function : Function) (flow : FlowFacts)
      → function_at program f ≡ Some function → slice_get flows f ≡ Some flow
      → IsLeast program function (states_of flow)
