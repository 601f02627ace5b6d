-- What is true of what is shown, however it is written.
use Rattle.std.specs.Prelude.{◌≡◌, ℕ, List, Option, Some, slice_index}
use Rattle.x10_kinds.specs.declared.kind.Kind.{Kind}
use Rattle.x10_model.specs.Modules.{Module}
use Rattle.x10_model.specs.Places as machine
use Rattle.x10_model.specs.Values.{Value}
use Rattle.x10_heap.specs.Heaps.{HeapState}
use Rattle.x10_heap.specs.Words.{Context, IsWordOf}
use Rattle.x10_place.specs.declared.call_frame.CallFrame.{CallFrame}
use Rattle.x10_place.specs.StandsFor.{Assigned, StandsForFrame}
use Rattle.x10_verify.specs.Flows.{FlowFacts}
use Rattle.x10_states.specs.Kinds.{AreLeast, known_kind}
use Rattle.x10_states.specs.Values.{value_text, word_text}

-- a word that stands for a value of the machine is shown as that value
abbrev pub WordsAreShownAsValues : Type 0
WordsAreShownAsValues = (x : Context) (kind : Kind) (word : ℕ) (v : Value) → IsWordOf x kind word v
    → word_text x.heap kind word ≡ value_text v

-- a register of the machine holds a value, and the word is shown as that value
abbrev pub IsShownAsHeld : HeapState → Kind → (word : ℕ) → Option Value → Type 0
IsShownAsHeld heap kind word register = (v : Value) × (register ≡ Some v)
    × (word_text heap kind word ≡ value_text v)

-- in a call frame that stands for one of the machine each register that is known to be set is shown as the value that the
-- machine's register holds
abbrev pub RegistersAreShownAsHeld : Type 0
RegistersAreShownAsHeld = (program : Module) (flows : List FlowFacts) (assigned : Assigned program)
    (x : Context) (f : CallFrame) (c : machine.CallFrame) (register : ℕ) (kind : Kind)
    → AreLeast program flows → StandsForFrame program assigned x f c
    → known_kind flows f.function f.pc register ≡ Some kind
    → IsShownAsHeld x.heap kind (slice_index f.registers.items register) (c.registers register)
