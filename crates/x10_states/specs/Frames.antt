-- Call frames as text.
use Rattle.std.specs.Prelude.{ℕ, List, [], ◌++◌, Option, Some, None, length, slice_index, codes, decimal}
use Rattle.x10_kinds.specs.declared.kind.Kind.{Kind}
use Rattle.x10_asm.specs.Listing.{kind_word}
use Rattle.x10_heap.specs.Heaps.{HeapState}
use Rattle.x10_place.specs.declared.call_frame.CallFrame.{CallFrame}
use Rattle.x10_verify.specs.Flows.{FlowFacts}
use Rattle.x10_states.specs.Json.{array, json}
use Rattle.x10_states.specs.Kinds.{known_kind, known_registers}
use Rattle.x10_states.specs.Objects.{numbers_text}
use Rattle.x10_states.specs.Values.{word_text}

-- a register that is set: its number, its kind and its value
abbrev pub register_text : HeapState → (register : ℕ) → Option Kind → (word : ℕ) → List ℕ
register_text heap r None w = []
register_text heap r (Some k) w = codes "[" ++ (decimal r ++ (codes ",\"" ++ (kind_word k
    ++ (codes "\"," ++ (json (word_text heap k w) ++ codes "]")))))

-- those of the registers that are known to be set, by their words
unfoldable pub registers_text : HeapState → (known : ℕ → Option Kind) → (registers words : List ℕ)
    → List ℕ
registers_text heap known registers words = array (length registers)
    (λ i. register_text heap (slice_index registers i) (known (slice_index registers i))
    (slice_index words (slice_index registers i)))

-- where a call frame stands: its function, and the instruction there
unfoldable pub site_text : (function pc : ℕ) → List ℕ
site_text function pc = codes "{\"function\":" ++ (decimal function ++ (codes ",\"pc\":"
    ++ decimal pc))

-- the registers that are known to be set where a call frame stands
unfoldable pub known_text : List FlowFacts → HeapState → CallFrame → List ℕ
known_text flows heap f = codes ",\"registers\":"
    ++ registers_text heap (known_kind flows f.function f.pc)
    (known_registers (known_kind flows f.function f.pc)) f.registers.items

-- how many turns the loop of each slot still makes
unfoldable pub loops_text : List ℕ → List ℕ
loops_text loops = codes ",\"loops\":" ++ (numbers_text loops ++ codes "}")

-- A call frame: its function and where it stands there, the registers that are known to be set there, and how many turns the
-- loop of each slot still makes.
unfoldable pub frame_text : List FlowFacts → HeapState → CallFrame → List ℕ
frame_text flows heap f = site_text f.function f.pc
    ++ (known_text flows heap f ++ loops_text f.loops)
