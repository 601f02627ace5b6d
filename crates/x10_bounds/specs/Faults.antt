-- What a function of the program answers, beside what the rules of structure say of a module.
use Rattle.std.specs.Prelude.{◌≡◌, ℕ, List, [], Option, Some, None, Result, Ok, Err}
use Rattle.x10_code.specs.declared.instr.Instr.{Instr}
use Rattle.x10_model.specs.Modules.{Function}
use Rattle.x10_model.specs.Structure.{Nesting, Jump, LoopSlot, CallOrder, InAtomic, TooLarge, unless, nesting_fault, jump_fault, slot_fault, order_fault, atomic_fault}
use Rattle.x10_model.specs.Structure as structure
use Rattle.x10_bounds.specs.declared.fault.BoundFault.{BoundFault}
use Rattle.x10_bounds.specs.declared.fault.BoundCause.{BoundCause}
use Rattle.x10_bounds.specs.declared.fault.BoundCause.TheVariants as cause

-- the rule that a cause names
abbrev pub named : BoundCause → Option structure.BoundCause
named cause.Nesting = Some Nesting
named cause.Jump = Some Jump
named cause.LoopSlot = Some LoopSlot
named cause.CallOrder = Some CallOrder
named cause.Atomic = Some InAtomic
named cause.TooLarge = Some TooLarge
named cause.Memory = None

-- the fault of a rule, or that memory ran out
abbrev pub IsFaultOrMemory : {Y : Type 0} → Option structure.BoundCause → BoundFault
    → Result Y structure.BoundFault → Type 0
IsFaultOrMemory None e read = (e.function ≡ 0) × (e.pc ≡ 0)
IsFaultOrMemory (Some cause) e read = read
    ≡ Err (record { cause = cause; function = e.function; pc = e.pc })

-- what was answered, seen by view, is what the rules give, unless memory ran out
abbrev pub Gives : {X Y : Type 0} → (X → Y) → Result X BoundFault → Result Y structure.BoundFault
    → Type 0
Gives view (Ok x) read = read ≡ Ok (view x)
Gives view (Err e) read = IsFaultOrMemory (named e.cause) e read

-- a function of which only the loop slots and the code matter
abbrev pub of_code : ℕ → List Instr → Function
of_code loops code = record {
  parameters = [];
  registers = 0;
  loops = loops;
  result = None;
  code = code;
}

-- what is answered of a function whose rules hold, else its first fault by rules
abbrev pub ruled : ℕ → ℕ → List Instr → Result ℕ structure.BoundFault
    → Result ℕ structure.BoundFault
ruled function loops code answer =
    unless (nesting_fault code) Nesting function
    (unless (jump_fault code) Jump function
    (unless (slot_fault loops code) LoopSlot function
    (unless (order_fault function code) CallOrder function
    (unless (atomic_fault code) InAtomic function answer))))
