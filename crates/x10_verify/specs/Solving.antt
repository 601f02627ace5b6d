-- The states so far of one function, as its instructions are looked at.
use Rattle.std.specs.Prelude.{◌≡◌, ℕ, ◌+◌, ◌<◌, ◌≤◌, ◌⊎◌, Bool, true, false, List, length, Option, Some, None, Result, Ok, Err, slice_get}
use Rattle.x10_code.specs.declared.instr.Instr.{Instr}
use Rattle.x10_code.specs.Table.{form_of}
use Rattle.x10_model.specs.Maps.{IsIn}
use Rattle.x10_model.specs.Modules.{Module, Function}
use Rattle.x10_model.specs.Ranges.{function_at}
use Rattle.x10_model.specs.Structure.{is_target}
use Rattle.x10_model.specs.Assignments.{State, IsState, Edges, Permits, Reaches, HasAssignment, entry_state}
use Rattle.x10_verify.specs.declared.fault.FlowCause.{FlowCause}
use Rattle.x10_verify.specs.declared.fault.FlowCause.TheVariants.{Unset}
use Rattle.x10_verify.specs.declared.known.Known.{Known}
use Rattle.x10_verify.specs.declared.states.Entry.{Entry}
use Rattle.x10_code.specs.declared.rule.Effect.{Effect}
use Rattle.x10_verify.specs.Knowledge.{LeastAt, SameState, point}
use Rattle.x10_verify.specs.Known.{state_of}
use Rattle.x10_verify.specs.Effects.{IsKept, IsNarrow}
use Rattle.x10_code.specs.Rules.{goes_on_of, rule_for}
use Rattle.x10_model.specs.Assignments.{after}
use Rattle.x10_verify.specs.Causes.{IsCauseAt, IsFound}
use Rattle.x10_verify.specs.States.{Arrives, Receives, stated, waits}

-- the rule of instruction q holds in a state, and what follows knows no more than it is given
abbrev pub Holds : Module → Function → (ℕ → Option State) → ℕ → State → Type 0
Holds program function states q s = (instr : Instr) × (out : Edges)
    × (slice_get function.code q ≡ Some instr)
    × Permits instr.op (point program function q instr) s out
    × ((edge : ℕ × State) → IsIn edge out → Reaches states edge)

-- Sound: each state is one, and the rule of each that doesn't wait holds. Least: every consistent assignment has a state
-- there that knows no more. Nothing before `at` waits.
pub record Solves (program : Module) (function : Function) (at : ℕ)
    (table : List Entry) : Type 0 where
  pub inside : (q : ℕ) → length function.code ≤ q → stated table q ≡ None
  pub entry : Reaches (stated table) (0, entry_state function)
  pub kept : (q : ℕ) (s : State) → stated table q ≡ Some s → IsKept s
  pub settled : (q : ℕ) (s : State) → stated table q ≡ Some s → waits table q ≡ false
      → Holds program function (stated table) q s
  pub least : (q : ℕ) (s : State) → stated table q ≡ Some s → LeastAt program function q s
  pub behind : (q : ℕ) → q < at → waits table q ≡ false

-- none waits any more
abbrev pub IsSolved : Module → Function → List Entry → Type 0
IsSolved program function table = (at : ℕ) × (length function.code ≤ at)
    × Solves program function at table

-- the instruction leads to none; where the structure holds and all that is named is there, none does
abbrev pub LeadsOut : Function → ℕ → Instr → FlowCause → Type 0
LeadsOut function pc instr why = (why ≡ Unset)
    × (((is_target (form_of instr.op).x ≡ true) × (length function.code ≤ instr.x))
    ⊎ ((goes_on_of instr.op ≡ true) × (length function.code ≤ pc + 1)))

-- the flow stops at an instruction: a cause is found there, or the instruction leads to none
abbrev pub Stops : Module → Function → ℕ → FlowCause → Type 0
Stops program function pc why = IsFound program function pc why
    ⊎ ((instr : Instr) × (slice_get function.code pc ≡ Some instr) × LeadsOut function pc instr why)

-- the same of function f
abbrev pub StopsIn : Module → ℕ → ℕ → FlowCause → Type 0
StopsIn m f pc why = (function : Function) × (function_at m f ≡ Some function)
    × Stops m function pc why

-- the cause holds in the state that the table has there, or the instruction leads to none
abbrev pub StopsAt : Module → Function → ℕ → FlowCause → List Entry → Type 0
StopsAt program function pc why table = ((instr : Instr) × (s : State)
    × (slice_get function.code pc ≡ Some instr) × (stated table pc ≡ Some s)
    × IsCauseAt (rule_for instr.op instr) (point program function pc instr) s why)
    ⊎ ((instr : Instr) × (slice_get function.code pc ≡ Some instr)
    × LeadsOut function pc instr why)

-- each state is one that every consistent assignment has at least, and follows from the entry
abbrev pub AreLeast : Module → Function → List Entry → Type 0
AreLeast program function table = (q : ℕ) (s : State) → stated table q ≡ Some s
    → LeastAt program function q s

-- what the table shows where the flow stops
pub record Shows (program : Module) (function : Function) (pc : ℕ) (why : FlowCause)
    (table : List Entry) : Type 0 where
  pub least : AreLeast program function table
  pub stops : StopsAt program function pc why table

-- one waiting instruction more: the states so far and where to go on, or no consistent assignment, and why
abbrev pub SolvesOneMore : Module → Function → ℕ → List Entry → Result ℕ FlowCause → List Entry
    → Type 0
SolvesOneMore program function at old (Ok next) new = Solves program function at old
    → Solves program function next new
SolvesOneMore program function at old (Err cause) new = Solves program function at old
    → (HasAssignment program function → ⊥) × Stops program function at cause
    × Shows program function at cause new

-- what became of the jump to x: its state has changed, and is to be looked at next where it is no later instruction
abbrev pub JumpsIf : Bool → Instr → ℕ → ℕ → Known → List Entry → ℕ → List Entry → Type 0
JumpsIf true i at len known old next new = (changed : Bool) × (i.x < len)
    × Arrives old i.x known new changed
    × (((changed ≡ true) × (i.x ≤ at) × (next ≡ i.x))
    ⊎ ((changed ≡ true → at < i.x) × (next ≡ at + 1)))
JumpsIf false i at len known old next new = (next ≡ at + 1) × (new ≡ old)

abbrev pub Jumps : Instr → ℕ → ℕ → Known → List Entry → Result ℕ FlowCause → List Entry → Type 0
Jumps i at len known old (Ok next) new =
    JumpsIf (is_target (form_of i.op).x) i at len known old next new
Jumps i at len known old (Err cause) new = (is_target (form_of i.op).x ≡ true) × (len ≤ i.x)
    × (cause ≡ Unset) × (new ≡ old)

-- an entry has received a state with an effect
abbrev pub ReceivesAfter : Known → ℕ → Effect → Entry → Entry → Type 0
ReceivesAfter known register effect old new = (changed : Bool) × (t : Known) × IsNarrow (state_of t)
    × (IsState (state_of known) → SameState (state_of t) (after register (state_of known) effect))
    × Receives old t new changed

-- the entry after one has received its state with an effect
abbrev pub Advances : ℕ → ℕ → Effect → Known → List Entry → List Entry → Type 0
Advances at register effect known old new = (changed : Bool) × (t : Known) × IsNarrow (state_of t)
    × (IsState (state_of known) → SameState (state_of t) (after register (state_of known) effect))
    × Arrives old (at + 1) t new changed

-- what became of the next instruction
abbrev pub GoesOnIf : Bool → Instr → ℕ → ℕ → Effect → Known → List Entry → List Entry → Type 0
GoesOnIf true i at len effect known old new = (changed : Bool) × (t : Known) × (at + 1 < len)
    × IsNarrow (state_of t)
    × (IsState (state_of known) → SameState (state_of t) (after i.a (state_of known) effect))
    × Arrives old (at + 1) t new changed
GoesOnIf false i at len effect known old new = new ≡ old

abbrev pub GoesOn : Instr → ℕ → ℕ → Effect → Known → List Entry → Result Unit FlowCause → List Entry
    → Type 0
GoesOn i at len effect known old (Ok done) new =
    GoesOnIf (goes_on_of i.op) i at len effect known old new
GoesOn i at len effect known old (Err cause) new = (goes_on_of i.op ≡ true) × (len ≤ at + 1)
    × (cause ≡ Unset) × (new ≡ old)
