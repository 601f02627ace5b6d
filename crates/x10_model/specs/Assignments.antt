-- What is known of the registers before an instruction, and when that is consistent over a whole function: the data-flow
-- scheme of Kildall without its algorithm.
use Rattle.std.specs.Prelude.{◌≡◌, ℕ, ◌+◌, ◌<◌, ◌⊎◌, Bool, true, false, IsTrue, List, [], ◌∷◌, ◌++◌, Option, Some, None, if◌then◌else◌, slice_get}
use Rattle.x10_kinds.specs.declared.kind.Kind.{Kind}
use Rattle.x10_kinds.specs.declared.kind.Kind.TheVariants.{Int, Place, Text, Obj, Opt, GRef}
use Rattle.x10_kinds.specs.declared.homes.Term.{Term}
use Rattle.x10_kinds.specs.declared.homes.Term.TheVariants as term
use Rattle.x10_kinds.specs.Kinds.{Fits, has_place}
use Rattle.x10_kinds.specs.Equations.{Equations, IsTerm, IsEquivalence, alone, joined, written}
use Rattle.x10_code.specs.declared.op.Op.{Op}
use Rattle.x10_code.specs.declared.instr.Instr.{Instr}
use Rattle.x10_code.specs.declared.rule.Effect.{Effect}
use Rattle.x10_code.specs.declared.rule.Effect.TheVariants.{Keeps, Sets, Joins}
use Rattle.x10_code.specs.declared.rule.Outcome.{Outcome}
use Rattle.x10_code.specs.declared.rule.Outcome.TheVariants.{Fixed, Copies, Calls, Returns, Makes, Gets, Puts, Unwraps}
use Rattle.x10_code.specs.declared.rule.Outcome.TheVariants.{Locates, Exports, Opens, FindsHere, FindsSame, Starts, Prints}
use Rattle.x10_code.specs.declared.rule.Rule.{Rule}
use Rattle.x10_code.specs.Table.{form_of}
use Rattle.x10_code.specs.Rules.{rule_for, goes_on_of}
use Rattle.x10_model.specs.Maps.{IsIn, with_entry}
use Rattle.x10_model.specs.Modules.{Module, Function}
use Rattle.x10_model.specs.declared.slot.Slot.{Slot}
use Rattle.x10_model.specs.Ranges.{function_at, IsInRange}
use Rattle.x10_model.specs.Structure.{is_target}

-- the kinds of registers, where they are known, and which places are known to be the same
pub record State : Type 0 where
  pub kinds : ℕ → Option Kind
  pub homes : Equations

abbrev pub holds_place : Option Kind → Bool
holds_place None = false
holds_place (Some kind) = has_place kind

-- the equations are an equivalence, and say nothing of a register that holds no place
pub record IsState (s : State) : Type 0 where
  pub equivalence : IsEquivalence s.homes
  pub alone : (r : ℕ) (t : Term) → r < 64 → holds_place (s.kinds r) ≡ false → IsTerm t
      → IsTrue (s.homes (term.Reg r) t) → t ≡ term.Reg r

-- the register is set to a kind that fits
abbrev pub IsKind : State → ℕ → Kind → Type 0
IsKind s r want = (have : Kind) × (s.kinds r ≡ Some have) × Fits have want

-- s knows all that t knows
pub record IsBelow (s t : State) : Type 0 where
  pub kinds : (r : ℕ) (want : Kind) → t.kinds r ≡ Some want → IsKind s r want
  pub homes : (v w : Term) → IsTerm v → IsTerm w → IsTrue (t.homes v w) → IsTrue (s.homes v w)

-- ---- the entry state

abbrev pub parameter_kind : Option Slot → Option Kind
parameter_kind None = None
parameter_kind (Some slot) = Some slot.kind

-- the parameters from register r on that are said to have their home here
abbrev pub homes_here : ℕ → List Slot → Equations
homes_here r [] = alone
homes_here r (slot ∷ slots) = if slot.home_here then joined (homes_here (r + 1) slots)
    (term.Reg r) term.Here else homes_here (r + 1) slots

abbrev pub entry_state : Function → State
entry_state f = record {
  kinds = λ r. parameter_kind (slice_get f.parameters r);
  homes = homes_here 0 f.parameters;
}

-- ---- rules

-- an instruction of a function of a module, with its number
pub record Point : Type 0 where
  pub program : Module
  pub function : Function
  pub pc : ℕ
  pub instr : Instr

-- the instructions that may follow, each with what is known there
abbrev pub Edges : Type 0
Edges = List (ℕ × State)

abbrev pub set : State → ℕ → Kind → Option Term → State
set s r kind like = record {
  kinds = with_entry s.kinds r (Some kind);
  homes = written s.homes r like;
}

-- ---- what a row asks

-- a register that a row asks for a kind is set to one that fits
abbrev pub IsKindIf : State → ℕ → Option Kind → Type 0
IsKindIf s r None = Unit {0}
IsKindIf s r (Some want) = IsKind s r want

-- the register holds a place, or a reference with a home
abbrev pub IsPlaced : State → ℕ → Type 0
IsPlaced s r = IsKind s r Place ⊎ ((class : ℕ) × IsKind s r (GRef class))

-- the registers from r on have the kinds, one by one
abbrev pub KindsAre : State → ℕ → List Kind → Type 0
KindsAre s r kinds = (n : ℕ) (want : Kind) → slice_get kinds n ≡ Some want → IsKind s (r + n) want

-- the register has the slot's kind, and its home is the place of a term where the slot asks for that
abbrev pub FitsAs : State → Term → ℕ → Slot → Type 0
FitsAs s at r slot = IsKind s r slot.kind
    × (IsTrue slot.home_here → IsTrue (s.homes (term.Reg r) at))

-- the registers from r on fit the slots, one by one
abbrev pub SlotsAre : State → Term → ℕ → List Slot → Type 0
SlotsAre s at r slots = (n : ℕ) (slot : Slot) → slice_get slots n ≡ Some slot
    → FitsAs s at (r + n) slot

-- field c of a class, where there are both
abbrev pub field_in : Option (List Kind) → ℕ → Option Kind
field_in None c = None
field_in (Some kinds) c = slice_get kinds c

abbrev pub field_of : Module → ℕ → ℕ → Option Kind
field_of m class c = field_in (slice_get m.classes class) c

-- a term that a call goes by is here, or the place in a register
abbrev pub IsPlaceTerm : State → Term → Type 0
IsPlaceTerm s term.Here = Unit {0}
IsPlaceTerm s (term.Place p) = ⊥
IsPlaceTerm s (term.Reg r) = IsKind s r Place

-- what function x asks for is met at the place of a term
pub record IsCalled (p : Point) (s : State) (at : Term) (callee : Function) : Type 0 where
  pub place : IsPlaceTerm s at
  pub there : function_at p.program p.instr.x ≡ Some callee
  pub arguments : SlotsAre s at p.instr.b callee.parameters

-- where a kind stands for a place, the term whose place it has
abbrev pub like_if : Bool → Term → Option Term
like_if true t = Some t
like_if false t = None

-- what becomes of register a after a call: the result, if there is one, is there; else a is 0
abbrev pub GivesResult : Point → Term → Option Slot → Effect → Type 0
GivesResult p at None e = (p.instr.a ≡ 0) × (e ≡ Keeps)
GivesResult p at (Some slot) e = e ≡ Sets slot.kind (like_if slot.home_here at)

-- the function's result is in register a; where it has none, a is 0
abbrev pub ReturnsWell : Point → State → Option Slot → Type 0
ReturnsWell p s None = p.instr.a ≡ 0
ReturnsWell p s (Some slot) = FitsAs s term.Here p.instr.a slot

-- what an outcome asks, and its effect
abbrev pub Settles : Outcome → Point → State → Effect → Type 0
Settles (Fixed effect) p s e = e ≡ effect
Settles Copies p s e = (kind : Kind) × (s.kinds p.instr.b ≡ Some kind)
    × (e ≡ Sets kind (like_if (has_place kind) (term.Reg p.instr.b)))
Settles (Calls at) p s e = (callee : Function) × IsCalled p s at callee
    × GivesResult p at callee.result e
Settles Returns p s e = ReturnsWell p s p.function.result × (e ≡ Keeps)
Settles Makes p s e = (kinds : List Kind) × (slice_get p.program.classes p.instr.x ≡ Some kinds)
    × KindsAre s p.instr.b kinds × (e ≡ Sets (Obj p.instr.x) None)
Settles Gets p s e = (class : ℕ) × (field : Kind) × IsKind s p.instr.b (Obj class)
    × (field_of p.program class p.instr.c ≡ Some field)
    × (e ≡ Sets field None)
Settles Puts p s e = (class : ℕ) × (field : Kind) × IsKind s p.instr.a (Obj class)
    × (field_of p.program class p.instr.c ≡ Some field)
    × IsKind s p.instr.b field × (e ≡ Keeps)
Settles Unwraps p s e = (class : ℕ) × IsKind s p.instr.b (Opt class) × (e ≡ Sets (Obj class) None)
Settles Locates p s e = (class : ℕ) × IsKind s p.instr.b (GRef class)
    × (e ≡ Sets Place (Some (term.Reg p.instr.b)))
Settles Exports p s e = (class : ℕ) × IsKind s p.instr.b (Obj class)
    × (e ≡ Sets (GRef class) (Some term.Here))
Settles Opens p s e = (class : ℕ) × IsKind s p.instr.b (GRef class)
    × IsTrue (s.homes (term.Reg p.instr.b) term.Here)
    × (e ≡ Sets (Obj class) None)
Settles FindsHere p s e = IsPlaced s p.instr.a × (e ≡ Joins (term.Reg p.instr.a) term.Here)
Settles FindsSame p s e = IsPlaced s p.instr.a × IsPlaced s p.instr.b
    × (e ≡ Joins (term.Reg p.instr.a) (term.Reg p.instr.b))
Settles (Starts at) p s e = (callee : Function) × IsCalled p s at callee × (callee.result ≡ None)
    × (e ≡ Keeps)
Settles Prints p s e = (IsKind s p.instr.a Int ⊎ IsKind s p.instr.a Text) × (e ≡ Keeps)

-- a row grants the instruction in a state, with this effect
pub record Grants (r : Rule) (p : Point) (s : State) (e : Effect) : Type 0 where
  pub a : IsKindIf s p.instr.a r.a
  pub b : IsKindIf s p.instr.b r.b
  pub c : IsKindIf s p.instr.c r.c
  pub settles : Settles r.outcome p s e

-- ---- where it leads

-- the state after an effect, which writes register a if it writes one
abbrev pub after : ℕ → State → Effect → State
after a s Keeps = s
after a s (Sets kind like) = set s a kind like
after a s (Joins t u) = record s { homes = joined s.homes t u }

abbrev pub edge_if : Bool → ℕ → State → Edges
edge_if true pc s = (pc, s) ∷ []
edge_if false pc s = []

-- to the next instruction with the effect, and to x with the state as it was
abbrev pub edges_of : Op → Point → State → Effect → Edges
edges_of o p s e = edge_if (goes_on_of o) (p.pc + 1) (after p.instr.a s e)
    ++ edge_if (is_target (form_of o).x) p.instr.x s

-- What an instruction asks of the state before it, by its row, and the states that it gives to those that may follow.
abbrev pub Permits : Op → Point → State → Edges → Type 0
Permits o p s out = (effect : Effect) × Grants (rule_for o p.instr) p s effect
    × (out ≡ edges_of o p s effect)

-- ---- assignments

-- the state at an instruction that follows knows no more than it is given
abbrev pub Reaches : (ℕ → Option State) → ℕ × State → Type 0
Reaches states edge = (known : State) × (states edge.0 ≡ Some known) × IsBelow edge.1 known

-- States at some instructions of a function, the first among them, such that each rule holds and each instruction that
-- follows one with a state has one that knows no more.
pub record IsConsistent (program : Module) (function : Function)
    (states : ℕ → Option State) : Type 0 where
  pub entry : Reaches states (0, entry_state function)
  pub valid : (pc : ℕ) (s : State) → states pc ≡ Some s → IsState s
  pub permitted : (pc : ℕ) (s : State) → states pc ≡ Some s
      → (instr : Instr) × (out : Edges) × (slice_get function.code pc ≡ Some instr)
      × Permits instr.op (record { program = program; function = function; pc = pc; instr = instr })
      s out
      × ((edge : ℕ × State) → IsIn edge out → Reaches states edge)

abbrev pub HasAssignment : Module → Function → Type 0
HasAssignment program function = (states : ℕ → Option State) × IsConsistent program function states

-- every instruction names what is there
abbrev pub AreInRange : Module → Type 0
AreInRange program = (f pc : ℕ) (function : Function) (instr : Instr)
    → function_at program f ≡ Some function → slice_get function.code pc ≡ Some instr
    → IsInRange program function instr
