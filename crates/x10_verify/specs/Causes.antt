-- When a cause holds at an instruction: which of the things that its rule asks for is missing in a state.
use Rattle.std.specs.Prelude.{◌≡◌, ◌≢◌, ℕ, ◌+◌, ◌⊎◌, true, false, List, Option, Some, None, slice_get}
use Rattle.x10_kinds.specs.declared.kind.Kind.{Kind}
use Rattle.x10_kinds.specs.declared.kind.Kind.TheVariants as kind
use Rattle.x10_kinds.specs.declared.homes.Term.{Term}
use Rattle.x10_kinds.specs.declared.homes.Term.TheVariants as term
use Rattle.x10_kinds.specs.Kinds.{Fits}
use Rattle.x10_code.specs.declared.instr.Instr.{Instr}
use Rattle.x10_model.specs.declared.slot.Slot.{Slot}
use Rattle.x10_model.specs.Modules.{Module, Function}
use Rattle.x10_model.specs.Ranges.{function_at}
use Rattle.x10_model.specs.Assignments.{State, Point, IsKind}
use Rattle.x10_verify.specs.declared.fault.FlowCause.{FlowCause}
use Rattle.x10_verify.specs.declared.fault.FlowCause.TheVariants as flow
use Rattle.x10_code.specs.declared.rule.Outcome.{Outcome}
use Rattle.x10_code.specs.declared.rule.Outcome.TheVariants.{Fixed, Copies, Calls, Returns, Makes, Gets, Puts, Unwraps}
use Rattle.x10_code.specs.declared.rule.Outcome.TheVariants.{Locates, Exports, Opens, FindsHere, FindsSame, Starts, Prints}
use Rattle.x10_code.specs.declared.rule.Rule.{Rule}
use Rattle.x10_verify.specs.declared.want.Want.{Want}
use Rattle.x10_verify.specs.declared.want.Want.TheVariants.{Anything, Fitting, AnObject, AnObjectOrNull, AReference, APlaceOrReference, AnIntOrText}
use Rattle.x10_verify.specs.Knowledge.{Follows, point}
use Rattle.x10_code.specs.Rules.{rule_for}
use Rattle.x10_model.specs.Assignments.{field_of}

-- a kind is what is asked of a register
abbrev pub Meets : Want → Kind → Type 0
Meets Anything have = Unit {0}
Meets (Fitting want) have = Fits have want
Meets AnObject have = (class : ℕ) × Fits have (kind.Obj class)
Meets AnObjectOrNull have = (class : ℕ) × Fits have (kind.Opt class)
Meets AReference have = (class : ℕ) × Fits have (kind.GRef class)
Meets APlaceOrReference have = Fits have kind.Place ⊎ ((class : ℕ) × Fits have (kind.GRef class))
Meets AnIntOrText have = Fits have kind.Int ⊎ Fits have kind.Text

-- Unset: the register that is asked for isn't set. Kind: it is set to a kind that doesn't meet what is asked
abbrev pub IsRefused : State → ℕ → Want → FlowCause → Type 0
IsRefused s r want flow.Unset = s.kinds r ≡ None
IsRefused s r want flow.Kind = (have : Kind) × (s.kinds r ≡ Some have) × (Meets want have → ⊥)
IsRefused s r want _ = ⊥

-- the same of a register that is to fit a slot, or Home: the place of the term isn't known to be its home
abbrev pub IsUnfit : State → Term → ℕ → Slot → FlowCause → Type 0
IsUnfit s at r slot flow.Home = (slot.home_here ≡ true) × (s.homes (term.Reg r) at ≡ false)
IsUnfit s at r slot flow.Unset = IsRefused s r (Fitting slot.kind) flow.Unset
IsUnfit s at r slot flow.Kind = IsRefused s r (Fitting slot.kind) flow.Kind
IsUnfit s at r slot flow.Result = ⊥

-- Kind: the class of the object in a register has no field c
abbrev pub HasNoField : Point → State → ℕ → FlowCause → Type 0
HasNoField p s r flow.Kind = (class : ℕ) × IsKind s r (kind.Obj class)
    × (field_of p.program class p.instr.c ≡ None)
HasNoField p s r _ = ⊥

-- the term that a call goes by is no place; no row has a place's number there
abbrev pub IsNoPlace : State → Term → FlowCause → Type 0
IsNoPlace s term.Here why = ⊥
IsNoPlace s (term.Reg r) why = IsRefused s r (Fitting kind.Place) why
IsNoPlace s (term.Place q) why = why ≡ flow.Kind

-- a call is refused: where it goes, what it calls, which is there by then, or an argument
abbrev pub IsUncalled : Term → Point → State → FlowCause → Type 0
IsUncalled at p s why = IsNoPlace s at why
    ⊎ (((why ≡ flow.Kind) × (function_at p.program p.instr.x ≡ None))
    ⊎ ((callee : Function) × (n : ℕ) × (slot : Slot)
    × (function_at p.program p.instr.x ≡ Some callee)
    × (slice_get callee.parameters n ≡ Some slot)
    × IsUnfit s at (p.instr.b + n) slot why))

-- the result of the function that ends: it doesn't fit, or Result: there is none, and a isn't 0
abbrev pub IsUnreturned : Point → State → Option Slot → FlowCause → Type 0
IsUnreturned p s None why = (why ≡ flow.Result) × (p.instr.a ≢ 0)
IsUnreturned p s (Some slot) why = IsUnfit s term.Here p.instr.a slot why

-- what an outcome asks and doesn't find
abbrev pub IsCauseOf : Outcome → Point → State → FlowCause → Type 0
IsCauseOf (Fixed effect) p s why = ⊥
IsCauseOf Copies p s why = IsRefused s p.instr.b Anything why
-- Result: a isn't 0, and the function gives nothing
IsCauseOf (Calls at) p s why = IsUncalled at p s why
    ⊎ ((callee : Function) × (why ≡ flow.Result) × (function_at p.program p.instr.x ≡ Some callee)
    × (callee.result ≡ None) × (p.instr.a ≢ 0))
IsCauseOf Returns p s why = IsUnreturned p s p.function.result why
-- the class is there by then
IsCauseOf Makes p s why = ((why ≡ flow.Kind) × (slice_get p.program.classes p.instr.x ≡ None))
    ⊎ ((kinds : List Kind) × (n : ℕ) × (want : Kind)
    × (slice_get p.program.classes p.instr.x ≡ Some kinds) × (slice_get kinds n ≡ Some want)
    × IsRefused s (p.instr.b + n) (Fitting want) why)
IsCauseOf Gets p s why = IsRefused s p.instr.b AnObject why ⊎ HasNoField p s p.instr.b why
IsCauseOf Puts p s why = IsRefused s p.instr.a AnObject why
    ⊎ (HasNoField p s p.instr.a why
    ⊎ ((class : ℕ) × (field : Kind) × IsKind s p.instr.a (kind.Obj class)
    × (field_of p.program class p.instr.c ≡ Some field)
    × IsRefused s p.instr.b (Fitting field) why))
IsCauseOf Unwraps p s why = IsRefused s p.instr.b AnObjectOrNull why
IsCauseOf Locates p s why = IsRefused s p.instr.b AReference why
IsCauseOf Exports p s why = IsRefused s p.instr.b AnObject why
-- Home: the reference isn't known to have its home here
IsCauseOf Opens p s why = IsRefused s p.instr.b AReference why
    ⊎ ((why ≡ flow.Home) × (s.homes (term.Reg p.instr.b) term.Here ≡ false))
IsCauseOf FindsHere p s why = IsRefused s p.instr.a APlaceOrReference why
IsCauseOf FindsSame p s why = IsRefused s p.instr.a APlaceOrReference why
    ⊎ IsRefused s p.instr.b APlaceOrReference why
-- Result: an activity would begin with a function that gives something
IsCauseOf (Starts at) p s why = IsUncalled at p s why
    ⊎ ((callee : Function) × (why ≡ flow.Result) × (function_at p.program p.instr.x ≡ Some callee)
    × (callee.result ≢ None))
IsCauseOf Prints p s why = IsRefused s p.instr.a AnIntOrText why

-- a row asks a register for a kind
abbrev pub AsksIn : Rule → Point → ℕ → Kind → Type 0
AsksIn row p r want = ((row.a ≡ Some want) × (r ≡ p.instr.a))
    ⊎ (((row.b ≡ Some want) × (r ≡ p.instr.b)) ⊎ ((row.c ≡ Some want) × (r ≡ p.instr.c)))

-- the cause holds at an instruction in a state, by its row
abbrev pub IsCauseAt : Rule → Point → State → FlowCause → Type 0
IsCauseAt row p s why = ((r : ℕ) × (want : Kind) × AsksIn row p r want
    × IsRefused s r (Fitting want) why) ⊎ IsCauseOf row.outcome p s why

-- the cause holds at an instruction, in a state there that follows from the entry
pub record IsFound (program : Module) (function : Function) (pc : ℕ)
    (why : FlowCause) : Type 0 where
  pub instr : Instr
  pub state : State
  pub is_instr : slice_get function.code pc ≡ Some instr
  pub follows : Follows program function pc state
  pub cause : IsCauseAt (rule_for instr.op instr) (point program function pc instr) state why
