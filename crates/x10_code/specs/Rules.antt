-- The rule of each operation as data: the kinds that it asks of its registers, what settles its effect, and whether it goes on.
use Rattle.std.specs.Prelude.{◌≡◌, ◌<◌, ◌^◌, Bool, true, false, Option, Some, None}
use Rattle.x10_kinds.specs.declared.kind.Kind.{Kind}
use Rattle.x10_kinds.specs.declared.kind.Kind.TheVariants as kind
use Rattle.x10_kinds.specs.declared.homes.Term.{Term}
use Rattle.x10_kinds.specs.declared.homes.Term.TheVariants as term
use Rattle.x10_code.specs.declared.op.Op.{Op}
use Rattle.x10_code.specs.declared.op.Op.TheVariants as op
use Rattle.x10_code.specs.declared.operands.Operand.TheVariants as operand
use Rattle.x10_code.specs.declared.instr.Instr.{Instr}
use Rattle.x10_code.specs.declared.rule.Effect.TheVariants.{Keeps, Sets}
use Rattle.x10_code.specs.declared.rule.Outcome.{Outcome}
use Rattle.x10_code.specs.declared.rule.Outcome.TheVariants.{Fixed, Copies, Calls, Returns, Makes, Gets, Puts, Unwraps}
use Rattle.x10_code.specs.declared.rule.Outcome.TheVariants.{Locates, Exports, Opens, FindsHere, FindsSame, Starts, Prints}
use Rattle.x10_code.specs.declared.rule.Rule.{Rule}
use Rattle.x10_code.specs.Table.{form_of}

-- a row, by what it asks of registers a, b and c, and what settles its effect
abbrev pub asks : Option Kind → Option Kind → Option Kind → Outcome → Rule
asks a b c outcome = record { a = a; b = b; c = c; outcome = outcome }

abbrev pub keeps : Outcome
keeps = Fixed Keeps

abbrev pub sets : Kind → Outcome
sets k = Fixed (Sets k None)

abbrev pub sets_place : Term → Outcome
sets_place t = Fixed (Sets kind.Place (Some t))

-- the row of an operation, for an instruction
abbrev pub rule_for : Op → Instr → Rule
-- numbers
rule_for op.Intk i = asks None None None (sets kind.Int)
rule_for op.Add i = asks None (Some kind.Int) (Some kind.Int) (sets kind.Int)
rule_for op.Sub i = asks None (Some kind.Int) (Some kind.Int) (sets kind.Int)
rule_for op.Mul i = asks None (Some kind.Int) (Some kind.Int) (sets kind.Int)
rule_for op.Div i = asks None (Some kind.Int) (Some kind.Int) (sets kind.Int)
rule_for op.Rem i = asks None (Some kind.Int) (Some kind.Int) (sets kind.Int)
rule_for op.Lt i = asks None (Some kind.Int) (Some kind.Int) (sets kind.Int)
rule_for op.Eq i = asks None (Some kind.Int) (Some kind.Int) (sets kind.Int)
-- control
rule_for op.Move i = asks None None None Copies
rule_for op.Jmp i = asks None None None keeps
rule_for op.Jz i = asks (Some kind.Int) None None keeps
rule_for op.Loop i = asks None None None keeps
rule_for op.Endl i = asks None None None keeps
rule_for op.Call i = asks None None None (Calls term.Here)
rule_for op.Ret i = asks None None None Returns
-- text
rule_for op.Textk i = asks None None None (sets kind.Text)
rule_for op.Tlen i = asks None (Some kind.Text) None (sets kind.Int)
rule_for op.Tcat i = asks None (Some kind.Text) (Some kind.Text) (sets kind.Text)
-- objects
rule_for op.New i = asks None None None Makes
rule_for op.Get i = asks None None None Gets
rule_for op.Put i = asks None None None Puts
rule_for op.Null i = asks None None None (sets (kind.Opt i.x))
rule_for op.Ifobj i = asks None None None Unwraps
-- rails
rule_for op.Rail i = asks None (Some kind.Int) None (sets kind.Rail)
rule_for op.Rget i = asks None (Some kind.Rail) (Some kind.Int) (sets kind.Int)
rule_for op.Rset i = asks (Some kind.Rail) (Some kind.Int) (Some kind.Int) keeps
rule_for op.Rlen i = asks None (Some kind.Rail) None (sets kind.Int)
-- places
rule_for op.Here i = asks None None None (sets_place term.Here)
rule_for op.Placek i = asks None None None (sets_place (term.Place i.x))
rule_for op.Placen i = asks None (Some kind.Int) None (sets kind.Place)
rule_for op.Placei i = asks None (Some kind.Place) None (sets kind.Int)
rule_for op.Nextp i = asks None (Some kind.Place) None (sets kind.Place)
rule_for op.Count i = asks None None None (sets kind.Int)
rule_for op.Home i = asks None None None Locates
rule_for op.Gnew i = asks None None None Exports
rule_for op.Gopen i = asks None None None Opens
rule_for op.Ifhere i = asks None None None FindsHere
rule_for op.Ifsame i = asks None None None FindsSame
-- activities
rule_for op.Async i = asks None None None (Starts term.Here)
rule_for op.At i = asks None None None (Calls (term.Reg i.c))
rule_for op.Ata i = asks None None None (Starts (term.Reg i.c))
rule_for op.Finb i = asks None None None keeps
rule_for op.Fine i = asks None None None keeps
rule_for op.Atomb i = asks None None None keeps
rule_for op.Atome i = asks None None None keeps
-- output
rule_for op.Print i = asks None None None Prints

-- whether an instruction may lead to the next one
abbrev pub goes_on_of : Op → Bool
goes_on_of op.Jmp = false
goes_on_of op.Ret = false
goes_on_of _ = true

-- a class and a place have numbers that fit a kind and a term
pub record NamesSmall (i : Instr) : Type 0 where
  pub class : (form_of i.op).x ≡ operand.Class → i.x < 2 ^ 16
  pub place : (form_of i.op).x ≡ operand.Place → i.x < 64
