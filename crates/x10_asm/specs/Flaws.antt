-- Which fault a line has, whatever the other lines say.
use Rattle.std.specs.Prelude.{◌≡◌, ℕ, List, Ok, Err}
use Rattle.x10_code.specs.declared.op.Op.{Op}
use Rattle.x10_code.specs.Table.{form_of}
use Rattle.x10_model.specs.declared.version.ImageVersion.{ImageVersion}
use Rattle.x10_asm.specs.declared.fault.AsmCause.{AsmCause}
use Rattle.x10_asm.specs.declared.statement.Statement.{Statement}
use Rattle.x10_asm.specs.declared.statement.Statement.TheVariants as statement
use Rattle.x10_asm.specs.Lines.{words}
use Rattle.x10_asm.specs.Checks.{no_more}
use Rattle.x10_asm.specs.Operands.{Last, operand_at, last_at}
use Rattle.x10_asm.specs.Statements.{statement_in}
use Rattle.x10_asm.specs.Reading.{Source, after_line}

-- a line that says this may be read in this state, in a text of this version: it was read before each line that says something
-- else than a version
abbrev pub MayRead : ImageVersion → Source → Statement → Type 0
MayRead version s statement.Silent = Unit {0}
MayRead version s statement.Version = Unit {0}
MayRead version s _ = s.so_far.version ≡ version

-- in a text of this version with so many classes, the line is refused by this cause wherever it stands
abbrev pub IsFaultOf : ImageVersion → ℕ → List ℕ → AsmCause → Type 0
IsFaultOf version classes text cause =
    (s : Source) (number : ℕ) (others : List (List ℕ))
    → MayRead version s (statement_in (words text))
    → after_line classes s number text others ≡ Err cause

-- by no cause is it refused wherever it stands
abbrev pub HasNoFault : ImageVersion → ℕ → List ℕ → Type 0
HasNoFault version classes text = (cause : AsmCause) → IsFaultOf version classes text cause → ⊥

-- the words are the operands of the operation, each one that its form names, and no more
pub record HasOperands (op : Op) (ws : List (List ℕ)) : Type 0 where
  pub a : ℕ × List (List ℕ)
  pub b : ℕ × List (List ℕ)
  pub c : ℕ × List (List ℕ)
  pub x : Last
  pub is_a : operand_at (form_of op).a 255 ws ≡ Ok a
  pub is_b : operand_at (form_of op).b 255 a.1 ≡ Ok b
  pub is_c : operand_at (form_of op).c 255 b.1 ≡ Ok c
  pub is_x : last_at (form_of op).x c.1 ≡ Ok x
  pub all : no_more x.others ≡ Ok tt
