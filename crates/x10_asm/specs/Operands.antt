-- The operands of an instruction, in the order of its form.
use Rattle.std.specs.Prelude.{ℕ, Bool, nat_lt, List, [], ◌∷◌, Option, Some, None, Result, Ok, Err}
use Rattle.x10_model.specs.declared.limits.TheConstants.{MOST_INSTRUCTIONS}
use Rattle.x10_code.specs.declared.op.Op.{Op}
use Rattle.x10_code.specs.declared.instr.Instr.{Instr}
use Rattle.x10_code.specs.declared.operands.Operand.{Operand}
use Rattle.x10_code.specs.declared.operands.Operand.TheVariants as operand
use Rattle.x10_code.specs.Table.{form_of}
use Rattle.x10_asm.specs.declared.fault.AsmCause.{AsmCause}
use Rattle.x10_asm.specs.declared.fault.AsmCause.TheVariants as cause
use Rattle.x10_asm.specs.Lines.{stripped}
use Rattle.x10_asm.specs.Checks.{◌>>=◌, ◌>>◌, check, number_at, no_more}
use Rattle.x10_asm.specs.Labels.{Label, label_of}

-- an operand that the form names is a number; one that it doesn't name is 0 and has no word
abbrev pub operand_at : Operand → ℕ → List (List ℕ) → Result (ℕ × List (List ℕ)) AsmCause
operand_at operand.Unused most ws = Ok (0, ws)
operand_at _ most ws = number_at most ws

-- the last operand: a label's name, or a number; and the words after it
pub record Last : Type 0 where
  pub name : Option (List ℕ)
  pub number : ℕ
  pub others : List (List ℕ)

abbrev pub numbered : Result (ℕ × List (List ℕ)) AsmCause → Result Last AsmCause
numbered (Ok p) = Ok (record { name = None; number = p.0; others = p.1 })
numbered (Err fault) = Err fault

abbrev pub named_or_number : Option (List ℕ) → List ℕ → List (List ℕ) → Result Last AsmCause
named_or_number (Some name) word others =
    Ok (record { name = Some name; number = 0; others = others })
named_or_number None word others = numbered (number_at 4294967295 (word ∷ others))

-- where a jump goes to: a name after an at sign, or a number
abbrev pub target_at : List (List ℕ) → Result Last AsmCause
target_at [] = Err cause.Count
target_at (word ∷ others) = named_or_number (stripped (64 ∷ []) word) word others

abbrev pub last_at : Operand → List (List ℕ) → Result Last AsmCause
last_at operand.Target ws = target_at ws
last_at o ws = numbered (operand_at o 4294967295 ws)

abbrev pub index_of : Option Label → Result ℕ AsmCause
index_of (Some l) = Ok l.index
index_of None = Err cause.Label

-- the index that a name stands for, or the number itself
abbrev pub resolved : List Label → Option (List ℕ) → ℕ → Result ℕ AsmCause
resolved labels None n = Ok n
resolved labels (Some name) n = index_of (label_of labels name)

-- the instruction of an operation and operand words, in a function with these labels and so many instructions before it
unfoldable pub instruction_of : List Label → Bool → ℕ → Op → List (List ℕ) → Result Instr AsmCause
instruction_of labels is_inside count op ws = do
  a ← operand_at (form_of op).a 255 ws
  b ← operand_at (form_of op).b 255 a.1
  c ← operand_at (form_of op).c 255 b.1
  x ← last_at (form_of op).x c.1
  no_more x.others
  check is_inside cause.Order
  target ← resolved labels x.name x.number
  check (nat_lt count MOST_INSTRUCTIONS) cause.Limit
  Ok (record { op = op; a = a.0; b = b.0; c = c.0; x = target })
