-- An instruction as eight bytes: the operation's code, the operands a, b and c, and x in four bytes, the highest first.
use Rattle.std.specs.Prelude.{ℕ, ◌+◌, ◌<◌, ◌^◌, Bool, true, ◌==◌, ◌&&◌, List, ◌∷◌, take, drop, Option, Some, None, Result, Ok, Err, if◌then◌else◌}
use Rattle.std.specs.Prelude.{IsTrue, slice_index, find}
use Rattle.std.specs.Int.{w32, to_be_bytes, from_be_bytes}
use Rattle.x10_code.specs.declared.op.Op.{Op}
use Rattle.x10_code.specs.declared.operands.Operand.{Operand}
use Rattle.x10_code.specs.declared.operands.Operand.TheVariants as operand
use Rattle.x10_code.specs.declared.operands.Form.{Form}
use Rattle.x10_code.specs.declared.instr.Instr.{Instr}
use Rattle.x10_code.specs.declared.instr.CodeFault.{CodeFault}
use Rattle.x10_code.specs.declared.instr.CodeFault.TheVariants.{UnknownOp, UnusedNotZero}
use Rattle.x10_code.specs.Table.{operations, code_of, form_of}

-- an operand that the form doesn't use is 0
abbrev pub fits_operand : Operand → ℕ → Bool
fits_operand operand.Unused n = n == 0
fits_operand _ n = true

-- no operand says what its operation doesn't ask
abbrev pub fits_form : Instr → Bool
fits_form i = fits_operand (form_of i.op).a i.a && fits_operand (form_of i.op).b i.b && fits_operand
    (form_of i.op).c i.c && fits_operand (form_of i.op).x i.x

-- the bits of an operand, where the form doesn't use it
abbrev pub bits_if : Operand → ℕ → ℕ
bits_if operand.Unused bits = bits
bits_if _ bits = 0

-- the bits that have to be 0 in the eight bytes as one number, the first highest
abbrev pub unused_of : Form → ℕ
unused_of f = bits_if f.a 0x00ff000000000000 + bits_if f.b 0x0000ff0000000000 + bits_if f.c
    0x000000ff00000000 + bits_if f.x 0x00000000ffffffff

-- the instructions that have a spelling
pub record IsInstr (i : Instr) : Type 0 where
  pub a : i.a < 256
  pub b : i.b < 256
  pub c : i.c < 256
  pub x : i.x < 2 ^ 32
  pub form : IsTrue (fits_form i)

unfoldable pub spelling : Instr → List ℕ
spelling i = code_of i.op ∷ i.a ∷ i.b ∷ i.c ∷ to_be_bytes w32 i.x

-- the operation with a code
abbrev pub op_of : ℕ → Option Op
op_of n = find (λ o. code_of o == n) operations

-- the operands, where the operation asks for no others
abbrev pub fitted : Instr → Result Instr CodeFault
fitted i = if fits_form i then Ok i else Err UnusedNotZero

abbrev pub decoded_as : Option Op → List ℕ → Result Instr CodeFault
decoded_as None bytes = Err UnknownOp
decoded_as (Some o) bytes = fitted
    (record {
      op = o;
      a = slice_index bytes 1;
      b = slice_index bytes 2;
      c = slice_index bytes 3;
      x = from_be_bytes w32 (take 4 (drop 4 bytes));
    })

-- the instruction that eight bytes spell, or their first fault
unfoldable pub decoded : List ℕ → Result Instr CodeFault
decoded bytes = decoded_as (op_of (slice_index bytes 0)) bytes
