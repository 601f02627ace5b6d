-- An instruction whose eight bytes are known to spell one.
use Rattle.std.proofs.Common.{◌≡◌, ℕ, Bool, true, false, List, take, drop, Option, Some, None, Result, Ok, Err, refl, sym, ap, ◌∙◌}
use Rattle.std.specs.Prelude.{IsSome, slice_index}
use Rattle.byteorder.specs.Endian.{big_number}
use Rattle.x10_code.specs.declared.op.Op.{Op}
use Rattle.x10_code.specs.declared.instr.Instr.{Instr}
use Rattle.x10_code.specs.declared.instr.CodeFault.{CodeFault}
use Rattle.x10_code.specs.Spelling.{fits_form, op_of, decoded}
use Rattle.x10_code.proofs.Instructions.{instr, if_fits}
use Rattle.x10_code.proofs.CodecLemmas.{read_unknown, read_known}

abbrev found : Op → Option Op
found o = Some o

abbrev answer : Instr → Result Instr CodeFault
answer i = Ok i

op_known_of : (bytes : List ℕ) (i : Instr) (o : Option Op) → op_of (slice_index bytes 0) ≡ o → decoded bytes ≡ Ok i → IsSome o
op_known_of bytes i (Some o) e d = refl
op_known_of bytes i None e d = absurd (let h = sym d ∙ read_unknown bytes e in cc)

pub op_known : (bytes : List ℕ) (i : Instr) (o : Option Op) → o ≡ op_of (slice_index bytes 0) → decoded bytes ≡ Ok i → IsSome o
op_known bytes i o e d = op_known_of bytes i o (sym e) d

fitted_answer : (made i : Instr) (b : Bool) → fits_form made ≡ b → if_fits b made ≡ Ok i → answer made ≡ Ok i
fitted_answer made i true fits e = e
fitted_answer made i false fits e = absurd cc

pub instr_is : (bytes : List ℕ) (i : Instr) (o : Op) (x : ℕ) → op_of (slice_index bytes 0) ≡ Some o → x ≡ big_number 4 (take 4 (drop 4 bytes))
    → decoded bytes ≡ Ok i → decoded bytes ≡ Ok (instr o (slice_index bytes 1) (slice_index bytes 2) (slice_index bytes 3) x)
instr_is bytes i o x some x_is d =
    let made : Instr = instr o (slice_index bytes 1) (slice_index bytes 2) (slice_index bytes 3) x in
    d ∙ sym (fitted_answer made i (fits_form made) refl (sym (read_known bytes o x some x_is) ∙ d))

operand : Result Instr CodeFault → ℕ
operand (Ok i) = i.a
operand (Err fault) = 0

operand_is_of : (bytes : List ℕ) (i : Instr) (o : Option Op) → op_of (slice_index bytes 0) ≡ o → decoded bytes ≡ Ok i
    → slice_index bytes 1 ≡ i.a
unfolding operand
operand_is_of bytes i (Some o) e d =
    ap operand (sym (instr_is bytes i o (big_number 4 (take 4 (drop 4 bytes))) e refl d) ∙ d)
operand_is_of bytes i None e d = absurd (let h = sym d ∙ read_unknown bytes e in cc)

pub operand_is : (bytes : List ℕ) (i : Instr) → decoded bytes ≡ Ok i → slice_index bytes 1 ≡ i.a
operand_is bytes i d = operand_is_of bytes i (op_of (slice_index bytes 0)) refl d
