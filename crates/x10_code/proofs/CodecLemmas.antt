-- What the reader and the writer of instructions compute is what their definitions say.
use Rattle.std.proofs.Common.{◌≡◌, ℕ, ◌<◌, Bool, true, false, List, [], ◌∷◌, ◌++◌, length, take, drop, Option, Some, None, Result, Ok, Err, refl, sym, ap, subst, ◌∙◌, inl, inr, arith}
use Rattle.std.proofs.lemmas.Bool.{cases_Bool}
use Rattle.std.specs.Prelude.{◌≢◌, ◌↔◌, IfOk, IsErrOf, IsTrue, slice_index}
use Rattle.std.specs.Int.{w32, from_be_bytes}
use Rattle.byteorder.specs.Endian.{big_number, big_bytes}
use Rattle.x10_code.specs.declared.op.Op.{Op}
use Rattle.x10_code.specs.declared.instr.Instr.{Instr}
use Rattle.x10_code.specs.declared.instr.CodeFault.{CodeFault}
use Rattle.x10_code.specs.declared.instr.CodeFault.TheVariants.{UnknownOp, UnusedNotZero}
use Rattle.x10_code.specs.Table.{code_of}
use Rattle.x10_code.specs.Spelling.{IsInstr, spelling, fits_form, op_of, fitted, decoded_as, decoded}
use Rattle.x10_code.proofs.Operations.{some_of, op_of-code_of, code_of-op_of}
use Rattle.x10_code.proofs.Instructions.{instr, if_fits, fitted_fits, decoded_again, decoded_takes}

-- a code and an x in four bytes make the spelling
pub encoded : (i : Instr) (n : ℕ) (tail : List ℕ) → n ≡ code_of i.op → tail ≡ big_bytes 4 i.x ++ [] → n ∷ i.a ∷ i.b ∷ i.c ∷ (tail ++ []) ≡ spelling i
unfolding spelling
encoded i n tail code x = rw (code, x) refl

-- a code of no operation
pub read_unknown : (bytes : List ℕ) → op_of (slice_index bytes 0) ≡ None → decoded bytes ≡ Err UnknownOp
unfolding decoded
read_unknown bytes none = ap (λ (o : Option Op). decoded_as o bytes) none

-- the code of an operation
pub read_known : (bytes : List ℕ) (o : Op) (x : ℕ) → op_of (slice_index bytes 0) ≡ Some o → x ≡ big_number 4 (take 4 (drop 4 bytes))
    → decoded bytes ≡ fitted (instr o (slice_index bytes 1) (slice_index bytes 2) (slice_index bytes 3) x)
unfolding decoded
read_known bytes o x some x_is =
    let same : from_be_bytes w32 (take 4 (drop 4 bytes)) ≡ x = omega (arith, x_is) in
    ap (λ (o : Option Op). decoded_as o bytes) some ∙ ap (λ (n : ℕ).
    fitted (instr o (slice_index bytes 1) (slice_index bytes 2) (slice_index bytes 3) n)) same

-- an operation whose form fits, and one whose form doesn't
pub read_used : (bytes : List ℕ) (o : Op) (x : ℕ) → op_of (slice_index bytes 0) ≡ Some o → x ≡ big_number 4 (take 4 (drop 4 bytes))
    → IsTrue (fits_form (instr o (slice_index bytes 1) (slice_index bytes 2) (slice_index bytes 3) x))
    → Ok (instr o (slice_index bytes 1) (slice_index bytes 2) (slice_index bytes 3) x) ≡ decoded bytes
read_used bytes o x some x_is fits = sym (read_known bytes o x some x_is
    ∙ fitted_fits (instr o (slice_index bytes 1) (slice_index bytes 2) (slice_index bytes 3) x) fits)

fitted_not : (i : Instr) → (IsTrue (fits_form i) → ⊥) → fitted i ≡ Err UnusedNotZero
fitted_not i not = elim (cases_Bool (fits_form i)) [
  | inl fits ↦ absurd (not fits)
  | inr none ↦ ap (λ (b : Bool). if_fits b i) none
]

pub read_unused : (bytes : List ℕ) (o : Op) (x : ℕ) → op_of (slice_index bytes 0) ≡ Some o → x ≡ big_number 4 (take 4 (drop 4 bytes))
    → (IsTrue (fits_form (instr o (slice_index bytes 1) (slice_index bytes 2) (slice_index bytes 3) x)) → ⊥)
    → Err UnusedNotZero ≡ decoded bytes
read_unused bytes o x some x_is not = sym (read_known bytes o x some x_is
    ∙ fitted_not (instr o (slice_index bytes 1) (slice_index bytes 2) (slice_index bytes 3) x) not)

-- the three clauses of decoding, each from the exact answer
pub is_found : (bytes : List ℕ) (r : Result Instr CodeFault) → length bytes ≡ 8 → ((k : ℕ) → slice_index bytes k < 256) → r ≡ decoded bytes
    → IfOk r (λ i. IsInstr i × (bytes ≡ spelling i))
is_found bytes (Ok i) len fits e = decoded_takes bytes i len fits (sym e)
is_found bytes (Err fault) len fits e = tt

pub is_only : (bytes : List ℕ) (r : Result Instr CodeFault) (i : Instr) → r ≡ decoded bytes → IsInstr i → bytes ≡ spelling i → r ≡ Ok i
is_only bytes r i e is spelled = e ∙ ap decoded spelled ∙ decoded_again i is

-- an operation that is there has no unknown code
fitted_known : (i : Instr) (b : Bool) → IsErrOf (if_fits b i) UnknownOp → ⊥
fitted_known i true e = cc
fitted_known i false e = cc

-- the code's operation, if there is one, decides whether the fault is that there is none
unknown_if : (n : ℕ) (found : Option Op) (bytes : List ℕ) → op_of n ≡ found → IsErrOf (decoded_as found bytes) UnknownOp ↔ ((o : Op) → code_of o ≢ n)
unknown_if n None bytes e = (λ _ o same. let known : some_of o ≡ None = sym (op_of-code_of o) ∙ ap op_of same ∙ e in absurd cc, λ _. refl)
unknown_if n (Some o) bytes e = (λ fault. absurd (fitted_known _ _ fault), λ none. absurd (none o (code_of-op_of n o e)))

pub is_unknown : (bytes : List ℕ) (r : Result Instr CodeFault) → r ≡ decoded bytes
    → IsErrOf r UnknownOp ↔ ((o : Op) → code_of o ≢ slice_index bytes 0)
unfolding decoded
is_unknown bytes r e = subst (λ (x : Result Instr CodeFault). IsErrOf x UnknownOp ↔ ((o : Op) → code_of o ≢ slice_index bytes 0)) (sym e)
    (unknown_if (slice_index bytes 0) (op_of (slice_index bytes 0)) bytes refl)
