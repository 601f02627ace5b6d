-- What is spelled is decoded, and what is decoded was spelled so.
use Rattle.std.proofs.Common.{◌≡◌, ℕ, suc, ◌<◌, ◌^◌, Bool, true, false, cond, List, [], ◌∷◌, length, take, Option, Some, None, Result, Ok, Err, refl, sym, ap, subst, ◌∙◌, arith}
use Rattle.std.specs.Prelude.{IsTrue, slice_index}
use Rattle.std.specs.Int.{w32, to_be_bytes, from_be_bytes}
use Rattle.std.proofs.lemmas.List.{take_all}
use Rattle.std.proofs.lemmas.Nat.{be_bytes_4, from_be_bytes-to_be_bytes_4}
use Rattle.x10_code.specs.declared.op.Op.{Op}
use Rattle.x10_code.specs.declared.instr.Instr.{Instr}
use Rattle.x10_code.specs.declared.instr.CodeFault.{CodeFault}
use Rattle.x10_code.specs.declared.instr.CodeFault.TheVariants.{UnusedNotZero}
use Rattle.x10_code.specs.Table.{code_of}
use Rattle.x10_code.specs.Spelling.{fits_form, IsInstr, spelling, op_of, fitted, decoded_as, decoded}
use Rattle.x10_code.proofs.Operations.{op_of-code_of, code_of-op_of}

pub length-spelling : (i : Instr) → length (spelling i) ≡ 8
unfolding spelling
length-spelling i = refl

-- `fitted` by the test's answer
abbrev pub if_fits : Bool → Instr → Result Instr CodeFault
if_fits b i = cond b (Ok i) (Err UnusedNotZero)

-- an instruction that its form fits is its own answer
pub fitted_fits : (i : Instr) → IsTrue (fits_form i) → fitted i ≡ Ok i
fitted_fits i fits = ap (λ (b : Bool). if_fits b i) fits

-- an answer is the instruction itself, and its form fits
fitted_ok : (made i : Instr) (b : Bool) → fits_form made ≡ b → if_fits b made ≡ Ok i → IsTrue (fits_form made) × (made ≡ i)
fitted_ok made i true fits e = (fits, cc)
fitted_ok made i false fits e = absurd cc

abbrev pub instr : Op → (a b c x : ℕ) → Instr
instr o a b c x = record { op = o; a = a; b = b; c = c; x = x }

pub decoded_again : (i : Instr) → IsInstr i → decoded (spelling i) ≡ Ok i
unfolding spelling decoded
decoded_again i is =
    ap (λ (o : Option Op). decoded_as o (spelling i)) (op_of-code_of i.op)
    ∙ ap (λ (x : ℕ). fitted (instr i.op i.a i.b i.c x)) (from_be_bytes-to_be_bytes_4 i.x is.x) ∙ fitted_fits i is.form

-- the operation was found, and the four bytes of x are all that is left
takes : (found : Option Op) (n a b c : ℕ) (rest : List ℕ) (i : Instr) → op_of n ≡ found → a < 256 → b < 256 → c < 256 → length rest ≡ 4
    → ((k : ℕ) → slice_index rest k < 256) → decoded_as found (n ∷ a ∷ b ∷ c ∷ rest) ≡ Ok i → IsInstr i × (n ∷ a ∷ b ∷ c ∷ rest ≡ spelling i)
unfolding spelling
takes None n a b c rest i found a_fits b_fits c_fits len rest_fits e = absurd cc
takes (Some o) n a b c rest i found a_fits b_fits c_fits len rest_fits e =
    let whole : take 4 rest ≡ rest = take_all 4 rest (omega arith) in
    let x : ℕ = from_be_bytes w32 (take 4 rest) in
    let made : Instr = instr o a b c x in
    let ok = fitted_ok made i (fits_form made) refl e in
    let code : code_of o ≡ n = code_of-op_of n o found in
    let x_bytes : to_be_bytes w32 x ≡ rest = be_bytes_4 rest x len rest_fits (ap (from_be_bytes w32) whole) in
    let x_fits : x < 2 ^ 32 = rw whole (omega (arith, rest_fits 0, rest_fits 1, rest_fits 2, rest_fits 3)) in
    let spelled : n ∷ a ∷ b ∷ c ∷ rest ≡ spelling made = sym (ap (λ (k : ℕ). k ∷ a ∷ b ∷ c ∷ to_be_bytes w32 x) code
    ∙ ap (λ (l : List ℕ). n ∷ a ∷ b ∷ c ∷ l) x_bytes) in
    let fact : IsInstr made × (n ∷ a ∷ b ∷ c ∷ rest ≡ spelling made) =
    (record { a = a_fits; b = b_fits; c = c_fits; x = x_fits; form = ok.0 }, spelled) in
    subst (λ (j : Instr). IsInstr j × (n ∷ a ∷ b ∷ c ∷ rest ≡ spelling j)) ok.1 fact

pub decoded_takes : (bytes : List ℕ) (i : Instr) → length bytes ≡ 8 → ((k : ℕ) → slice_index bytes k < 256) → decoded bytes ≡ Ok i
    → IsInstr i × (bytes ≡ spelling i)
unfolding decoded
decoded_takes [] i len fits e = absurd (omega arith)
decoded_takes (n ∷ []) i len fits e = absurd (omega arith)
decoded_takes (n ∷ a ∷ []) i len fits e = absurd (omega arith)
decoded_takes (n ∷ a ∷ b ∷ []) i len fits e = absurd (omega arith)
decoded_takes (n ∷ a ∷ b ∷ c ∷ rest) i len fits e = takes (op_of n) n a b c rest i refl (fits 1) (fits 2) (fits 3) (omega arith)
    (λ k. fits (suc (suc (suc (suc k))))) e
