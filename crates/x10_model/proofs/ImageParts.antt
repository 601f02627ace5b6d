-- The parts of an image are read again, and what is read of them is spelled so.
use Rattle.std.proofs.Common.{◌≡◌, ℕ, ◌*◌, ◌^◌, ◌<◌, ◌≤◌, Bool, true, false, leb, List, [], ◌∷◌, length, Option, Some, None, Result, Ok, Err, refl, sym, ap, subst, arith, leb-true, le-leb, flat_map, length-append}
use Rattle.std.specs.Prelude.{IsTrue, if◌then◌else◌}
use Rattle.std.specs.Int.{w16, w32, to_be_bytes}
use Rattle.std.specs.Str.{is_utf8}
use Rattle.std.proofs.lemmas.Str.{IsUtf8-from_is_utf8, is_utf8-from_IsUtf8}
use Rattle.std.proofs.lemmas.List.Concat.{flat_map-cons}
use Rattle.std.proofs.lemmas.Bool.{and_from, and_parts}
use Rattle.x10_code.specs.declared.instr.Instr.{Instr}
use Rattle.x10_code.specs.declared.instr.CodeFault.{CodeFault}
use Rattle.x10_code.specs.declared.op.Op.{Op}
use Rattle.x10_code.specs.declared.op.Op.TheVariants as op
use Rattle.x10_code.specs.Table.{code_of}
use Rattle.x10_code.specs.Spelling.{decoded, IsInstr, spelling as instruction}
use Rattle.x10_code.proofs.Instructions.{decoded_again, decoded_takes, length-spelling}
use Rattle.x10_model.specs.declared.version.ImageVersion.{ImageVersion}
use Rattle.x10_model.specs.Modules.{FitsClass, FitsText, is_known, IsInstrOf}
use Rattle.x10_model.specs.Images.{kind_bytes, class_bytes, text_bytes}
use Rattle.x10_model.specs.Readers.{IsBytes}
use Rattle.x10_model.specs.ReadingImages.{Short, Count, Text, Code, is_within, class_at, text_at, if_decoded, if_known, instruction_at}
use Rattle.x10_model.proofs.ReaderLaws.{Reads, then_reads, given_reads, check_reads, need_reads, such_that_reads, fits_as}
use Rattle.x10_model.proofs.PartLaws.{bytes_below, IsBytes-cons, part_reads, part_reads_any, byte_reads, number_reads, each_reads, wide16}
use Rattle.x10_model.proofs.KindLaws.{kind_reads, length-kind_bytes}

pub within_of : (least most n : ℕ) → least ≤ n → n ≤ most → is_within least most n ≡ true
within_of least most n h k = and_from (leb least n) (leb n most) (le-leb least n h) (le-leb n most k)

pub of_within : (least most n : ℕ) → is_within least most n ≡ true → (least ≤ n) × (n ≤ most)
of_within least most n h = let b = and_parts (leb least n) (leb n most) h in (leb-true least n b.0, leb-true n most b.1)

-- items of one length
pub length-items : {A : Type 0} (spell : A → List ℕ) (k : ℕ) → ((x : A) → length (spell x) ≡ k) → (xs : List A)
    → length (flat_map spell xs) ≡ k * length xs
length-items spell k each [] = omega arith
length-items spell k each (x ∷ xs) = rw flat_map-cons (omega
    (arith, length-append (spell x) (flat_map spell xs), each x, length-items spell k each xs))

-- ---- classes

pub class_reads : (classes : ℕ) → classes < 2 ^ 16 → Reads (class_at classes) class_bytes (FitsClass classes)
unfolding class_at class_bytes
class_reads classes few =
    then_reads (λ fields. length fields) (λ fields. flat_map kind_bytes fields) (byte_reads Short) (λ fields g. omega (arith, g.count)) (λ n _.
    need_reads (3 * n) Short (λ fields g. omega (arith, g.0, length-items kind_bytes 3 length-kind_bytes fields))
    (check_reads (leb n 16) Count (λ fields g. le-leb n 16 (omega (arith, g.0, g.1.count))) (λ small.
    fits_as (each_reads (λ s _. s) (λ _. kind_reads classes few) n 0)
    (λ fields h. (h.0, record { count = omega (arith, h.0, leb-true n 16 small); kinds = h.1 }))
    (λ fields h. (h.0, h.1.kinds)))))

-- ---- texts

pub text_reads : Reads text_at text_bytes FitsText
unfolding text_at text_bytes
text_reads =
    then_reads (λ text. length text) (λ text. text) (number_reads w16 (2 ^ 16) wide16 Short) (λ text g. g.length) (λ n lt.
    fits_as (such_that_reads is_utf8 Text (part_reads_any n Short))
    (λ text h. (h.0, record { length = omega (arith, h.0, lt); utf8 = IsUtf8-from_is_utf8 text h.1 }))
    (λ text h. (h.0, is_utf8-from_IsUtf8 text h.1.utf8)))

-- ---- instructions

code_of-lt : (o : Op) → code_of o < 256
code_of-lt op.Intk = omega arith
code_of-lt _ = omega arith

four_small : (a b c d : ℕ) (bytes : List ℕ) → a < 256 → b < 256 → c < 256 → d < 256 → IsBytes bytes → IsBytes (a ∷ b ∷ c ∷ d ∷ bytes)
four_small a b c d bytes ha hb hc hd h = IsBytes-cons a (b ∷ c ∷ d ∷ bytes) ha
    (IsBytes-cons b (c ∷ d ∷ bytes) hb (IsBytes-cons c (d ∷ bytes) hc (IsBytes-cons d bytes hd h)))

instruction_small : (i : Instr) → IsInstr i → IsBytes (instruction i)
unfolding instruction
instruction_small i fits = four_small (code_of i.op) i.a i.b i.c (to_be_bytes w32 i.x) (code_of-lt i.op) fits.a fits.b fits.c (bytes_below 4 i.x)

-- a test that an instruction passed
known_as : (version : ImageVersion) (j i : Instr) (b : Bool) → is_known version j.op ≡ b → (if b then Some j else None) ≡ Some i
    → (◌≡◌ {A = Option Instr} (Some j) (Some i)) × IsTrue (is_known version i.op)
known_as version j i true is e = (e, let same : j ≡ i = cc in subst (λ (k : Instr). IsTrue (is_known version k.op)) same is)
known_as version j i false is e = absurd cc

instruction_again : (version : ImageVersion) (i : Instr) → IsInstrOf version i → if_known version (if_decoded (decoded (instruction i))) ≡ Some i
instruction_again version i fits = rw (decoded_again i fits.spelled) (ap (λ b. if b then Some i else None) fits.known)

known_is : (version : ImageVersion) (o : Option Instr) (i : Instr) → if_known version o ≡ Some i → (o ≡ Some i) × IsTrue (is_known version i.op)
known_is version None i e = absurd cc
known_is version (Some j) i e = known_as version j i (is_known version j.op) refl e

instruction_means : (bytes : List ℕ) (o : Result Instr CodeFault) (i : Instr) → length bytes ≡ 8 → IsBytes bytes → decoded bytes ≡ o
    → if_decoded o ≡ Some i → (instruction i ≡ bytes) × IsInstr i
instruction_means bytes (Ok j) i len small is e =
    let t = decoded_takes bytes j len small is in
    let same : j ≡ i = cc in
    subst (λ (k : Instr). (instruction k ≡ bytes) × IsInstr k) same (sym t.1, t.0)
instruction_means bytes (Err f) i len small is e = absurd cc

instruction_known : (version : ImageVersion) (bytes : List ℕ) (i : Instr) → length bytes ≡ 8 → IsBytes bytes
    → if_known version (if_decoded (decoded bytes)) ≡ Some i → (instruction i ≡ bytes) × IsInstrOf version i
instruction_known version bytes i len small e =
    let k = known_is version (if_decoded (decoded bytes)) i e in
    let m = instruction_means bytes (decoded bytes) i len small refl k.0 in
    (m.0, record { spelled = m.1; known = k.1 })

pub instruction_reads : (version : ImageVersion) (function pc : ℕ) → Reads (instruction_at version function pc) instruction (IsInstrOf version)
unfolding instruction_at
instruction_reads version function pc =
    given_reads (λ bytes. if_known version (if_decoded (decoded bytes))) (λ _. Code function pc) instruction (part_reads 8 Short)
    (λ i fits. ((length-spelling i, instruction_small i fits.spelled), instruction_again version i fits))
    (λ bytes i h e. instruction_known version bytes i h.0 h.1 e)
