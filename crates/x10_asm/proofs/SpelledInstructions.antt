-- An instruction's line is read again.
use Rattle.std.proofs.Common.{◌≡◌, ℕ, ◌≤◌, ◌<◌, ◌^◌, true, false, ◌&&◌, List, [], ◌∷◌, ◌++◌, length, Option, None, Ok, refl, sym, ap, ◌∙◌, arith, inr}
use Rattle.std.specs.Prelude.{nat_lt, decimal}
use Rattle.std.specs.List.{list_all, AllByRecursion}
use Rattle.std.proofs.lemmas.Bool.{lt-ltb, ltb-true, eqb-true, and_parts}
use Rattle.x10_code.specs.declared.op.Op.{Op}
use Rattle.x10_code.specs.declared.op.Op.TheVariants as op
use Rattle.x10_code.specs.declared.instr.Instr.{Instr}
use Rattle.x10_code.specs.declared.operands.Operand.{Operand}
use Rattle.x10_code.specs.declared.operands.Operand.TheVariants as operand
use Rattle.x10_code.specs.Table.{name_of, form_of}
use Rattle.x10_code.specs.Spelling.{fits_operand, IsInstr}
use Rattle.x10_asm.specs.declared.statement.Statement.TheVariants.{Instruction}
use Rattle.x10_asm.specs.Lines.{stripped, begins}
use Rattle.x10_asm.specs.Checks.{number_at}
use Rattle.x10_asm.specs.Labels.{Label}
use Rattle.x10_asm.specs.Statements.{statement_of}
use Rattle.x10_asm.specs.Operands.{operand_at, last_at, target_at, numbered, named_or_number, instruction_of}
use Rattle.x10_asm.specs.Listing.{operand_word, operand_words}
use Rattle.x10_asm.proofs.SpelledLines.{IsWord}
use Rattle.x10_asm.proofs.SpelledWords.{number_again, decimal_word, decimal_begins}

-- ---- names

pub said_name : (o : Op) → statement_of (name_of o) ≡ Instruction o
unfolding statement_of
said_name op.Intk = refl
said_name _ = refl

name_printed : (o : Op) → (nat_lt 0 (length (name_of o)) && list_all (nat_lt 32) (name_of o)) ≡ true
name_printed op.Intk = refl
name_printed _ = refl

pub name_is_word : (o : Op) → IsWord (name_of o)
name_is_word o =
    let p = and_parts (nat_lt 0 (length (name_of o))) (list_all (nat_lt 32) (name_of o)) (name_printed o) in
    record { some = ltb-true 0 (length (name_of o)) p.0; printed = p.1 }

-- ---- operands

one_number_again : (most n : ℕ) (rest : List (List ℕ)) → n ≤ most → n < 2 ^ 64 → number_at most (decimal n ∷ rest) ≡ Ok (n, rest)
one_number_again most n rest le small = rw (number_again most n le small) refl

pub operand_again : (o : Operand) (most n : ℕ) (rest : List (List ℕ)) → fits_operand o n ≡ true → n ≤ most → n < 2 ^ 64
    → operand_at o most (operand_word o n ++ rest) ≡ Ok (n, rest)
operand_again operand.Unused most n rest f le small = ap (λ (k : ℕ). Ok (k, rest)) (sym (eqb-true n 0 f))
operand_again operand.Register most n rest f le small = one_number_again most n rest le small
operand_again _ most n rest f le small = one_number_again most n rest le small

not_stripped : (ds : List ℕ) → begins 64 ds ≡ false → stripped (64 ∷ []) ds ≡ None
not_stripped [] h = refl
not_stripped (d ∷ ds) h = rw h refl

no_name : (n : ℕ) → n < 2 ^ 64 → stripped (64 ∷ []) (decimal n) ≡ None
no_name n small = not_stripped (decimal n) (decimal_begins 64 n (inr (omega arith)) small)

target_again : (n : ℕ) → n ≤ 4294967295 → n < 2 ^ 64 → target_at (decimal n ∷ []) ≡ Ok (record { name = None; number = n; others = [] })
target_again n le small = ap (λ (o : Option (List ℕ)). named_or_number o (decimal n) []) (no_name n small)
    ∙ ap numbered (one_number_again 4294967295 n [] le small)

pub last_again : (o : Operand) (n : ℕ) → fits_operand o n ≡ true → n ≤ 4294967295 → n < 2 ^ 64
    → last_at o (operand_word o n) ≡ Ok (record { name = None; number = n; others = [] })
last_again operand.Unused n f le small = ap (λ (k : ℕ). Ok (record { name = None; number = k; others = [] })) (sym (eqb-true n 0 f))
last_again operand.Target n f le small = target_again n le small
last_again operand.Register n f le small = ap numbered (one_number_again 4294967295 n [] le small)
last_again _ n f le small = ap numbered (one_number_again 4294967295 n [] le small)

pub instruction_again : (labels : List Label) (count : ℕ) (i : Instr) → IsInstr i → count < 4096
    → instruction_of labels true count i.op (operand_words i) ≡ Ok i
unfolding instruction_of operand_words
instruction_again labels count i h few =
    let p = and_parts (fits_operand (form_of i.op).a i.a && fits_operand (form_of i.op).b i.b && fits_operand (form_of i.op).c i.c)
    (fits_operand (form_of i.op).x i.x) h.form in
    let q = and_parts (fits_operand (form_of i.op).a i.a && fits_operand (form_of i.op).b i.b) (fits_operand (form_of i.op).c i.c) p.0 in
    let r = and_parts (fits_operand (form_of i.op).a i.a) (fits_operand (form_of i.op).b i.b) q.0 in
    let last = operand_word (form_of i.op).x i.x in
    rw (
      operand_again (form_of i.op).a 255 i.a (operand_word (form_of i.op).b i.b ++ (operand_word (form_of i.op).c i.c ++ last)) r.0
          (omega (arith, h.a)) (omega (arith, h.a)),
      operand_again (form_of i.op).b 255 i.b (operand_word (form_of i.op).c i.c ++ last) r.1 (omega (arith, h.b)) (omega (arith, h.b)),
      operand_again (form_of i.op).c 255 i.c last q.1 (omega (arith, h.c)) (omega (arith, h.c)),
      last_again (form_of i.op).x i.x p.1 (omega (arith, h.x)) (omega (arith, h.x)),
      lt-ltb count 4096 few,
    ) refl

operand_is_word : (o : Operand) (n : ℕ) → n < 2 ^ 64 → AllByRecursion IsWord (operand_word o n)
operand_is_word operand.Unused n small = tt
operand_is_word operand.Register n small = (decimal_word n small, tt)
operand_is_word _ n small = (decimal_word n small, tt)

all_join : (xs ys : List (List ℕ)) → AllByRecursion IsWord xs → AllByRecursion IsWord ys → AllByRecursion IsWord (xs ++ ys)
all_join [] ys h k = k
all_join (x ∷ xs) ys h k = (h.0, all_join xs ys h.1 k)

pub operands_are_words : (i : Instr) → IsInstr i → AllByRecursion IsWord (operand_words i)
unfolding operand_words
operands_are_words i h =
    all_join (operand_word (form_of i.op).a i.a) _ (operand_is_word (form_of i.op).a i.a (omega (arith, h.a)))
    (all_join (operand_word (form_of i.op).b i.b) _ (operand_is_word (form_of i.op).b i.b (omega (arith, h.b)))
    (all_join (operand_word (form_of i.op).c i.c) _ (operand_is_word (form_of i.op).c i.c (omega (arith, h.c)))
    (operand_is_word (form_of i.op).x i.x (omega (arith, h.x)))))
