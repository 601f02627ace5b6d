-- A pass over a function's instructions that looks for the first one that fails a test.
use Rattle.std.proofs.Common.{subst, ◌≡◌, ℕ, zero, suc, ◌+◌, ◌<◌, ◌≤◌, Bool, true, false, List, [], ◌∷◌, length, drop, Option, Some, None, refl, sym, ap, ◌∙◌, arith}
use Rattle.std.specs.Prelude.{if◌then◌else◌, slice_get}
use Rattle.std.proofs.lemmas.List.{drop_more}
use Rattle.std.proofs.lemmas.Option.{get_or_from_slice_get, slice_get_within}
use Rattle.x10_code.specs.declared.instr.Instr.{Instr}
use Rattle.x10_model.specs.Structure.{first_failing}
use Rattle.x10_model.proofs.Decided.{get_below}

pub drop-at : (code : List Instr) (pc : ℕ) (i : Instr) → slice_get code pc ≡ Some i → drop pc code ≡ i ∷ drop (pc + 1) code
drop-at code pc i e =
    let lt : pc < length code = slice_get_within code pc i e in
    drop_more code pc i lt ∙ ap (λ (j : Instr). j ∷ drop (pc + 1) code) (get_or_from_slice_get code pc i i e)

pub drop-end : {A : Type 0} (code : List A) (pc : ℕ) → length code ≤ pc → drop pc code ≡ []
drop-end [] zero le = refl
drop-end [] (suc pc) le = refl
drop-end (i ∷ code) zero le = absurd (omega arith)
drop-end (i ∷ code) (suc pc) le = drop-end code pc (omega arith)

failing_more : (test : ℕ → Instr → Bool) (code : List Instr) (pc : ℕ) (i : Instr) → slice_get code pc ≡ Some i
    → first_failing test pc (drop pc code) ≡ (if test pc i then first_failing test (pc + 1) (drop (pc + 1) code) else Some pc)
failing_more test code pc i e = ap (first_failing test pc) (drop-at code pc i e)

-- one instruction more passes
pub goes_on : (test : ℕ → Instr → Bool) (code : List Instr) (pc : ℕ) (b : Bool) (whole : Option ℕ) → pc < length code
    → ((i : Instr) → slice_get code pc ≡ Some i → b ≡ test pc i) → b ≡ true
    → whole ≡ first_failing test pc (drop pc code) → whole ≡ first_failing test (pc + 1) (drop (pc + 1) code)
goes_on test code pc b whole lt says passes so_far =
    let at = get_below code pc lt in
    so_far ∙ failing_more test code pc at.0 at.1 ∙ ap (λ (t : Bool). if t then first_failing test (pc + 1) (drop (pc + 1) code) else Some pc)
    (sym (says at.0 at.1) ∙ passes)

-- an instruction fails
pub fails : (test : ℕ → Instr → Bool) (code : List Instr) (pc : ℕ) (b : Bool) (whole : Option ℕ) → pc < length code
    → ((i : Instr) → slice_get code pc ≡ Some i → b ≡ test pc i) → b ≡ false
    → whole ≡ first_failing test pc (drop pc code) → whole ≡ Some pc
fails test code pc b whole lt says failed so_far =
    let at = get_below code pc lt in
    so_far ∙ failing_more test code pc at.0 at.1 ∙ ap (λ (t : Bool). if t then first_failing test (pc + 1) (drop (pc + 1) code) else Some pc)
    (sym (says at.0 at.1) ∙ failed)

-- all have passed
pub passes : (test : ℕ → Instr → Bool) (code : List Instr) (pc : ℕ) (whole : Option ℕ) → length code ≤ pc
    → whole ≡ first_failing test pc (drop pc code) → whole ≡ None
passes test code pc whole le so_far = so_far ∙ ap (first_failing test pc) (drop-end code pc le)

passed_or_failed : (b : Bool) (rest : Option ℕ) (pc : ℕ) → (if b then rest else Some pc) ≡ None → (b ≡ true) × (rest ≡ None)
passed_or_failed true rest pc e = (refl, e)
passed_or_failed false rest pc e = absurd cc

none_fails_from : (test : ℕ → Instr → Bool) (start : ℕ) (code : List Instr) (pc : ℕ) (i : Instr) → first_failing test start code ≡ None
    → slice_get code pc ≡ Some i → test (start + pc) i ≡ true
none_fails_from test start [] pc i none at = absurd cc
none_fails_from test start (j ∷ code) zero i none at =
    let n : start ≡ start + 0 = omega arith in
    let same : j ≡ i = cc in
    subst (λ (k : ℕ). test k i ≡ true) n (subst (λ (k : Instr). test start k ≡ true) same
    (passed_or_failed (test start j) (first_failing test (start + 1) code) start none).0)
none_fails_from test start (j ∷ code) (suc pc) i none at =
    let n : start + 1 + pc ≡ start + suc pc = omega arith in
    subst (λ (k : ℕ). test k i ≡ true) n (none_fails_from test (start + 1) code pc i
    (passed_or_failed (test start j) (first_failing test (start + 1) code) start none).1 at)

-- where no instruction fails, each passes
pub none_fails : (test : ℕ → Instr → Bool) (code : List Instr) (pc : ℕ) (i : Instr) → first_failing test 0 code ≡ None → slice_get code pc ≡ Some i
    → test pc i ≡ true
none_fails test code pc i none at = let n : 0 + pc ≡ pc = omega arith in
    subst (λ (k : ℕ). test k i ≡ true) n (none_fails_from test 0 code pc i none at)
