-- The sum of steps, instruction by instruction, each number cut at the same greatest one.
use Rattle.std.proofs.Common.{◌≡◌, ℕ, ◌+◌, ◌*◌, ◌^◌, ◌≤◌, List, length, drop, Some, sym, ap, ◌∙◌, add_assoc, arith}
use Rattle.std.specs.Prelude.{slice_get}
use Rattle.x10_code.specs.declared.instr.Instr.{Instr}
use Rattle.x10_model.specs.Structure.{around, cost, weight, steps_from}
use Rattle.x10_bounds.specs.Spots.{capped}
use Rattle.x10_bounds.proofs.Capped.{left_factor, right_factor, left_summand, right_summand}
use Rattle.x10_bounds.proofs.FirstFailure.{drop-at, drop-end}

abbrev most : ℕ
most = 2 ^ 48 + 1

product_is : (a b c w : ℕ) → a ≡ capped c → b ≡ capped w → capped (a * b) ≡ capped (c * w)
product_is a b c w ea eb = ap (λ (n : ℕ). capped (n * b)) ea ∙ ap (λ (n : ℕ). capped (capped c * n)) eb ∙ right_factor (capped c) w most
    ∙ left_factor c w most

-- one instruction more
pub sum_more : (earlier : List ℕ) (code : List Instr) (pc : ℕ) (i : Instr) (steps next product c w whole : ℕ) → slice_get code pc ≡ Some i
    → c ≡ capped (cost earlier i) → w ≡ capped (weight (around code pc)) → product ≡ capped (c * w) → next ≡ capped (steps + product)
    → capped (steps + steps_from earlier code pc (drop pc code)) ≡ whole
    → capped (next + steps_from earlier code (pc + 1) (drop (pc + 1) code)) ≡ whole
sum_more earlier code pc i steps next product c w whole at is_cost is_weight is_product is_next so_far =
    let rest : ℕ = steps_from earlier code (pc + 1) (drop (pc + 1) code) in
    let term : ℕ = cost earlier i * weight (around code pc) in
    let p : product ≡ capped term = is_product ∙ product_is c w (cost earlier i) (weight (around code pc)) is_cost is_weight in
    ap (λ (n : ℕ). capped (n + rest)) (is_next ∙ ap (λ (n : ℕ). capped (steps + n)) p ∙ right_summand steps term most)
    ∙ left_summand (steps + term) rest most
    ∙ ap capped (add_assoc steps term rest)
    ∙ ap (λ (xs : List Instr). capped (steps + steps_from earlier code pc xs)) (sym (drop-at code pc i at))
    ∙ so_far

-- all instructions
pub sum_done : (earlier : List ℕ) (code : List Instr) (pc steps whole : ℕ) → length code ≤ pc → steps ≡ capped steps
    → capped (steps + steps_from earlier code pc (drop pc code)) ≡ whole → steps ≡ whole
sum_done earlier code pc steps whole le cut so_far =
    let z : steps + 0 ≡ steps = omega arith in
    cut ∙ sym (ap (λ (xs : List Instr). capped (steps + steps_from earlier code pc xs)) (drop-end code pc le) ∙ ap capped z) ∙ so_far

pub capped-capped : (a n : ℕ) → a ≡ capped n → a ≡ capped a
capped-capped a n e = grind arith
