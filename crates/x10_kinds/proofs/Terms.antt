-- Lemmas on terms and their numbers.
use Rattle.std.proofs.Common.{◌≡◌, ◌≢◌, ℕ, ◌<◌, ◌+◌, ◌-◌, true, ◌==◌, ◌&&◌, ◌||◌, List, Some, None, if◌then◌else◌, slice_index, refl, sym, ◌∙◌, ap, subst, arith, inl, inr}
use Rattle.std.proofs.lemmas.Bool.{eq-eqb, eqb-true, cases_lt, cases_eq, cases_Bool}
use Rattle.std.proofs.lemmas.Bool.Decides.{nat_tests}
use Rattle.x10_kinds.specs.declared.homes.Term.{Term}
use Rattle.x10_kinds.specs.declared.homes.Term.TheVariants.{Here, Place, Reg}
use Rattle.x10_kinds.specs.Labels.{alike, parted_row}
use Rattle.x10_kinds.specs.Equations.{IsTerm, index_of, same_term, read_as, Equations, SameEquations, joined, written}

-- the number of a term is below 129
pub index_of-below : (v : Term) → IsTerm v → index_of v < 129
index_of-below Here h = omega arith
index_of-below (Place p) h = omega arith
index_of-below (Reg r) h = omega arith

-- each number below 129 is that of a term
pub term_at : (i : ℕ) → i < 129 → (v : Term) × IsTerm v × (index_of v ≡ i)
term_at i within =
    elim (cases_eq i 0) [
      | inl zero ↦ (Here, tt, sym zero)
      | inr above ↦ elim (cases_lt i 65) [
        | inl place ↦ (Place (i - 1), omega arith, omega arith)
        | inr register ↦ (Reg (i - 65), omega arith, omega arith)
      ]
    ]

-- two terms are the same where their numbers are
pub same_term-index_of : (v w : Term) → IsTerm v → IsTerm w → same_term v w ≡ (index_of v == index_of w)
same_term-index_of Here Here hv hw = refl
same_term-index_of Here (Place q) hv hw = grind (arith, nat_tests)
same_term-index_of Here (Reg s) hv hw = grind (arith, nat_tests)
same_term-index_of (Place p) Here hv hw = grind (arith, nat_tests)
same_term-index_of (Place p) (Place q) hv hw = grind (arith, nat_tests)
same_term-index_of (Place p) (Reg s) hv hw = grind (arith, nat_tests)
same_term-index_of (Reg r) Here hv hw = grind (arith, nat_tests)
same_term-index_of (Reg r) (Place q) hv hw = grind (arith, nat_tests)
same_term-index_of (Reg r) (Reg s) hv hw = grind (arith, nat_tests)

pub same_term-same : (v : Term) → same_term v v ≡ true
same_term-same Here = refl
same_term-same (Place p) = eq-eqb p p refl
same_term-same (Reg r) = eq-eqb r r refl

pub same_term-is : (v w : Term) → same_term v w ≡ true → v ≡ w
same_term-is Here Here e = refl
same_term-is (Place p) (Place q) e = ap Place (eqb-true p q e)
same_term-is (Reg r) (Reg s) e = ap Reg (eqb-true r s e)
same_term-is _ _ e = cc

pub index_of-injective : (v w : Term) → IsTerm v → IsTerm w → index_of v ≡ index_of w → v ≡ w
index_of-injective v w v_term w_term e =
    same_term-is v w (same_term-index_of v w v_term w_term ∙ eq-eqb (index_of v) (index_of w) e)

-- what is known of all terms is known of all numbers
pub known_of_numbers : (row less : List ℕ)
    → ((v w : Term) → IsTerm v → IsTerm w → alike less (index_of v) (index_of w) ≡ true → alike row (index_of v) (index_of w) ≡ true)
    → (i k : ℕ) → i < 129 → k < 129 → alike less i k ≡ true → alike row i k ≡ true
known_of_numbers row less all i k i_within k_within =
    let at_i : (v : Term) × IsTerm v × (index_of v ≡ i) = term_at i i_within in
    let at_k : (v : Term) × IsTerm v × (index_of v ≡ k) = term_at k k_within in
    let P : ℕ → ℕ → Type 0 = λ x y. alike less x y ≡ true → alike row x y ≡ true in
    subst (λ x. P x k) at_i.2 (subst (λ y. P (index_of at_i.0) y) at_k.2 (all at_i.0 at_k.0 at_i.1 at_k.1))

-- a term that is parted from its class and put into another has the other's label
pub moved : (row : List ℕ) (at to i k : ℕ) → to ≢ at
    → (parted_row row at i k || (parted_row row at i at && parted_row row at to k) || (parted_row row at i to && parted_row row at at k))
    ≡ alike row (if i == at then to else i) (if k == at then to else k)
moved row at to i k other =
    elim (cases_eq i at) [
      | inl i_is ↦ elim (cases_eq k at) [
        | inl k_is ↦ let same : slice_index row i ≡ slice_index row k = ap (slice_index row) (i_is ∙ sym k_is) in grind (arith, nat_tests)
        | inr k_not ↦ let same : to ≡ k → slice_index row to ≡ slice_index row k = λ e. ap (slice_index row) e in grind (arith, nat_tests)
      ]
      | inr i_not ↦ elim (cases_eq k at) [
        | inl k_is ↦ let same : i ≡ to → slice_index row i ≡ slice_index row to = λ e. ap (slice_index row) e in grind (arith, nat_tests)
        | inr k_not ↦ let same : i ≡ k → slice_index row i ≡ slice_index row k = λ e. ap (slice_index row) e in grind (arith, nat_tests)
      ]
    ]

-- a register that has left its class, by the numbers and by the terms
pub parted-terms : (old new : List ℕ) (reg at : ℕ) → reg < 64 → at ≡ reg + 65
    → ((i k : ℕ) → i < 129 → k < 129 → alike new i k ≡ parted_row old at i k)
    → SameEquations (λ v w. alike new (index_of v) (index_of w)) (written (λ v w. alike old (index_of v) (index_of w)) reg None)
parted-terms old new reg at register at_is numbers v w v_term w_term =
    let one = same_term-index_of v w v_term w_term in
    let two = same_term-index_of v (Reg reg) v_term register in
    let three = same_term-index_of w (Reg reg) w_term register in
    let four = numbers (index_of v) (index_of w) (index_of-below v v_term) (index_of-below w w_term) in
    cc

-- what two terms say once a register has left its class
pub parted-written : (row : List ℕ) (mid : Equations) (reg : ℕ) → reg < 64
    → SameEquations mid (written (λ v w. alike row (index_of v) (index_of w)) reg None)
    → (v w : Term) → IsTerm v → IsTerm w → mid v w ≡ parted_row row (reg + 65) (index_of v) (index_of w)
parted-written row mid reg register same v w v_term w_term =
    let one = same_term-index_of v w v_term w_term in
    let two = same_term-index_of v (Reg reg) v_term register in
    let three = same_term-index_of w (Reg reg) w_term register in
    let four = same v w v_term w_term in
    cc

-- the number of what a term stood for
pub index_of-read_as : (reg : ℕ) (t v : Term) → reg < 64 → IsTerm v
    → index_of (read_as reg t v) ≡ (if index_of v == reg + 65 then index_of t else index_of v)
index_of-read_as reg t v register v_term =
    let one = same_term-index_of v (Reg reg) v_term register in
    elim (cases_Bool (index_of v == reg + 65)) [ inl is ↦ rw (one, is) | inr is_not ↦ rw (one, is_not) ]

-- a register that has left its class and joined that of a term stands for the term
pub rejoined : (row : List ℕ) (mid : Equations) (reg : ℕ) (t : Term) → reg < 64 → IsTerm t → t ≢ Reg reg
    → SameEquations mid (written (λ v w. alike row (index_of v) (index_of w)) reg None)
    → SameEquations (joined mid (Reg reg) t) (written (λ v w. alike row (index_of v) (index_of w)) reg (Some t))
rejoined row mid reg t register t_term other same v w v_term w_term =
    let parts : (v w : Term) → IsTerm v → IsTerm w → mid v w ≡ parted_row row (reg + 65) (index_of v) (index_of w) =
    parted-written row mid reg register same in
    let number : index_of t ≢ reg + 65 = λ e. other (index_of-injective t (Reg reg) t_term register e) in
    rw (
      index_of-read_as reg t v register v_term,
      index_of-read_as reg t w register w_term,
      parts v w v_term w_term,
      parts v (Reg reg) v_term register,
      parts t w t_term w_term,
      parts v t v_term t_term,
      parts (Reg reg) w register w_term,
    )
    (moved row (reg + 65) (index_of t) (index_of v) (index_of w) number)
