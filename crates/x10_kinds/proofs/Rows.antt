-- Lemmas on rows of labels.
use Rattle.std.proofs.Common.{◌≡◌, ◌≢◌, ℕ, zero, suc, ◌<◌, ◌≤◌, ◌+◌, ◌-◌, true, ◌==◌, ◌&&◌, List, [], ◌∷◌, length, slice_index, slice_set, sym, ◌∙◌, ap, arith, inl, inr, refl, subst, get_or-set_other, get_or-set_same, below_more}
use Rattle.std.proofs.lemmas.Bool.{eq-eqb, eqb-true, cases_lt, cases_order}
use Rattle.std.proofs.lemmas.Bool.Decides.{nat_tests}
use Rattle.std.proofs.lemmas.Nat.{le_bytes_8}
use Rattle.x10_kinds.specs.Labels.{AreSameIn, IsCanonical, IsFirstAlike, IsMetTo, alike, eight_from}

-- a term that one row parts from its first one says that the row lacks an equation of the other
pub lacks : (row less : List ℕ) (at : ℕ) → IsCanonical less → at < 129 → slice_index row at ≢ slice_index row (slice_index less at)
    → ((i k : ℕ) → i < 129 → k < 129 → alike less i k ≡ true → alike row i k ≡ true) → ⊥
lacks row less at canonical within parted all =
    let lower : slice_index less at < 129 = omega (arith, canonical.low at within) in
    parted (eqb-true _ _ (all at (slice_index less at) within lower (eq-eqb _ _ (sym (canonical.own at within)))))

-- the first terms of two classes are the same exactly where the classes are
pub first_alike-same : (a b : List ℕ) (i k x y : ℕ) → IsFirstAlike a b i x → IsFirstAlike a b k y → x ≡ y
    → (slice_index a i ≡ slice_index a k) × (slice_index b i ≡ slice_index b k)
first_alike-same a b i k x y one two e =
    (sym one.left ∙ ap (slice_index a) e ∙ two.left, sym one.right ∙ ap (slice_index b) e ∙ two.right)

pub first_alike-unique : (a b : List ℕ) (i k x y : ℕ) → IsFirstAlike a b i x → IsFirstAlike a b k y
    → slice_index a i ≡ slice_index a k → slice_index b i ≡ slice_index b k → x ≡ y
first_alike-unique a b i k x y one two left right =
    elim (cases_order x y) [
      | inl e ↦ e
      | inr rest ↦ elim rest [
        | inl below ↦ absurd (two.least x below (one.left ∙ left) (one.right ∙ right))
        | inr above ↦ absurd (one.least y above (two.left ∙ sym left) (two.right ∙ sym right))
      ]
    ]

pub first_alike-meet : (a b : List ℕ) (i k x y : ℕ) → IsFirstAlike a b i x → IsFirstAlike a b k y
    → (x == y) ≡ (alike a i k && alike b i k)
first_alike-meet a b i k x y one two =
    let same : x ≡ y → (slice_index a i ≡ slice_index a k) × (slice_index b i ≡ slice_index b k) = first_alike-same a b i k x y one two in
    let unique : slice_index a i ≡ slice_index a k → slice_index b i ≡ slice_index b k → x ≡ y = first_alike-unique a b i k x y one two in
    grind (arith, nat_tests)

-- one more first term is found
pub first_alike-set : (a b xs : List ℕ) (at x : ℕ) → at < length xs → ((i : ℕ) → i < at → IsFirstAlike a b i (slice_index xs i))
    → IsFirstAlike a b at x → (i : ℕ) → i < at + 1 → IsFirstAlike a b i (slice_index (slice_set xs at x) i)
first_alike-set a b xs at x within before here =
    below_more (λ i. IsFirstAlike a b i (slice_index (slice_set xs at x) i)) at
    (λ i lt. let other : i ≢ at = omega arith in rw get_or-set_other (before i lt))
    (rw get_or-set_same here)

-- the first term of a term's class in one row, where it is in the term's class in the other
pub first_alike-left : (a b : List ℕ) (at : ℕ) → IsCanonical a → at < 129 → slice_index b (slice_index a at) ≡ slice_index b at
    → IsFirstAlike a b at (slice_index a at)
first_alike-left a b at one within same = record {
  low = one.low at within;
  left = one.own at within;
  right = same;
  least = λ i below alike _. let low : slice_index a i ≤ i = one.low i (omega (arith, one.low at within)) in omega arith;
}

pub first_alike-right : (a b : List ℕ) (at : ℕ) → IsCanonical b → at < 129 → slice_index a (slice_index b at) ≡ slice_index a at
    → IsFirstAlike a b at (slice_index b at)
first_alike-right a b at two within same = record {
  low = two.low at within;
  left = same;
  right = two.own at within;
  least = λ i below _ alike. let low : slice_index b i ≤ i = two.low i (omega (arith, two.low at within)) in omega arith;
}

-- a term that has one label in both rows
pub first_alike-equal : (a b : List ℕ) (at : ℕ) → IsCanonical a → IsCanonical b → at < 129 → slice_index a at ≡ slice_index b at
    → IsFirstAlike a b at (slice_index a at)
first_alike-equal a b at one two within same =
    first_alike-left a b at one within (ap (slice_index b) same ∙ two.own at within)

-- where the first term alike isn't the label, the other row lacks an equation
pub first_alike-lacks : (a b : List ℕ) (at first : ℕ) → IsCanonical a → at < 129 → IsFirstAlike a b at first → first ≢ slice_index a at
    → ((i k : ℕ) → i < 129 → k < 129 → alike a i k ≡ true → alike b i k ≡ true) → ⊥
first_alike-lacks a b at first one within is other all =
    let lower : slice_index a at < 129 = omega (arith, one.low at within) in
    let same : slice_index b at ≡ slice_index b (slice_index a at) =
    eqb-true _ _ (all at (slice_index a at) within lower (eq-eqb _ _ (sym (one.own at within)))) in
    other (first_alike-unique a b at at first (slice_index a at) is (first_alike-left a b at one within (sym same)) refl refl)

-- ---- a row that is met with another

-- the row itself, with its first term
pub met_to-begins : (a b : List ℕ) → IsCanonical a → IsCanonical b → IsMetTo a b 1 a
met_to-begins a b one two = record {
  done = λ i below.
      let low : slice_index a i ≤ i = one.low i (omega arith) in
      let other : slice_index b i ≤ i = two.low i (omega arith) in
      first_alike-equal a b i one two (omega arith) (omega arith);
  rest = λ i above. refl;
}

-- terms that have one label in both rows keep it
pub met_to-same : (a b labels : List ℕ) (n m : ℕ) → IsCanonical a → IsCanonical b → n ≤ m → m ≤ 129 → IsMetTo a b n labels
    → AreSameIn a b n m → IsMetTo a b m labels
met_to-same a b labels n m one two more within met same = record {
  done = λ i below. elim (cases_lt i n) [
    | inl before ↦ met.done i before
    | inr after ↦ subst (λ x. IsFirstAlike a b i x) (sym (met.rest i (omega arith)))
        (first_alike-equal a b i one two (omega arith) (same i (omega arith) below))
  ];
  rest = λ i above. met.rest i (omega arith);
}

-- one more term keeps its label
pub met_to-kept : (a b labels : List ℕ) (at : ℕ) → IsMetTo a b at labels → IsFirstAlike a b at (slice_index a at) → IsMetTo a b (at + 1) labels
met_to-kept a b labels at met here = record {
  done = below_more (λ i. IsFirstAlike a b i (slice_index labels i)) at met.done
      (subst (λ x. IsFirstAlike a b at x) (sym (met.rest at (omega arith))) here);
  rest = λ i above. met.rest i (omega arith);
}

-- one more term is given its label
pub met_to-set : (a b labels : List ℕ) (at x : ℕ) → at < length labels → IsMetTo a b at labels → IsFirstAlike a b at x
    → IsMetTo a b (at + 1) (slice_set labels at x)
met_to-set a b labels at x within met here = record {
  done = first_alike-set a b labels at x within met.done here;
  rest = λ i above. let other : i ≢ at = omega arith in rw get_or-set_other (met.rest i (omega arith));
}

-- once all terms are done, the row is canonical and says what both say
pub met_to-canonical : (a b labels : List ℕ) → IsMetTo a b 129 labels → IsCanonical labels
met_to-canonical a b labels met = record {
  low = λ i within. (met.done i within).low;
  own = λ i within.
      let is : IsFirstAlike a b i (slice_index labels i) = met.done i within in
      let first : IsFirstAlike a b (slice_index labels i) (slice_index labels (slice_index labels i)) =
      met.done (slice_index labels i) (omega (arith, is.low)) in
      first_alike-unique a b (slice_index labels i) i _ _ first is is.left is.right;
}

pub met_to-says : (a b labels : List ℕ) → IsMetTo a b 129 labels → (i k : ℕ) → i < 129 → k < 129 → alike labels i k ≡ (alike a i k && alike b i k)
met_to-says a b labels met i k i_within k_within = first_alike-meet a b i k _ _ (met.done i i_within) (met.done k k_within)

-- ---- eight labels as one number

-- what holds of each number below eight
below_eight : (P : ℕ → Type 0) → P 0 → P 1 → P 2 → P 3 → P 4 → P 5 → P 6 → P 7 → (k : ℕ) → k < 8 → P k
below_eight P a b c d e f g h zero lt = a
below_eight P a b c d e f g h (suc zero) lt = b
below_eight P a b c d e f g h (suc (suc zero)) lt = c
below_eight P a b c d e f g h (suc (suc (suc zero))) lt = d
below_eight P a b c d e f g h (suc (suc (suc (suc zero)))) lt = e
below_eight P a b c d e f g h (suc (suc (suc (suc (suc zero))))) lt = f
below_eight P a b c d e f g h (suc (suc (suc (suc (suc (suc zero)))))) lt = g
below_eight P a b c d e f g h (suc (suc (suc (suc (suc (suc (suc zero))))))) lt = h
below_eight P a b c d e f g h (suc (suc (suc (suc (suc (suc (suc (suc k)))))))) lt = absurd (omega arith)

abbrev eight_of : List ℕ → ℕ → List ℕ
eight_of xs at = slice_index xs at ∷ slice_index xs (at + 1) ∷ slice_index xs (at + 2) ∷ slice_index xs (at + 3)
    ∷ slice_index xs (at + 4) ∷ slice_index xs (at + 5) ∷ slice_index xs (at + 6) ∷ slice_index xs (at + 7) ∷ []

eight_of-fits : (xs : List ℕ) (at : ℕ) → ((k : ℕ) → slice_index xs k < 256) → (k : ℕ) → slice_index (eight_of xs at) k < 256
eight_of-fits xs at fits zero = fits at
eight_of-fits xs at fits (suc zero) = fits (at + 1)
eight_of-fits xs at fits (suc (suc zero)) = fits (at + 2)
eight_of-fits xs at fits (suc (suc (suc zero))) = fits (at + 3)
eight_of-fits xs at fits (suc (suc (suc (suc zero)))) = fits (at + 4)
eight_of-fits xs at fits (suc (suc (suc (suc (suc zero))))) = fits (at + 5)
eight_of-fits xs at fits (suc (suc (suc (suc (suc (suc zero)))))) = fits (at + 6)
eight_of-fits xs at fits (suc (suc (suc (suc (suc (suc (suc zero))))))) = fits (at + 7)
eight_of-fits xs at fits (suc (suc (suc (suc (suc (suc (suc (suc k)))))))) = omega arith

-- rows whose eight labels are one number have the same eight labels
pub eight_from-same : (a b : List ℕ) (at : ℕ) → ((k : ℕ) → slice_index a k < 256) → ((k : ℕ) → slice_index b k < 256)
    → eight_from a at ≡ eight_from b at → AreSameIn a b at (at + 8)
unfolding eight_from
eight_from-same a b at a_fits b_fits same i above below =
    let lists : eight_of a at ≡ eight_of b at =
    sym (le_bytes_8 (eight_of a at) _ refl (eight_of-fits a at a_fits) refl)
    ∙ le_bytes_8 (eight_of b at) _ refl (eight_of-fits b at b_fits) same in
    let first : slice_index a (at + 0) ≡ slice_index b (at + 0) =
    subst (λ k. slice_index a k ≡ slice_index b k) (omega arith) (ap (λ l. slice_index l 0) lists) in
    let at_k : (k : ℕ) → k < 8 → slice_index a (at + k) ≡ slice_index b (at + k) = below_eight (λ k. slice_index a (at + k) ≡ slice_index b (at + k))
    first (ap (λ l. slice_index l 1) lists) (ap (λ l. slice_index l 2) lists) (ap (λ l. slice_index l 3) lists)
    (ap (λ l. slice_index l 4) lists) (ap (λ l. slice_index l 5) lists) (ap (λ l. slice_index l 6) lists) (ap (λ l. slice_index l 7) lists) in
    subst (λ k. slice_index a k ≡ slice_index b k) (omega arith) (at_k (i - at) (omega arith))
