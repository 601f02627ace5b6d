-- Maps of numbers, and entries of cuts.
use Rattle.std.proofs.Common.{◌≡◌, ℕ, inl, inr, sym, subst, arith}
use Rattle.std.proofs.lemmas.Bool.{ne_eqb, eq-eqb, cases_eq}
use Rattle.x10_model.specs.Maps.{with_entry, with_pair}
use Rattle.x10_model.specs.Totals.{Entry, larger}
use Rattle.x10_model.proofs.Maps.{at_key, off_key}
use Rattle.x10_finish.specs.Detection.{IsBelow}
use Rattle.x10_finish.proofs.Balances.{same_entry}

-- ---- maps

-- what holds of the new value and of each other one holds of all
pub at_entry : {V : Type 0} (P : V → Type 0) (f : ℕ → V) (k j : ℕ) (v : V) → (j ≡ k → P v) → ((j ≡ k → ⊥) → P (f j)) → P (with_entry f k v j)
at_entry P f k j v here there = elim (cases_eq j k) [
  | inl same ↦ subst P (sym (subst (λ x. with_entry f k v x ≡ v) (sym same) (at_key f k v))) (here same)
  | inr apart ↦ subst P (sym (off_key f k j v apart)) (there apart)
]

-- the same for pairs
pub at_pair : {V : Type 0} (P : V → Type 0) (f : ℕ → ℕ → V) (i j a b : ℕ) (v : V) → (a ≡ i → b ≡ j → P v) → (((a ≡ i) × (b ≡ j) → ⊥) → P (f a b))
    → P (with_pair f i j v a b)
at_pair P f i j a b v here there = elim (cases_eq a i) [
  | inl ea ↦ elim (cases_eq b j) [
    | inl eb ↦ (let p = eq-eqb a i ea in let q = eq-eqb b j eb in rw (p, q) (here ea eb))
    | inr nb ↦ (let q = ne_eqb b j nb in rw (eq-eqb a i ea, q) (there (λ both. nb both.1)))
  ]
  | inr na ↦ (let p = ne_eqb a i na in rw p (there (λ both. na both.0)))
]

-- ---- entries

pub below_itself : (e : Entry) → IsBelow e e
below_itself e = record { sent = λ q. omega arith; received = λ q. omega arith }

pub below_same : (e f : Entry) → e ≡ f → IsBelow e f
below_same e f s = subst (IsBelow e) s (below_itself e)

pub larger_second : (e f : Entry) → IsBelow e f → larger e f ≡ f
larger_second e f h = same_entry (larger e f) f (λ q. let x = h.sent q in omega arith) (λ q. let x = h.received q in omega arith)

pub larger_first : (e f : Entry) → IsBelow f e → larger e f ≡ e
larger_first e f h = same_entry (larger e f) e (λ q. let x = h.sent q in omega arith) (λ q. let x = h.received q in omega arith)
