-- How many numbers have a property.
use Rattle.std.proofs.Common.{◌≡◌, ℕ, ◌+◌, ◌-◌, ◌<◌, ◌==◌, List, [], ◌∷◌, inl, inr, if◌then◌else◌, refl, sym, ◌∙◌, ap, subst, arith}
use Rattle.std.proofs.lemmas.Bool.{eq-eqb, ne_eqb, cases_eq}
use Rattle.x10_finish.specs.Telling.{Among, AreOnce, size_of, HowMany}

abbrev without : ℕ → List ℕ → List ℕ
without k [] = []
without k (x ∷ xs) = if x == k then xs else x ∷ without k xs

without_here : (k x : ℕ) (xs : List ℕ) → x ≡ k → without k (x ∷ xs) ≡ xs
without_here k x xs e = (let t = eq-eqb x k e in rw t refl)

without_there : (k x : ℕ) (xs : List ℕ) → (x ≡ k → ⊥) → without k (x ∷ xs) ≡ x ∷ without k xs
without_there k x xs apart = (let t = ne_eqb x k apart in rw t refl)

among_before : (k j : ℕ) (xs : List ℕ) → Among j (without k xs) → Among j xs
among_before k j [] m = m
among_before k j (x ∷ xs) m = elim (cases_eq x k) [
  | inl e ↦ inr (subst (Among j) (without_here k x xs e) m)
  | inr apart ↦ elim (subst (Among j) (without_there k x xs apart) m) [ inl is ↦ inl is | inr rest ↦ inr (among_before k j xs rest) ]
]

among_after : (k j : ℕ) (xs : List ℕ) → Among j xs → (j ≡ k → ⊥) → Among j (without k xs)
among_after k j [] m other = m
among_after k j (x ∷ xs) m other = elim (cases_eq x k) [
  | inl e ↦ subst (Among j) (sym (without_here k x xs e)) (elim m [ inl is ↦ absurd (other (sym is ∙ e)) | inr rest ↦ rest ])
  | inr apart ↦ subst (Among j) (sym (without_there k x xs apart)) (elim m [ inl is ↦ inl is | inr rest ↦ inr (among_after k j xs rest other) ])
]

among_none : (k : ℕ) (xs : List ℕ) → AreOnce xs → Among k (without k xs) → ⊥
among_none k [] o m = m
among_none k (x ∷ xs) o m = elim (cases_eq x k) [
  | inl e ↦ o.0 (subst (λ j. Among j xs) (sym e) (subst (Among k) (without_here k x xs e) m))
  | inr apart ↦ elim (subst (Among k) (without_there k x xs apart) m) [ inl is ↦ apart is | inr rest ↦ among_none k xs o.1 rest ]
]

without_once : (k : ℕ) (xs : List ℕ) → AreOnce xs → AreOnce (without k xs)
without_once k [] o = tt
without_once k (x ∷ xs) o = elim (cases_eq x k) [
  | inl e ↦ subst AreOnce (sym (without_here k x xs e)) o.1
  | inr apart ↦ subst AreOnce (sym (without_there k x xs apart)) ((λ m. o.0 (among_before k x xs m)), without_once k xs o.1)
]

without_size : (k : ℕ) (xs : List ℕ) → Among k xs → size_of (without k xs) + 1 ≡ size_of xs
without_size k [] m = absurd m
without_size k (x ∷ xs) m = elim (cases_eq x k) [
  | inl e ↦ ap (λ ys. size_of ys + 1) (without_here k x xs e)
  | inr apart ↦ (let less = without_size k xs (elim m [ inl is ↦ absurd (apart is) | inr rest ↦ rest ]) in
      let size = ap size_of (without_there k x xs apart) in
      omega (arith, less, size))
]

pub many_same : (P Q : ℕ → Type 0) (n : ℕ) → HowMany P n → ((k : ℕ) → P k → Q k) → ((k : ℕ) → Q k → P k) → HowMany Q n
many_same P Q n h on back = record { keys = h.keys; size = h.size; once = h.once; all = λ k q. h.all k (back k q); only = λ k m. on k (h.only k m) }

pub many_more : (P Q : ℕ → Type 0) (n k : ℕ) → HowMany P n → (P k → ⊥) → Q k → ((j : ℕ) → (j ≡ k → ⊥) → P j → Q j)
    → ((j : ℕ) → (j ≡ k → ⊥) → Q j → P j) → HowMany Q (n + 1)
many_more P Q n k h new now on back = record {
  keys = k ∷ h.keys;
  size = ap (λ x. x + 1) h.size;
  once = ((λ m. new (h.only k m)), h.once);
  all = λ j q. elim (cases_eq j k) [ inl e ↦ inl (sym e) | inr apart ↦ inr (h.all j (back j apart q)) ];
  only = λ j m. elim m [ inl e ↦ subst Q e now | inr rest ↦ on j (λ e. new (h.only k (subst (λ x. Among x h.keys) e rest))) (h.only j rest) ];
}

pub many_less : (P Q : ℕ → Type 0) (n k : ℕ) → HowMany P n → P k → (Q k → ⊥) → ((j : ℕ) → (j ≡ k → ⊥) → P j → Q j)
    → ((j : ℕ) → (j ≡ k → ⊥) → Q j → P j) → HowMany Q (n - 1)
many_less P Q n k h was gone on back = record {
  keys = without k h.keys;
  size = (let less = without_size k h.keys (h.all k was) in let size = h.size in omega (arith, less, size));
  once = without_once k h.keys h.once;
  all = λ j q. (let apart : j ≡ k → ⊥ = λ e. gone (subst Q e q) in among_after k j h.keys (h.all j (back j apart q)) apart);
  only = λ j m. on j (λ e. among_none k h.keys h.once (subst (λ x. Among x (without k h.keys)) e m)) (h.only j (among_before k j h.keys m));
}

some_size : (k : ℕ) (xs : List ℕ) → Among k xs → 0 < size_of xs
some_size k [] m = absurd m
some_size k (x ∷ xs) m = omega arith

pub many_some : (P : ℕ → Type 0) (n k : ℕ) → HowMany P n → P k → 0 < n
many_some P n k h p = (let lt = some_size k h.keys (h.all k p) in let size = h.size in omega (arith, lt, size))

none_size : (xs : List ℕ) → ((k : ℕ) → Among k xs → ⊥) → size_of xs ≡ 0
none_size [] h = refl
none_size (x ∷ xs) h = absurd (h x (inl refl))

pub many_none : (P : ℕ → Type 0) (n : ℕ) → HowMany P n → ((k : ℕ) → P k → ⊥) → n ≡ 0
many_none P n h none = sym h.size ∙ none_size h.keys (λ k m. none k (h.only k m))

pub none_many : (P : ℕ → Type 0) → ((k : ℕ) → P k → ⊥) → HowMany P 0
none_many P none = record { keys = []; size = refl; once = tt; all = λ k p. none k p; only = λ k m. absurd m }
