-- Texts that are cut at the first byte of a value.
use Rattle.std.proofs.Common.{◌≡◌, ◌≢◌, ℕ, suc, ◌+◌, ◌<◌, inl, inr, true, not, List, [], ◌∷◌, ◌++◌, length, take, get_or, Option, Some, None, Bor, refl, sym, ap, ap₂, ◌∙◌, append-nil, arith}
use Rattle.std.specs.Prelude.{◌==◌, IfSome, IfNone, MatchOption}
use Rattle.std.specs.List.{list_all, position_or_len, before_first, after_first}
use Rattle.std.proofs.lemmas.Bool.{cases_eq, eq-eqb, ne_eqb, eqb-true, and_from, and_parts, not_from_false, false≢true}
use Rattle.std.proofs.lemmas.List.{take_all}
use Rattle.std.proofs.lemmas.List.Folds.{list_all-append}
use Rattle.std.proofs.lemmas.List.Sums.{split_at_first, passes_at_first}
use Rattle.x10_log.specs.Reading.{Lacks, IsEnd}

-- ---- what lacks a byte

pub lacks_cons : (c b : ℕ) (bs : List ℕ) → b ≢ c → Lacks c bs → Lacks c (b ∷ bs)
lacks_cons c b bs n h = and_from (not (b == c)) (list_all (λ x. not (x == c)) bs) (not_from_false (b == c) (ne_eqb b c n)) h

not_here : (c b : ℕ) → not (b == c) ≡ true → b ≢ c
not_here c b h e = false≢true (ap not (sym (eq-eqb b c e)) ∙ h)

pub lacks_head : (c b : ℕ) (bs : List ℕ) → Lacks c (b ∷ bs) → b ≢ c
lacks_head c b bs h = not_here c b (and_parts (not (b == c)) (list_all (λ x. not (x == c)) bs) h).0

pub lacks_rest : (c b : ℕ) (bs : List ℕ) → Lacks c (b ∷ bs) → Lacks c bs
lacks_rest c b bs h = (and_parts (not (b == c)) (list_all (λ x. not (x == c)) bs) h).1

pub lacks_append : (c : ℕ) (xs ys : List ℕ) → Lacks c xs → Lacks c ys → Lacks c (xs ++ ys)
lacks_append c xs ys h k = list_all-append (λ x. not (x == c)) xs ys
    ∙ and_from (list_all (λ x. not (x == c)) xs) (list_all (λ x. not (x == c)) ys) h k

-- ---- cutting

front_more : (b n : ℕ) (bs : List ℕ) → take (1 + n) (b ∷ bs) ≡ b ∷ take n bs
front_more b n bs = let on : 1 + n ≡ suc n = omega arith in ap (λ (k : ℕ). take k (b ∷ bs)) on

lacks_front : (c : ℕ) (bs : List ℕ) → Lacks c (before_first (λ b. b == c) bs)
lacks_front c [] = refl
lacks_front c (b ∷ bs) = elim (cases_eq b c) [
  | inl e ↦ rw (eq-eqb b c e) refl
  | inr n ↦ rw (ne_eqb b c n, front_more b (position_or_len (λ x. x == c) bs) bs) (lacks_cons c b (before_first (λ x. x == c) bs) n
      (lacks_front c bs))
]

lacks_all : (c : ℕ) (bs : List ℕ) → position_or_len (λ b. b == c) bs ≡ length bs → Lacks c bs
lacks_all c bs e = rw (take_all (position_or_len (λ b. b == c) bs) bs (omega (arith, e))) at (lacks_front c bs)

cut_here : (c : ℕ) (bs : List ℕ) → position_or_len (λ b. b == c) bs < length bs
    → bs ≡ before_first (λ b. b == c) bs ++ c ∷ after_first (λ b. b == c) bs
cut_here c bs lt = split_at_first (λ b. b == c) bs 0 lt
    ∙ ap (λ (b : ℕ). before_first (λ b. b == c) bs ++ b ∷ after_first (λ b. b == c) bs)
    (eqb-true (get_or bs (position_or_len (λ b. b == c) bs) 0) c (passes_at_first (λ b. b == c) bs 0 lt))

pub cut_some : (c : ℕ) (bs : List ℕ) (r : Option (Bor (List ℕ) × Bor (List ℕ)))
    → MatchOption r (position_or_len (λ b. b == c) bs ≡ length bs)
    (λ x. (x.0.now ≡ before_first (λ b. b == c) bs) × (x.1.now ≡ after_first (λ b. b == c) bs) × (position_or_len (λ b. b == c) bs < length bs))
    → IfSome r (λ x. Lacks c x.0.now × (bs ≡ x.0.now ++ c ∷ x.1.now))
cut_some c bs None h = tt
cut_some c bs (Some x) h = (rw h.0 (lacks_front c bs), rw (h.0, h.1) (cut_here c bs h.2))

pub cut_none : (c : ℕ) (bs : List ℕ) (r : Option (Bor (List ℕ) × Bor (List ℕ)))
    → MatchOption r (position_or_len (λ b. b == c) bs ≡ length bs)
    (λ x. (x.0.now ≡ before_first (λ b. b == c) bs) × (x.1.now ≡ after_first (λ b. b == c) bs) × (position_or_len (λ b. b == c) bs < length bs))
    → IfNone r (Lacks c bs)
cut_none c bs None h = lacks_all c bs h
cut_none c bs (Some x) h = tt

-- ---- in one way

abbrev pub tails : (xs : List ℕ) → List ℕ
tails [] = []
tails (x ∷ xs) = xs

-- the first cut is the only one
pub same_cut : (c : ℕ) (xs ys a b : List ℕ) → Lacks c xs → Lacks c ys → xs ++ c ∷ a ≡ ys ++ c ∷ b → (xs ≡ ys) × (a ≡ b)
same_cut c [] [] a b h k e = (refl, ap tails e)
same_cut c [] (y ∷ ys) a b h k e = absurd (lacks_head c y ys k (sym (ap (λ (l : List ℕ). get_or l 0 0) e)))
same_cut c (x ∷ xs) [] a b h k e = absurd (lacks_head c x xs h (ap (λ (l : List ℕ). get_or l 0 0) e))
same_cut c (x ∷ xs) (y ∷ ys) a b h k e =
    let rest = same_cut c xs ys a b (lacks_rest c x xs h) (lacks_rest c y ys k) (ap tails e) in
    (ap (λ (p : List ℕ × ℕ). p.1 ∷ p.0) (ap₂ (λ (l : List ℕ) (n : ℕ). (l, n)) rest.0 (ap (λ (l : List ℕ). get_or l 0 0) e)), rest.1)

-- what has a byte doesn't lack it
pub not_lacking : (c : ℕ) (xs a : List ℕ) → Lacks c (xs ++ c ∷ a) → ⊥
not_lacking c [] a h = lacks_head c c a h refl
not_lacking c (x ∷ xs) a h = not_lacking c xs a (lacks_rest c x (xs ++ c ∷ a) h)

-- what lacks a byte doesn't begin with it
pub begins_not : (c : ℕ) (xs ys more : List ℕ) → Lacks c xs → 0 < length xs → c ∷ ys ≡ xs ++ more → ⊥
begins_not c [] ys more h some e = absurd (omega arith)
begins_not c (x ∷ xs) ys more h some e = lacks_head c x xs h (sym (ap (λ (l : List ℕ). get_or l 0 0) e))

-- ---- words

-- a word and what follows it, where the line is cut at a space
pub word_before : (word rest first tail text : List ℕ) → Lacks 32 word → IsEnd rest → text ≡ word ++ rest → Lacks 32 first → text ≡ first ++ 32 ∷ tail
    → (first ≡ word) × (32 ∷ tail ≡ rest)
word_before word [] first tail text h is e k f =
    absurd (not_lacking 32 first tail (rw (sym f ∙ e ∙ append-nil word) h))
word_before word (r ∷ rest) first tail text h is e k f =
    let space : r ≡ 32 = eqb-true r 32 is in
    let same = same_cut 32 first word tail rest k h (sym f ∙ e ∙ ap (λ (b : ℕ). word ++ b ∷ rest) space) in
    (same.0, ap (λ (l : List ℕ). 32 ∷ l) same.1 ∙ ap (λ (b : ℕ). b ∷ rest) (sym space))

pub word_alone : (word rest text : List ℕ) → IsEnd rest → text ≡ word ++ rest → Lacks 32 text → (text ≡ word) × ([] ≡ rest)
word_alone word [] text is e k = (e ∙ append-nil word, refl)
word_alone word (r ∷ rest) text is e k =
    absurd (not_lacking 32 word rest (rw (e ∙ ap (λ (b : ℕ). word ++ b ∷ rest) (eqb-true r 32 is)) at k))
