-- Lines and words, found by counting bytes.
use Rattle.std.proofs.Common.{◌≡◌, ◌≢◌, ℕ, zero, suc, ◌+◌, ◌-◌, ◌≤◌, ◌<◌, Bool, true, false, ◌&&◌, List, [], ◌∷◌, length, take, drop, get_or, refl, sym, ap, subst, ◌∙◌, arith, add-one, inl, inr, Some, None}
use Rattle.std.specs.Prelude.{◌==◌, if◌then◌else◌, slice_range}
use Rattle.std.proofs.Math.Seq.{drop-cons}
use Rattle.std.proofs.lemmas.List.{drop_all}
use Rattle.std.proofs.lemmas.Bool.{eqb-true, eqb-false, ne_eqb, eq-eqb, cases_Bool, cases_eq, cases_lt, and_from, and_left, and_right}
use Rattle.memchr.specs.Find.{IsFirstByte, is_byte}
use Rattle.x10_asm.specs.Lines.{grown, begins, lines, is_word_end, words, after_spaces, from_space, count_before, without_return}
use Rattle.x10_asm.specs.Statements.{first_word}

-- ---- counting

pub count-within : (c : ℕ) (bs : List ℕ) → count_before c bs ≤ length bs
count-within c [] = omega arith
count-within c (b ∷ bs) = elim (b == c) as (λ t. (if t then 0 else suc (count_before c bs)) ≤ suc (length bs))
    [ true ↦ omega arith | false ↦ omega (arith, count-within c bs) ]

there_cons : (c b : ℕ) (bs : List ℕ) (t : Bool) → (b == c) ≡ t → (count_before c bs < length bs → get_or bs (count_before c bs) 0 ≡ c)
    → (if t then 0 else suc (count_before c bs)) < suc (length bs) → get_or (b ∷ bs) (if t then 0 else suc (count_before c bs)) 0 ≡ c
there_cons c b bs true e h lt = eqb-true b c e
there_cons c b bs false e h lt = h (omega arith)

pub count_there : (c : ℕ) (bs : List ℕ) → count_before c bs < length bs → get_or bs (count_before c bs) 0 ≡ c
count_there c [] lt = absurd (omega arith)
count_there c (b ∷ bs) lt = there_cons c b bs (b == c) refl (count_there c bs) lt

pub count_other : (c : ℕ) (bs : List ℕ) (at : ℕ) → at < length bs → get_or bs at 0 ≢ c
    → count_before c (drop at bs) ≡ suc (count_before c (drop (at + 1) bs))
count_other c bs at lt ne = rw (drop-cons bs at 0 lt, add-one, ne_eqb (get_or bs at 0) c ne) refl

pub count_here : (c : ℕ) (bs : List ℕ) (at : ℕ) → at < length bs → get_or bs at 0 ≡ c → count_before c (drop at bs) ≡ 0
count_here c bs at lt e = rw (drop-cons bs at 0 lt, eq-eqb (get_or bs at 0) c e) refl

pub count_end : (c : ℕ) (bs : List ℕ) (at : ℕ) → length bs ≤ at → count_before c (drop at bs) ≡ 0
count_end c bs at le = rw (drop_all at bs le) refl

before_cons : (c b : ℕ) (bs : List ℕ) (t : Bool) (at : ℕ) → (b == c) ≡ t → ((k : ℕ) → k < count_before c bs → get_or bs k 0 ≢ c)
    → at < (if t then 0 else suc (count_before c bs)) → get_or (b ∷ bs) at 0 ≢ c
before_cons c b bs true at e h lt = absurd (omega arith)
before_cons c b bs false zero e h lt = eqb-false b c e
before_cons c b bs false (suc at) e h lt = h at (omega arith)

-- the bytes before the first are others
pub count_others : (c : ℕ) (bs : List ℕ) (at : ℕ) → at < count_before c bs → get_or bs at 0 ≢ c
count_others c [] at lt = absurd (omega arith)
count_others c (b ∷ bs) at lt = before_cons c b bs (b == c) at refl (count_others c bs) lt

-- the first of a value, found by a search
pub count_found : (c : ℕ) (bs : List ℕ) (at : ℕ) → IsFirstByte (is_byte c) bs (Some at) → at ≡ count_before c bs
count_found c bs at f =
    let here : get_or bs at 0 ≡ c = eqb-true (get_or bs at 0) c f.1 in
    elim (cases_lt at (count_before c bs)) [
      | inl lt ↦ absurd (count_others c bs at lt here)
      | inr le ↦ elim (cases_lt (count_before c bs) at) [
        | inl lt ↦ absurd (f.0.before (count_before c bs) (omega arith) lt
            (eq-eqb (get_or bs (count_before c bs) 0) c (count_there c bs (omega (arith, f.0.high, lt)))))
        | inr ge ↦ omega arith
      ]
    ]

pub count_missed : (c : ℕ) (bs : List ℕ) → IsFirstByte (is_byte c) bs None → length bs ≡ count_before c bs
count_missed c bs f = elim (cases_lt (count_before c bs) (length bs)) [
  | inl lt ↦ absurd (f (count_before c bs) (omega arith) lt (eq-eqb (get_or bs (count_before c bs) 0) c (count_there c bs lt)))
  | inr ge ↦ omega (arith, count-within c bs)
]

-- ---- spaces

pub space_passed : (bs : List ℕ) (at : ℕ) → at < length bs → get_or bs at 0 ≡ 32 → after_spaces (drop at bs) ≡ after_spaces (drop (at + 1) bs)
space_passed bs at lt e = rw (drop-cons bs at 0 lt, add-one, e) refl

-- the spaces at the front of a line are no part of a word
pub words_after_spaces : (cs : List ℕ) → words cs ≡ words (after_spaces cs)
unfolding words
words_after_spaces [] = refl
words_after_spaces (c ∷ cs) = elim (cases_Bool (c == 32)) [ inl e ↦ rw e (words_after_spaces cs) | inr e ↦ simp e ]

pub nil_of : (cs : List ℕ) → length cs ≡ 0 → cs ≡ []
nil_of [] e = refl
nil_of (c ∷ cs) e = absurd (omega arith)

-- a text that follows spaces is empty or begins with another byte
pub record BeginsWord (cs : List ℕ) : Type 0 where
  pub first : ℕ
  pub others : List ℕ
  pub is : cs ≡ first ∷ others
  pub no_space : first ≢ 32

pub begins_word : (cs : List ℕ) → 0 < length (after_spaces cs) → BeginsWord (after_spaces cs)
begins_word [] lt = absurd (omega arith)
begins_word (c ∷ cs) lt = elim (cases_Bool (c == 32)) [
  | inl e ↦ rw e (begins_word cs (rw e at lt))
  | inr e ↦ rw e (record { first = c; others = cs; is = refl; no_space = eqb-false c 32 e })
]

pub from_space_is : (cs : List ℕ) → from_space cs ≡ drop (count_before 32 cs) cs
from_space_is [] = refl
from_space_is (c ∷ cs) = elim (c == 32) as (λ t. (if t then c ∷ cs else from_space cs) ≡ drop (if t then 0 else suc (count_before 32 cs)) (c ∷ cs))
    [ true ↦ refl | false ↦ from_space_is cs ]

pub word_ends : (c : ℕ) (cs : List ℕ) → c ≢ 32 → is_word_end cs ≡ true → words (c ∷ cs) ≡ (c ∷ []) ∷ words cs
unfolding words
word_ends c cs ne e = rw (ne_eqb c 32 ne, e) refl

pub word_goes_on : (c : ℕ) (cs : List ℕ) → c ≢ 32 → is_word_end cs ≡ false → words (c ∷ cs) ≡ grown c (words cs)
unfolding words
word_goes_on c cs ne e = rw (ne_eqb c 32 ne, e) refl

count_next : (c d : ℕ) (ds : List ℕ) → d ≢ c → count_before c (d ∷ ds) ≡ suc (count_before c ds)
count_next c d ds ne = rw (ne_eqb d c ne) refl

pub word_first : (c : ℕ) (cs : List ℕ) → c ≢ 32 → words (c ∷ cs)
    ≡ take (count_before 32 (c ∷ cs)) (c ∷ cs) ∷ words (drop (count_before 32 (c ∷ cs)) (c ∷ cs))
word_first c [] ne = word_ends c [] ne refl ∙ ap (λ (n : ℕ). take n (c ∷ []) ∷ words (drop n (c ∷ []))) (sym (count_next 32 c [] ne))
word_first c (d ∷ ds) ne = elim (cases_eq d 32) [
  | inl e ↦ word_ends c (d ∷ ds) ne (eq-eqb d 32 e) ∙ ap (λ (n : ℕ). take n (c ∷ d ∷ ds) ∷ words (drop n (c ∷ d ∷ ds)))
      (sym (count_next 32 c (d ∷ ds) ne ∙ ap suc (count_here 32 (d ∷ ds) 0 (omega arith) e)))
  | inr e ↦ word_goes_on c (d ∷ ds) ne (ne_eqb d 32 e) ∙ ap (grown c) (word_first d ds e)
      ∙ ap (λ (n : ℕ). take n (c ∷ d ∷ ds) ∷ words (drop n (c ∷ d ∷ ds))) (sym (count_next 32 c (d ∷ ds) ne))
]

-- the word at the front of a text, and what follows it
pub words_front : (cs : List ℕ) → BeginsWord cs → words cs ≡ take (count_before 32 cs) cs ∷ words (drop (count_before 32 cs) cs)
words_front cs b = rw b.is (word_first b.first b.others b.no_space)

-- the first word of a line begins as the line does behind its spaces
pub begins_alike : (k : ℕ) (line : List ℕ) → 0 < length (after_spaces line) → begins k (first_word (words line)) ≡ begins k (after_spaces line)
begins_alike k line some =
    let b = begins_word line some in
    ap (λ (ws : List (List ℕ)). begins k (first_word ws)) (words_after_spaces line ∙ ap words b.is ∙ word_first b.first b.others b.no_space)
    ∙ ap (λ (n : ℕ). begins k (take n (b.first ∷ b.others))) (count_next 32 b.first b.others b.no_space)
    ∙ sym (ap (begins k) b.is)

pub no_words : (cs : List ℕ) → length (after_spaces cs) ≡ 0 → words cs ≡ []
unfolding words
no_words cs e = words_after_spaces cs ∙ ap words (nil_of (after_spaces cs) e)

-- ---- lines

pub line_ends : (c : ℕ) (cs : List ℕ) → c ≡ 10 → lines (c ∷ cs) ≡ [] ∷ lines cs
unfolding lines
line_ends c cs e = rw (eq-eqb c 10 e) refl

pub line_goes_on : (c : ℕ) (cs : List ℕ) → c ≢ 10 → (c == 13 && begins 10 cs) ≡ false → lines (c ∷ cs) ≡ grown c (lines cs)
unfolding lines
line_goes_on c cs ne e = rw (ne_eqb c 10 ne, e) refl

line_returns : (c : ℕ) (cs : List ℕ) → c ≢ 10 → (c == 13 && begins 10 cs) ≡ true → lines (c ∷ cs) ≡ lines cs
unfolding lines
line_returns c cs ne e = rw (ne_eqb c 10 ne, e) refl

pub no_lines : lines [] ≡ []
unfolding lines
no_lines = refl

-- the last line may lack its line feed
pub line_whole : (cs : List ℕ) → 0 < length cs → count_before 10 cs ≡ length cs → lines cs ≡ cs ∷ []
line_whole [] lt e = absurd (omega arith)
line_whole (c ∷ []) lt e = elim (cases_eq c 10) [
  | inl h ↦ absurd (omega (arith, count_here 10 (c ∷ []) 0 (omega arith) h, e))
  | inr ne ↦ line_goes_on c [] ne (and_right (c == 13) false refl) ∙ ap (grown c) no_lines
]
line_whole (c ∷ d ∷ ds) lt e = elim (cases_eq c 10) [
  | inl h ↦ absurd (omega (arith, count_here 10 (c ∷ d ∷ ds) 0 (omega arith) h, e))
  | inr ne ↦
      let rest : count_before 10 (d ∷ ds) ≡ length (d ∷ ds) = omega (arith, count_next 10 c (d ∷ ds) ne, e) in
      elim (cases_eq d 10) [
        | inl h ↦ absurd (omega (arith, count_here 10 (d ∷ ds) 0 (omega arith) h, rest))
        | inr other ↦ line_goes_on c (d ∷ ds) ne (and_right (c == 13) (d == 10) (ne_eqb d 10 other))
            ∙ ap (grown c) (line_whole (d ∷ ds) (omega arith) rest)
      ]
]

-- the first line, up to its line feed
pub line_split : (cs : List ℕ) (n : ℕ) → n ≡ count_before 10 cs → n < length cs → lines cs ≡ without_return (take n cs) ∷ lines (drop (suc n) cs)
line_split [] n e lt = absurd (omega arith)
line_split (c ∷ cs) zero e lt = elim (cases_eq c 10) [ inl h ↦ line_ends c cs h | inr ne ↦ absurd (omega (arith, count_next 10 c cs ne, e)) ]
line_split (c ∷ []) (suc n) e lt = absurd (omega arith)
line_split (c ∷ d ∷ ds) (suc zero) e lt = elim (cases_eq c 10) [
  | inl h ↦ absurd (omega (arith, count_here 10 (c ∷ d ∷ ds) 0 (omega arith) h, e))
  | inr ne ↦
      let rest : 0 ≡ count_before 10 (d ∷ ds) = omega (arith, count_next 10 c (d ∷ ds) ne, e) in
      elim (cases_eq d 10) [
        | inr other ↦ absurd (omega (arith, count_next 10 d ds other, rest))
        | inl h ↦ elim (cases_eq c 13) [
          | inl back ↦ line_returns c (d ∷ ds) ne (and_from (c == 13) (d == 10) (eq-eqb c 13 back) (eq-eqb d 10 h)) ∙ line_ends d ds h
              ∙ ap (λ (l : List ℕ). l ∷ lines ds) (rw (eq-eqb c 13 back) refl)
          | inr kept ↦ line_goes_on c (d ∷ ds) ne (and_left (c == 13) (d == 10) (ne_eqb c 13 kept)) ∙ ap (grown c) (line_ends d ds h)
              ∙ ap (λ (l : List ℕ). l ∷ lines ds) (rw (ne_eqb c 13 kept) refl)
        ]
      ]
]
line_split (c ∷ d ∷ ds) (suc (suc n)) e lt = elim (cases_eq c 10) [
  | inl h ↦ absurd (omega (arith, count_here 10 (c ∷ d ∷ ds) 0 (omega arith) h, e))
  | inr ne ↦
      let rest : suc n ≡ count_before 10 (d ∷ ds) = omega (arith, count_next 10 c (d ∷ ds) ne, e) in
      elim (cases_eq d 10) [
        | inl h ↦ absurd (omega (arith, count_here 10 (d ∷ ds) 0 (omega arith) h, rest))
        | inr other ↦ line_goes_on c (d ∷ ds) ne (and_right (c == 13) (d == 10) (ne_eqb d 10 other))
            ∙ ap (grown c) (line_split (d ∷ ds) (suc n) rest (omega arith))
      ]
]

pub return_dropped : (l : List ℕ) (n : ℕ) → length l ≡ suc n → get_or l n 0 ≡ 13 → without_return l ≡ take n l
return_dropped [] n e h = absurd (omega arith)
return_dropped (c ∷ []) zero e h = rw (eq-eqb c 13 h) refl
return_dropped (c ∷ []) (suc n) e h = absurd (omega arith)
return_dropped (c ∷ d ∷ ds) zero e h = absurd (omega arith)
return_dropped (c ∷ d ∷ ds) (suc n) e h = ap (λ (l : List ℕ). c ∷ l) (return_dropped (d ∷ ds) n (omega arith) h)

pub nothing_dropped : (l : List ℕ) (n : ℕ) → length l ≡ suc n → get_or l n 0 ≢ 13 → without_return l ≡ l
nothing_dropped [] n e h = refl
nothing_dropped (c ∷ []) zero e h = rw (ne_eqb c 13 h) refl
nothing_dropped (c ∷ []) (suc n) e h = absurd (omega arith)
nothing_dropped (c ∷ d ∷ ds) zero e h = absurd (omega arith)
nothing_dropped (c ∷ d ∷ ds) (suc n) e h = ap (λ (l : List ℕ). c ∷ l) (nothing_dropped (d ∷ ds) n (omega arith) h)

pub empty_line : (l : List ℕ) → length l ≡ 0 → without_return l ≡ l
empty_line [] e = refl
empty_line (c ∷ cs) e = absurd (omega arith)

-- ---- what the calls give

pub front_is : (xs : List ℕ) (n : ℕ) → slice_range xs 0 n ≡ take n xs
front_is xs n = grind arith

pub word_is : (line w bs front rest : List ℕ) (end : ℕ) → w ≡ after_spaces line → bs ≡ w → end ≡ count_before 32 bs → front ≡ slice_range w 0 end
    → rest ≡ drop end w → 0 < length (after_spaces line) → words line ≡ front ∷ words rest
word_is line w bs front rest end ew eb ee ef er some =
    rw (er, ef, ee, eb, ew) (words_after_spaces line ∙ words_front (after_spaces line) (begins_word line some)
    ∙ ap (λ (t : List ℕ). t ∷ words (drop (count_before 32 (after_spaces line)) (after_spaces line)))
    (sym (front_is (after_spaces line) (count_before 32 (after_spaces line)))))

pub rest_is : (line w bs rest : List ℕ) (end : ℕ) → w ≡ after_spaces line → bs ≡ w → end ≡ count_before 32 bs → rest ≡ drop end w
    → rest ≡ from_space (after_spaces line)
rest_is line w bs rest end ew eb ee er = rw (er, ee, eb, ew) (sym (from_space_is (after_spaces line)))

pub lines_whole : (text bs : List ℕ) (end : ℕ) → bs ≡ text → end ≡ count_before 10 bs → end ≡ length text → 0 < length text
    → lines text ≡ text ∷ lines []
lines_whole text bs end eb ee el some = line_whole text some (sym (rw eb at ee) ∙ el) ∙ ap (λ (t : List (List ℕ)). text ∷ t) (sym no_lines)

pub lines_first : (text bs front line rest : List ℕ) (end : ℕ) → bs ≡ text → end ≡ count_before 10 bs → end < length text
    → front ≡ slice_range text 0 end → line ≡ without_return front → rest ≡ drop (end + 1) text → lines text ≡ line ∷ lines rest
lines_first text bs front line rest end eb ee lt ef el er =
    rw (er, el, ef, front_is text end, add-one end) (line_split text end (rw eb at ee) lt)

pub return_is : (line bs front : List ℕ) → bs ≡ line → (length bs ≡ 0 → ⊥) → get_or bs (length bs - 1) 0 ≡ 13
    → front ≡ slice_range line 0 (length bs - 1) → front ≡ without_return line
return_is line bs front eb some last ef =
    ef ∙ front_is line (length bs - 1) ∙ sym (return_dropped line (length bs - 1) (omega (arith, ap length eb, some))
    (subst (λ (xs : List ℕ). get_or xs (length bs - 1) 0 ≡ 13) eb last))

pub no_return : (line bs : List ℕ) → bs ≡ line → (length bs ≡ 0 → ⊥) → (get_or bs (length bs - 1) 0 ≡ 13 → ⊥) → line ≡ without_return line
no_return line bs eb some last = sym (nothing_dropped line (length bs - 1) (omega (arith, ap length eb, some))
    (λ h. last (subst (λ (xs : List ℕ). get_or xs (length bs - 1) 0 ≡ 13) (sym eb) h)))
