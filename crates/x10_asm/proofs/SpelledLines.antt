-- Lines of words are split into their words again.
use Rattle.std.proofs.Common.{◌≡◌, ◌≢◌, ℕ, ◌<◌, Bool, true, not, ◌&&◌, List, [], ◌∷◌, ◌++◌, length, refl, sym, ap, ◌∙◌, arith, length-append}
use Rattle.std.specs.Prelude.{◌==◌, nat_lt}
use Rattle.std.specs.List.{list_all, flat_map, AllByRecursion}
use Rattle.std.proofs.lemmas.List.Folds.{list_all-append}
use Rattle.std.proofs.lemmas.Bool.{ltb-true, lt-ltb, ne_eqb, eq-eqb, and_parts, and_from, and_left, and_right, not_from_false, not-true, true≢false}
use Rattle.x10_asm.specs.Lines.{grown, lines, is_word_end, words}
use Rattle.x10_asm.specs.Listing.{spaced}
use Rattle.x10_asm.proofs.LinesAndWords.{word_ends, word_goes_on, line_ends, line_goes_on}

-- bytes that stand in words alone, at least one
pub record IsWord (w : List ℕ) : Type 0 where
  pub some : 0 < length w
  pub printed : list_all (nat_lt 32) w ≡ true

pub word_join : (v w : List ℕ) → IsWord v → list_all (nat_lt 32) w ≡ true → IsWord (v ++ w)
word_join v w h p = record {
  some = omega (arith, h.some, length-append v w);
  printed = list_all-append (nat_lt 32) v w ∙ and_from (list_all (nat_lt 32) v) (list_all (nat_lt 32) w) h.printed p;
}

no_space : (c : ℕ) (cs : List ℕ) → list_all (nat_lt 32) (c ∷ cs) ≡ true → c ≢ 32
no_space c cs h e = omega (arith, ltb-true 32 c (and_parts (nat_lt 32 c) (list_all (nat_lt 32) cs) h).0)

-- a word before a space or the end
pub word_then : (w rest : List ℕ) → IsWord w → is_word_end rest ≡ true → words (w ++ rest) ≡ w ∷ words rest
word_then [] rest h e = absurd (omega (arith, h.some))
word_then (c ∷ []) rest h e = word_ends c rest (no_space c [] h.printed) e
word_then (c ∷ d ∷ ds) rest h e =
    let more = (and_parts (nat_lt 32 c) (list_all (nat_lt 32) (d ∷ ds)) h.printed).1 in
    word_goes_on c (d ∷ (ds ++ rest)) (no_space c (d ∷ ds) h.printed) (ne_eqb d 32 (no_space d ds more))
    ∙ ap (grown c) (word_then (d ∷ ds) rest (record { some = omega arith; printed = more }) e)

space_skipped : (cs : List ℕ) → words (32 ∷ cs) ≡ words cs
unfolding words
space_skipped cs = refl

words_nil : words [] ≡ []
unfolding words
words_nil = refl

spaced_end : (ws : List (List ℕ)) → is_word_end (flat_map spaced ws) ≡ true
spaced_end [] = refl
spaced_end (w ∷ ws) = refl

pub spaced_words : (ws : List (List ℕ)) → AllByRecursion IsWord ws → words (flat_map spaced ws) ≡ ws
spaced_words [] h = words_nil
spaced_words (w ∷ ws) h = space_skipped (w ++ flat_map spaced ws) ∙ word_then w (flat_map spaced ws) h.0 (spaced_end ws)
    ∙ ap (λ (t : List (List ℕ)). w ∷ t) (spaced_words ws h.1)

-- a first word and others
pub line_words : (first : List ℕ) (others : List (List ℕ)) → IsWord first → AllByRecursion IsWord others
    → words (first ++ flat_map spaced others) ≡ first ∷ others
line_words first others h hs = word_then first (flat_map spaced others) h (spaced_end others)
    ∙ ap (λ (t : List (List ℕ)). first ∷ t) (spaced_words others hs)

-- ---- lines

-- no line feed, and no carriage return at the end
abbrev pub is_plain : List ℕ → Bool
is_plain [] = true
is_plain (c ∷ []) = not (c == 10) && not (c == 13)
is_plain (c ∷ d ∷ ds) = not (c == 10) && is_plain (d ∷ ds)

not_feed : (c : ℕ) (t : Bool) → (not (c == 10) && t) ≡ true → c ≢ 10
not_feed c t h e = true≢false (sym (and_parts (not (c == 10)) t h).0 ∙ ap not (eq-eqb c 10 e))

first_no_feed : (c : ℕ) (cs : List ℕ) → is_plain (c ∷ cs) ≡ true → c ≢ 10
first_no_feed c [] h = not_feed c (not (c == 13)) h
first_no_feed c (d ∷ ds) h = not_feed c (is_plain (d ∷ ds)) h

pub line_then : (body rest : List ℕ) → is_plain body ≡ true → lines (body ++ 10 ∷ rest) ≡ body ∷ lines rest
line_then [] rest h = line_ends 10 rest refl
line_then (c ∷ []) rest h =
    line_goes_on c (10 ∷ rest) (first_no_feed c [] h) (and_left (c == 13) true (not-true (c == 13) (and_parts (not (c == 10)) (not (c == 13)) h).1))
    ∙ ap (grown c) (line_ends 10 rest refl)
line_then (c ∷ d ∷ ds) rest h =
    let more = (and_parts (not (c == 10)) (is_plain (d ∷ ds)) h).1 in
    line_goes_on c (d ∷ (ds ++ 10 ∷ rest)) (first_no_feed c (d ∷ ds) h) (and_right (c == 13) (d == 10) (ne_eqb d 10 (first_no_feed d ds more)))
    ∙ ap (grown c) (line_then (d ∷ ds) rest more)

-- printed bytes and spaces are plain
pub plain_printed : (body : List ℕ) → list_all (nat_lt 31) body ≡ true → is_plain body ≡ true
plain_printed [] h = refl
plain_printed (c ∷ []) h =
    let gt = ltb-true 31 c (and_parts (nat_lt 31 c) true h).0 in
    and_from (not (c == 10)) (not (c == 13)) (not_from_false (c == 10) (ne_eqb c 10 (λ e. omega (arith, gt, e))))
    (not_from_false (c == 13) (ne_eqb c 13 (λ e. omega (arith, gt, e))))
plain_printed (c ∷ d ∷ ds) h =
    let p = and_parts (nat_lt 31 c) (list_all (nat_lt 31) (d ∷ ds)) h in
    let gt = ltb-true 31 c p.0 in
    and_from (not (c == 10)) (is_plain (d ∷ ds)) (not_from_false (c == 10) (ne_eqb c 10 (λ e. omega (arith, gt, e)))) (plain_printed (d ∷ ds) p.1)

word_printed : (w : List ℕ) → list_all (nat_lt 32) w ≡ true → list_all (nat_lt 31) w ≡ true
word_printed [] h = refl
word_printed (c ∷ cs) h =
    let p = and_parts (nat_lt 32 c) (list_all (nat_lt 32) cs) h in
    and_from (nat_lt 31 c) (list_all (nat_lt 31) cs) (lt-ltb 31 c (omega (arith, ltb-true 32 c p.0))) (word_printed cs p.1)

spaced_printed : (ws : List (List ℕ)) → AllByRecursion IsWord ws → list_all (nat_lt 31) (flat_map spaced ws) ≡ true
spaced_printed [] h = refl
spaced_printed (w ∷ ws) h = list_all-append (nat_lt 31) w (flat_map spaced ws)
    ∙ and_from (list_all (nat_lt 31) w) (list_all (nat_lt 31) (flat_map spaced ws)) (word_printed w h.0.printed) (spaced_printed ws h.1)

pub plain_words : (first : List ℕ) (others : List (List ℕ)) → IsWord first → AllByRecursion IsWord others
    → is_plain (first ++ flat_map spaced others) ≡ true
plain_words first others h hs =
    plain_printed (first ++ flat_map spaced others) (list_all-append (nat_lt 31) first (flat_map spaced others)
    ∙ and_from (list_all (nat_lt 31) first) (list_all (nat_lt 31) (flat_map spaced others)) (word_printed first h.printed)
    (spaced_printed others hs))
