-- Lines that say the same, with comments between them.
use Rattle.std.proofs.Common.{◌≡◌, ℕ, ◌+◌, ◌<◌, ◌≤◌, take, subst, Some, Bool, true, false, not, cond, ◌&&◌, List, [], ◌∷◌, ◌++◌, length, refl, sym, ap, ◌∙◌, append_assoc, append-nil, arith}
use Rattle.std.specs.Prelude.{◌==◌, if◌then◌else◌, filter, slice_get}
use Rattle.std.specs.List.{flat_map, list_all}
use Rattle.std.proofs.lemmas.Bool.{and_parts}
use Rattle.std.proofs.lemmas.List.{take_more, take_all, flat_map_more}
use Rattle.std.proofs.lemmas.List.Elements.{filter-append}
use Rattle.std.proofs.lemmas.Option.{slice_get_within, get_or_from_slice_get}
use Rattle.x10_asm.specs.declared.statement.Statement.TheVariants as statement
use Rattle.x10_asm.specs.Lines.{grown, begins, lines, words, is_word_end}
use Rattle.x10_asm.specs.Statements.{statement_in, statement_of}
use Rattle.x10_asm.specs.Comments.{is_silent, says_something, said, is_feedless, comment, SaysAs, Tells}
use Rattle.x10_asm.specs.Listing.{spaced, line}
use Rattle.x10_asm.proofs.LinesAndWords.{no_lines}

-- ---- the lines of a text, byte by byte

abbrev next : ℕ → Bool → Bool → List (List ℕ) → List (List ℕ)
next c feed dropped ls = if feed then [] ∷ ls else (if dropped then ls else grown c ls)

lines_cons : (c : ℕ) (xs : List ℕ) → lines (c ∷ xs) ≡ next c (c == 10) (c == 13 && begins 10 xs) (lines xs)
unfolding lines
lines_cons c xs = refl

next_some : (c : ℕ) (b d : Bool) (ls : List (List ℕ)) → 0 < length ls → 0 < length (next c b d ls)
next_some c true d ls h = omega arith
next_some c false true ls h = h
next_some c false false [] h = omega arith
next_some c false false (f ∷ o) h = omega arith

next_append : (c : ℕ) (b d : Bool) (ls ms : List (List ℕ)) → 0 < length ls → next c b d (ls ++ ms) ≡ next c b d ls ++ ms
next_append c true d ls ms h = refl
next_append c false true ls ms h = refl
next_append c false false [] ms h = absurd (omega arith)
next_append c false false (f ∷ o) ms h = refl

some_line : (q : List ℕ) → 0 < length (lines (q ++ 10 ∷ []))
some_line [] = rw (lines_cons 10 []) (omega arith)
some_line (c ∷ cs) = rw (lines_cons c (cs ++ 10 ∷ [])) (next_some c (c == 10) (c == 13 && begins 10 (cs ++ 10 ∷ [])) (lines (cs ++ 10 ∷ []))
    (some_line cs))

begins_same : (cs rest : List ℕ) → begins 10 (cs ++ 10 ∷ rest) ≡ begins 10 (cs ++ 10 ∷ [])
begins_same [] rest = refl
begins_same (c ∷ cs) rest = refl

-- a line's end parts a text
pub lines_part : (q rest : List ℕ) → lines (q ++ 10 ∷ rest) ≡ lines (q ++ 10 ∷ []) ++ lines rest
lines_part [] rest = lines_cons 10 rest ∙ sym (ap (λ (x : List (List ℕ)). x ++ lines rest)
    (lines_cons 10 [] ∙ ap (λ (x : List (List ℕ)). [] ∷ x) no_lines))
lines_part (c ∷ cs) rest =
    lines_cons c (cs ++ 10 ∷ rest)
    ∙ ap (λ (d : Bool). next c (c == 10) (c == 13 && d) (lines (cs ++ 10 ∷ rest))) (begins_same cs rest)
    ∙ ap (next c (c == 10) (c == 13 && begins 10 (cs ++ 10 ∷ []))) (lines_part cs rest)
    ∙ next_append c (c == 10) (c == 13 && begins 10 (cs ++ 10 ∷ [])) (lines (cs ++ 10 ∷ [])) (lines rest) (some_line cs)
    ∙ ap (λ (x : List (List ℕ)). x ++ lines rest) (sym (lines_cons c (cs ++ 10 ∷ [])))

-- ---- lines have no line feed

grown_feedless : (c : ℕ) (ls : List (List ℕ)) → (c == 10) ≡ false → list_all is_feedless ls ≡ true → list_all is_feedless (grown c ls) ≡ true
grown_feedless c [] e h = rw e refl
grown_feedless c (f ∷ o) e h = rw e h

next_feedless : (c : ℕ) (b d : Bool) (ls : List (List ℕ)) → (c == 10) ≡ b → list_all is_feedless ls ≡ true
    → list_all is_feedless (next c b d ls) ≡ true
next_feedless c true d ls e h = h
next_feedless c false true ls e h = h
next_feedless c false false ls e h = grown_feedless c ls e h

pub lines_feedless : (text : List ℕ) → list_all is_feedless (lines text) ≡ true
lines_feedless [] = ap (list_all is_feedless) no_lines
lines_feedless (c ∷ cs) = ap (list_all is_feedless) (lines_cons c cs)
    ∙ next_feedless c (c == 10) (c == 13 && begins 10 cs) (lines cs) refl (lines_feedless cs)

pub line_feedless : (text first : List ℕ) (others : List (List ℕ)) → lines text ≡ first ∷ others → is_feedless first ≡ true
line_feedless text first others e = (and_parts (is_feedless first) (list_all is_feedless others)
    (sym (ap (list_all is_feedless) e) ∙ lines_feedless text)).0

-- ---- a comment

goes_on : (c : ℕ) (d : Bool) (b : List ℕ) (ms : List (List ℕ)) → (body : List ℕ) × (next c false d (b ∷ ms) ≡ body ∷ ms)
goes_on c true b ms = (b, refl)
goes_on c false b ms = (c ∷ b, refl)

one_line : (body rest : List ℕ) → is_feedless body ≡ true → (b : List ℕ) × (lines (body ++ 10 ∷ rest) ≡ b ∷ lines rest)
one_line [] rest h = ([], lines_cons 10 rest)
one_line (c ∷ cs) rest h =
    let parts = and_parts (not (c == 10)) (is_feedless cs) h in
    let more = one_line cs rest parts.1 in
    let here = goes_on c (c == 13 && begins 10 (cs ++ 10 ∷ rest)) more.0 (lines rest) in (
      here.0,
      lines_cons c (cs ++ 10 ∷ rest)
          ∙ ap (λ (t : Bool). next c t (c == 13 && begins 10 (cs ++ 10 ∷ rest)) (lines (cs ++ 10 ∷ rest))) (not_feed (c == 10) parts.0)
          ∙ ap (next c false (c == 13 && begins 10 (cs ++ 10 ∷ rest))) more.1
          ∙ here.1,
    )
  where
    not_feed : (t : Bool) → not t ≡ true → t ≡ false
    not_feed true e = cc
    not_feed false e = refl

first_silent : (ws : List (List ℕ)) → statement_in (grown 59 ws) ≡ statement.Silent
unfolding statement_of
first_silent [] = refl
first_silent (f ∷ o) = refl

words_silent : (b : List ℕ) (t : Bool) → statement_in (if t then (59 ∷ []) ∷ words b else grown 59 (words b)) ≡ statement.Silent
unfolding statement_of
words_silent b true = refl
words_silent b false = first_silent (words b)

comment_silent : (b : List ℕ) → statement_in (words (59 ∷ b)) ≡ statement.Silent
unfolding words
comment_silent b = words_silent b (is_word_end b)

comment_passed : (b : List ℕ) (ms : List (List ℕ)) → filter says_something ((59 ∷ b) ∷ ms) ≡ filter says_something ms
comment_passed b ms = ap (λ (t : Bool). cond t ((59 ∷ b) ∷ filter says_something ms) (filter says_something ms))
    (ap (λ x. not (is_silent x)) (comment_silent b))

comment_gone : (body rest : List ℕ) → is_feedless body ≡ true → said (59 ∷ (body ++ 10 ∷ rest)) ≡ said rest
comment_gone body rest h =
    let one = one_line body rest h in
    ap (filter says_something) (lines_cons 59 (body ++ 10 ∷ rest) ∙ ap (grown 59) one.1) ∙ comment_passed one.0 (lines rest)

-- ---- pieces of texts

pub nothing_says : SaysAs [] []
nothing_says = record { bodies = []; text_says = λ rest. refl; plain_says = λ rest. refl }

pub then_says : (t p u q : List ℕ) → SaysAs t p → SaysAs u q → SaysAs (t ++ u) (p ++ q)
then_says t p u q a b = record {
  bodies = a.bodies ++ b.bodies;
  text_says = λ rest. ap said (append_assoc t u rest) ∙ a.text_says (u ++ rest) ∙ ap (λ (x : List (List ℕ)). a.bodies ++ x) (b.text_says rest)
      ∙ sym (append_assoc a.bodies b.bodies (said rest));
  plain_says = λ rest. ap said (append_assoc p q rest) ∙ a.plain_says (q ++ rest) ∙ ap (λ (x : List (List ℕ)). a.bodies ++ x) (b.plain_says rest)
      ∙ sym (append_assoc a.bodies b.bodies (said rest));
}

ended_says : (q rest : List ℕ) → said ((q ++ 10 ∷ []) ++ rest) ≡ said (q ++ 10 ∷ []) ++ said rest
ended_says q rest = ap said (append_assoc q (10 ∷ []) rest) ∙ ap (filter says_something) (lines_part q rest)
    ∙ filter-append says_something (lines (q ++ 10 ∷ [])) (lines rest)

-- a line of a listing says what it says
pub line_says : (first : List ℕ) (others : List (List ℕ)) → SaysAs (line first others) (line first others)
line_says first others = record { bodies = said (line first others); text_says = says; plain_says = says }
  where
    same : (first ++ flat_map spaced others) ++ 10 ∷ [] ≡ line first others
    same = append_assoc first (flat_map spaced others) (10 ∷ [])

    says : (rest : List ℕ) → said (line first others ++ rest) ≡ said (line first others) ++ said rest
    says rest = rw (← same) (ended_says (first ++ flat_map spaced others) rest)

-- a comment says nothing
pub comment_says : (body : List ℕ) → is_feedless body ≡ true → SaysAs (comment body) []
comment_says body h = record {
  bodies = [];
  text_says = λ rest. ap (λ (x : List ℕ). said (59 ∷ 32 ∷ x)) (append_assoc body (10 ∷ []) rest) ∙ comment_gone (32 ∷ body) rest h;
  plain_says = λ rest. refl;
}

-- as a whole
pub says_whole : (text plain : List ℕ) → SaysAs text plain → said text ≡ said plain
says_whole text plain h = ap said (sym (append-nil text)) ∙ h.text_says [] ∙ sym (h.plain_says []) ∙ ap said (append-nil plain)

-- ---- put behind a text

pub nothing_told : (a : List ℕ) → Tells a a []
nothing_told a = ([], sym (append-nil a), nothing_says)

pub then_told : (a b c p q : List ℕ) → Tells a b p → Tells b c q → Tells a c (p ++ q)
then_told a b c p q s t = (s.0 ++ t.0, t.1 ∙ ap (λ (x : List ℕ). x ++ t.0) s.1 ∙ append_assoc a s.0 t.0, then_says s.0 p t.0 q s.2 t.2)

-- a comment more
pub comment_told : (a b body : List ℕ) → is_feedless body ≡ true → b ≡ a ++ comment body → Tells a b []
comment_told a b body h e = (comment body, e, comment_says body h)

pub silence_told : (a b c : List ℕ) → Tells a b [] → Tells b c [] → Tells a c []
silence_told a b c s t = then_told a b c [] [] s t

-- a line more, after comments
pub after_silence : (a b c plain : List ℕ) → Tells a b [] → Tells b c plain → Tells a c plain
after_silence a b c plain s t = then_told a b c [] plain s t

-- one item more, and all
pub item_told : {X : Type 0} (f : X → List ℕ) (xs : List X) (i : ℕ) (x : X) (before out new : List ℕ) → Tells before out (flat_map f (take i xs))
    → slice_get xs i ≡ Some x → Tells out new (f x) → Tells before new (flat_map f (take (i + 1) xs))
item_told f xs i x before out new s h t =
    let within = slice_get_within xs i x h in
    let here = get_or_from_slice_get xs i x x h in
    let more : flat_map f (take i xs) ++ f x ≡ flat_map f (take (i + 1) xs) =
    flat_map_more f [] (take i xs) x ∙ ap (λ (ys : List _). flat_map f ys)
    (ap (λ (y : _). take i xs ++ y ∷ []) (sym here) ∙ sym (take_more xs i x within)) in
    subst (Tells before new) more (then_told before out new (flat_map f (take i xs)) (f x) s t)

pub items_told : {X : Type 0} (f : X → List ℕ) (xs : List X) (i : ℕ) (before out : List ℕ) → Tells before out (flat_map f (take i xs)) → length xs ≤ i
    → Tells before out (flat_map f xs)
items_told f xs i before out s le = subst (λ (ys : List _). Tells before out (flat_map f ys)) (take_all i xs le) s

pub line_told : (a b : List ℕ) (first : List ℕ) (others : List (List ℕ)) → b ≡ a ++ line first others → Tells a b (line first others)
line_told a b first others e = (line first others, e, line_says first others)
