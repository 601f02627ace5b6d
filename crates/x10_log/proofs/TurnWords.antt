-- A turn's line, as the words that it is made of.
use Rattle.std.proofs.Common.{◌≡◌, ℕ, ◌+◌, ◌≤◌, ◌<◌, ◌^◌, inl, inr, List, [], ◌∷◌, ◌++◌, length, map, replicate, refl, sym, ap, subst, ◌∙◌, append_assoc, append-nil, add-one, arith}
use Rattle.std.specs.Prelude.{decimal}
use Rattle.std.specs.List.{AllByRecursion, flat_map}
use Rattle.std.proofs.lemmas.Bool.{cases_eq}
use Rattle.std.proofs.lemmas.Grind.{flat_map-append}
use Rattle.x10_model.specs.Places as machine
use Rattle.x10_model.specs.Places.{Number, Words}
use Rattle.x10_hall.specs.Halls.{PostedFrame}
use Rattle.x10_log.specs.Logs.{TurnValue, Run, runs, runs_from, taken_word, run_word, frame_word, line_word, turn_line}
use Rattle.x10_log.specs.Limits.{FitsTurn, FitsFrame, FitsLine, IsWithin}
use Rattle.x10_log.specs.Reading.{Lacks, Said, Taken, Steps, Sent, Printed, said_text, FitsSaid, nothing_said, with_said, with_all, AreFew}
use Rattle.x10_log.proofs.Digits.{decimal_lacks}
use Rattle.x10_log.proofs.KeyRuns.{same_run, next_run}
use Rattle.x10_log.proofs.Repeats.{replicate_last}

abbrev pub steps_of : Run → Said
steps_of r = Steps r.key r.count

-- the words that say a turn
abbrev pub saids : TurnValue → List Said
saids t = map Taken t.taken ++ (map steps_of (runs t.keys) ++ (map Sent t.frames ++ map Printed t.lines))

-- ---- their text

texts_taken : (ns : List ℕ) → flat_map said_text (map Taken ns) ≡ flat_map taken_word ns
texts_taken [] = refl
texts_taken (n ∷ ns) = ap (λ (l : List ℕ). taken_word n ++ l) (texts_taken ns)

texts_steps : (rs : List Run) → flat_map said_text (map steps_of rs) ≡ flat_map run_word rs
texts_steps [] = refl
texts_steps (r ∷ rs) = ap (λ (l : List ℕ). run_word r ++ l) (texts_steps rs)

texts_sent : (fs : List PostedFrame) → flat_map said_text (map Sent fs) ≡ flat_map frame_word fs
texts_sent [] = refl
texts_sent (f ∷ fs) = ap (λ (l : List ℕ). frame_word f ++ l) (texts_sent fs)

texts_printed : (ls : List machine.Line) → flat_map said_text (map Printed ls) ≡ flat_map line_word ls
texts_printed [] = refl
texts_printed (Number z ∷ ls) = ap (λ (l : List ℕ). line_word (Number z) ++ l) (texts_printed ls)
texts_printed (Words t ∷ ls) = ap (λ (l : List ℕ). line_word (Words t) ++ l) (texts_printed ls)

pub line_is_words : (t : TurnValue) → turn_line t ≡ decimal t.place ++ flat_map said_text (saids t)
unfolding turn_line
line_is_words t =
    let rest = map Sent t.frames ++ map Printed t.lines in
    let behind : flat_map said_text rest ≡ flat_map frame_word t.frames ++ flat_map line_word t.lines =
    flat_map-append said_text (map Sent t.frames) (map Printed t.lines)
    ∙ ap (λ (l : List ℕ). l ++ flat_map said_text (map Printed t.lines)) (texts_sent t.frames)
    ∙ ap (λ (l : List ℕ). flat_map frame_word t.frames ++ l) (texts_printed t.lines) in
    let middle : flat_map said_text (map steps_of (runs t.keys) ++ rest)
    ≡ flat_map run_word (runs t.keys) ++ (flat_map frame_word t.frames ++ flat_map line_word t.lines) =
    flat_map-append said_text (map steps_of (runs t.keys)) rest
    ∙ ap (λ (l : List ℕ). l ++ flat_map said_text rest) (texts_steps (runs t.keys))
    ∙ ap (λ (l : List ℕ). flat_map run_word (runs t.keys) ++ l) behind in
    ap (λ (l : List ℕ). decimal t.place ++ l) (sym (flat_map-append said_text (map Taken t.taken) (map steps_of (runs t.keys) ++ rest)
    ∙ ap (λ (l : List ℕ). l ++ flat_map said_text (map steps_of (runs t.keys) ++ rest)) (texts_taken t.taken)
    ∙ ap (λ (l : List ℕ). flat_map taken_word t.taken ++ l) middle))

-- ---- they fit

all_append : {X : Type 0} (P : X → Type 0) (xs ys : List X) → AllByRecursion P xs → AllByRecursion P ys → AllByRecursion P (xs ++ ys)
all_append P [] ys h k = k
all_append P (x ∷ xs) ys h k = (h.0, all_append P xs ys h.1 k)

taken_fit : (ns : List ℕ) → AllByRecursion (λ n. n < 2 ^ 64) ns → AllByRecursion FitsSaid (map Taken ns)
taken_fit [] h = tt
taken_fit (n ∷ ns) h = (h.0, taken_fit ns h.1)

runs_fit : (key count : ℕ) (ks : List ℕ) → key < 2 ^ 64 → count + length ks ≤ 64 → AllByRecursion (λ n. n < 2 ^ 64) ks
    → AllByRecursion FitsSaid (map steps_of (runs_from key count ks))
runs_fit key count [] small few h = ((small, omega arith), tt)
runs_fit key count (k ∷ ks) small few h = elim (cases_eq k key) [
  | inl e ↦ rw (same_run key count k ks e) (runs_fit key (count + 1) ks small (omega arith) h.1)
  | inr n ↦ rw (next_run key count k ks n) ((small, omega arith), runs_fit k 1 ks h.0 (omega arith) h.1)
]

steps_fit : (ks : List ℕ) → length ks ≤ 64 → AllByRecursion (λ n. n < 2 ^ 64) ks → AllByRecursion FitsSaid (map steps_of (runs ks))
steps_fit [] few h = tt
steps_fit (k ∷ ks) few h = runs_fit k 1 ks h.0 (omega arith) h.1

sent_fit : (fs : List PostedFrame) → AllByRecursion FitsFrame fs → AllByRecursion FitsSaid (map Sent fs)
sent_fit [] h = tt
sent_fit (f ∷ fs) h = (h.0, sent_fit fs h.1)

printed_fit : (ls : List machine.Line) → AllByRecursion FitsLine ls → AllByRecursion FitsSaid (map Printed ls)
printed_fit [] h = tt
printed_fit (l ∷ ls) h = (h.0, printed_fit ls h.1)

pub saids_fit : (places : ℕ) (t : TurnValue) → IsWithin places t → FitsTurn t → AllByRecursion FitsSaid (saids t)
saids_fit places t w f = all_append FitsSaid (map Taken t.taken) (map steps_of (runs t.keys) ++ (map Sent t.frames ++ map Printed t.lines))
    (taken_fit t.taken f.taken)
    (all_append FitsSaid (map steps_of (runs t.keys)) (map Sent t.frames ++ map Printed t.lines) (steps_fit t.keys w.keys f.keys)
    (all_append FitsSaid (map Sent t.frames) (map Printed t.lines) (sent_fit t.frames f.frames) (printed_fit t.lines f.lines)))

-- ---- together they say the turn

with_both : (t : TurnValue) (xs ys : List Said) → with_all t (xs ++ ys) ≡ with_all (with_all t xs) ys
with_both t [] ys = refl
with_both t (x ∷ xs) ys = with_both (with_said t x) xs ys

with_taken : (t : TurnValue) (ns : List ℕ) → with_all t (map Taken ns) ≡ record t { taken = t.taken ++ ns }
with_taken t [] = ap (λ (l : List ℕ). record t { taken = l }) (sym (append-nil t.taken))
with_taken t (n ∷ ns) = with_taken (record t { taken = t.taken ++ n ∷ [] }) ns
    ∙ ap (λ (l : List ℕ). record t { taken = l }) (append_assoc t.taken (n ∷ []) ns)

with_runs : (t : TurnValue) (key count : ℕ) (ks : List ℕ)
    → with_all t (map steps_of (runs_from key count ks)) ≡ record t { keys = t.keys ++ (replicate count key ++ ks) }
with_runs t key count [] = ap (λ (l : List ℕ). record t { keys = t.keys ++ l }) (sym (append-nil (replicate count key)))
with_runs t key count (k ∷ ks) = elim (cases_eq k key) [
  | inl e ↦ rw (same_run key count k ks e) (with_runs t key (count + 1) ks ∙ ap (λ (l : List ℕ). record t { keys = t.keys ++ l }) (one_more e))
  | inr n ↦ rw (next_run key count k ks n) (with_runs (record t { keys = t.keys ++ replicate count key }) k 1 ks
      ∙ ap (λ (l : List ℕ). record t { keys = l }) (append_assoc t.keys (replicate count key) (k ∷ ks)))
]
  where
    one_more : k ≡ key → replicate (count + 1) key ++ ks ≡ replicate count key ++ (k ∷ ks)
    one_more e = ap (λ (n : ℕ). replicate n key ++ ks) (add-one count) ∙ ap (λ (l : List ℕ). l ++ ks) (sym (replicate_last count key))
        ∙ append_assoc (replicate count key) (key ∷ []) ks ∙ ap (λ (j : ℕ). replicate count key ++ (j ∷ ks)) (sym e)

with_steps : (t : TurnValue) (ks : List ℕ) → with_all t (map steps_of (runs ks)) ≡ record t { keys = t.keys ++ ks }
with_steps t [] = ap (λ (l : List ℕ). record t { keys = l }) (sym (append-nil t.keys))
with_steps t (k ∷ ks) = with_runs t k 1 ks

with_sent : (t : TurnValue) (fs : List PostedFrame) → with_all t (map Sent fs) ≡ record t { frames = t.frames ++ fs }
with_sent t [] = ap (λ (l : List PostedFrame). record t { frames = l }) (sym (append-nil t.frames))
with_sent t (f ∷ fs) = with_sent (record t { frames = t.frames ++ f ∷ [] }) fs
    ∙ ap (λ (l : List PostedFrame). record t { frames = l }) (append_assoc t.frames (f ∷ []) fs)

with_printed : (t : TurnValue) (ls : List machine.Line) → with_all t (map Printed ls) ≡ record t { lines = t.lines ++ ls }
with_printed t [] = ap (λ (l : List machine.Line). record t { lines = l }) (sym (append-nil t.lines))
with_printed t (x ∷ ls) = with_printed (record t { lines = t.lines ++ x ∷ [] }) ls
    ∙ ap (λ (l : List machine.Line). record t { lines = l }) (append_assoc t.lines (x ∷ []) ls)

pub all_said : (t start : TurnValue) (place : ℕ) → start ≡ nothing_said place → place ≡ t.place → with_all start (saids t) ≡ t
all_said t start place e same =
    let a = map steps_of (runs t.keys) ++ (map Sent t.frames ++ map Printed t.lines) in
    let b = map Sent t.frames ++ map Printed t.lines in
    let empty = nothing_said t.place in
    let one = record empty { taken = t.taken } in
    let two = record one { keys = t.keys } in
    let three = record two { frames = t.frames } in
    ap (λ x. with_all x (saids t)) (e ∙ ap nothing_said same)
    ∙ with_both empty (map Taken t.taken) a ∙ ap (λ x. with_all x a) (with_taken empty t.taken)
    ∙ with_both one (map steps_of (runs t.keys)) b ∙ ap (λ x. with_all x b) (with_steps one t.keys)
    ∙ with_both two (map Sent t.frames) (map Printed t.lines) ∙ ap (λ x. with_all x (map Printed t.lines)) (with_sent two t.frames)
    ∙ with_printed three t.lines

pub few_said : (places : ℕ) (t u : TurnValue) → IsWithin places t → u ≡ t → AreFew u
few_said places t u w e = subst AreFew (sym e) (record { taken = w.taken; keys = w.keys })

-- how a turn's line begins
pub record BeginsLine (t : TurnValue) (line : List ℕ) : Type 0 where
  pub small : t.place < 2 ^ 16
  pub lacks : Lacks 32 (decimal t.place)
  pub split : line ≡ decimal t.place ++ flat_map said_text (saids t)

pub line_begins : (places : ℕ) (t : TurnValue) (line : List ℕ) → places < 2 ^ 16 → IsWithin places t → line ≡ turn_line t → BeginsLine t line
line_begins places t line few w e =
    let small : t.place < 2 ^ 16 = omega (arith, w.place) in
    record { small = small; lacks = decimal_lacks 32 t.place (inl (omega arith)) (omega arith); split = e ∙ line_is_words t }
