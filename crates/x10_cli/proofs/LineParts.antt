-- What is before a part of a line, and behind it.
use Rattle.std.proofs.Common.{◌≡◌, ℕ, ℤ, Option, Result, Ok, Err, ◌+◌, ◌-◌, ◌≤◌, List, [], ◌∷◌, ◌++◌, codes, decimal, length, take, drop, ap, sym, subst, ◌∙◌, arith, length-drop, length-append, append_assoc}
use Rattle.std.specs.Prelude.{OnOk}
use Rattle.std.specs.Fmt.{signed_decimal}
use Rattle.std.specs.Io.KnownBytes.{Appends}
use Rattle.std.proofs.KnownBytes.{Appends-trans}
use Rattle.std.proofs.Math.Seq.{drop-append_seam, take-append_seam}
use Rattle.std.proofs.lemmas.List.{drop-drop, drop-append-le, length-take-le, take-append-drop, append_cancel_right, take_all}
use Rattle.x10_model.specs.Places.{Number}
use Rattle.x10_cli.specs.Lines.{HasFront, numbered}

pub drop_behind : (xs front rest : List ℕ) (s n : ℕ) → s + length front ≡ n → drop s xs ≡ front ++ rest → drop n xs ≡ rest
drop_behind xs front rest s n long e = subst (λ k. drop k xs ≡ rest) long
    (sym (drop-drop (length front) s xs) ∙ ap (drop (length front)) e ∙ drop-append_seam front rest)

in_two : (xs : List ℕ) (s e : ℕ) → s ≤ e → e ≤ length xs → drop s xs ≡ drop s (take e xs) ++ drop e xs
in_two xs s e le long = ap (drop s) (sym (take-append-drop e xs))
    ∙ drop-append-le s (take e xs) (drop e xs) (let same = length-take-le e xs long in omega (arith, same, le))

-- what is before a part stays where all before the part does
pub front_kept : (old new front : List ℕ) (s e : ℕ) → s ≤ e → e ≤ length old → e ≤ length new → take e new ≡ take e old → drop s old ≡ front ++ drop e old
    → drop s new ≡ front ++ drop e new
front_kept old new front s e le long more same is =
    let was = append_cancel_right (drop s (take e old)) front (drop e old) (sym (in_two old s e le long) ∙ is) in
    in_two new s e le more ∙ ap (λ bs. bs ++ drop e new) (ap (drop s) same ∙ was)

long_enough : (xs : List ℕ) → drop 42 xs ≡ 10 ∷ [] → length xs ≡ 43
long_enough xs e =
    let long = length-drop 42 xs in
    let one : length (drop 42 xs) ≡ 1 = ap length e in
    omega (arith, long, one)

-- a number that is as long as the last one was
pub same_front : {place : ℕ} {old new : List ℕ} {start end : ℕ} → HasFront place old start end → take end new ≡ take end old
    → drop 42 new ≡ drop 42 old → HasFront place new start end
same_front {place} {old} {new} {start} {end} h same last =
    let was = long_enough old h.last in
    let is = long_enough new (last ∙ h.last) in record {
      before = h.before;
      room = h.room;
      within = h.within;
      front =
          front_kept old new (decimal place ++ codes ": ") start end h.before (let within = h.within in omega (arith, was, within)) (let within = h.within in omega (arith, is, within)) same
          (h.front ∙ sym (append_assoc (decimal place) (codes ": ") (drop end old)))
          ∙ append_assoc (decimal place) (codes ": ") (drop end new);
      last = last ∙ h.last;
    }

-- and one that isn't
pub new_front : {place : ℕ} (old new : List ℕ) {start end : ℕ} → start ≤ end → 22 ≤ end → end ≤ 42
    → drop start new ≡ decimal place ++ (codes ": " ++ drop end old) → drop end new ≡ drop end old → drop 42 old ≡ 10 ∷ [] → HasFront place new start end
new_front {place} old new {start} {end} le room within front kept last =
    let at : end + (42 - end) ≡ 42 = omega (arith, within) in record {
      before = le;
      room = room;
      within = within;
      front = front ∙ ap (λ bs. decimal place ++ (codes ": " ++ bs)) (sym kept);
      last =
          ap (λ n. drop n new) (sym at) ∙ sym (drop-drop (42 - end) end new) ∙ ap (drop (42 - end)) kept ∙ drop-drop (42 - end) end old
          ∙ ap (λ n. drop n old) at
          ∙ last;
    }

-- the bytes from one on are all that are behind those before it
pub to_the_end : {place : ℕ} {line : List ℕ} {start end : ℕ} → HasFront place line start end → take (43 - start) (drop start line) ≡ drop start line
to_the_end {place} {line} {start} h =
    let long = long_enough line h.last in
    let rest = length-drop start line in
    take_all (43 - start) (drop start line) (omega (arith, long, rest))

-- the line with a number
pub whole_line : {place : ℕ} {line : List ℕ} {start end : ℕ} (number : ℤ) → HasFront place line start end → drop end line ≡ signed_decimal number ++ 10 ∷ []
    → drop start line ≡ numbered place (Number number)
whole_line {place} number h digits = h.front ∙ ap (λ bs. decimal place ++ (codes ": " ++ bs)) digits

-- what is before a number or a text
pub front_alone : {place : ℕ} {line : List ℕ} {start end : ℕ} → HasFront place line start end → take (end - start) (drop start line) ≡ decimal place ++ codes ": "
front_alone {place} {line} {start} {end} h =
    let front = decimal place ++ codes ": " in
    let whole : drop start line ≡ front ++ drop end line = h.front ∙ sym (append_assoc (decimal place) (codes ": ") (drop end line)) in
    let long = long_enough line h.last in
    let all = ap length whole in
    let parts = length-append front (drop end line) in
    let rest = length-drop start line in
    let behind = length-drop end line in
    let size : end - start ≡ length front =
    (let before = h.before in let within = h.within in omega (arith, long, all, parts, rest, behind, before, within)) in
    ap (λ n. take n (drop start line)) size ∙ ap (take (length front)) whole ∙ take-append_seam front (drop end line)

-- a line with a text, written in three parts
pub text_line : {T E : Type 0} (r : Result T E) (a b c d : Option (List ℕ)) (front place text end : List ℕ) → front ≡ place ++ codes ": "
    → Appends a b front → Appends b c text → OnOk r (Appends c d end) → OnOk r (Appends a d (place ++ (codes ": " ++ (text ++ end))))
text_line (Ok x) a b c d front place text end e one two three = subst (λ bs. Appends a d bs) (append_assoc place (codes ": ") (text ++ end))
    (Appends-trans a b d (place ++ codes ": ") (text ++ end) (subst (λ bs. Appends a b bs) e one) (Appends-trans b c d text end two three))
text_line (Err x) a b c d front place text end e one two three = tt
