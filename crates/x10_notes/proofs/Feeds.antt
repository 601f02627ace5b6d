-- Lines of a text have no line feed within, and one more of them makes notes of notes.
use Rattle.std.proofs.Common.{◌≡◌, ◌≢◌, ℕ, Bool, true, false, List, [], ◌∷◌, ◌++◌, ◌&&◌, ◌==◌, if◌then◌else◌, refl, sym, ap, subst, ◌∙◌, append_assoc, append-nil}
use Rattle.std.specs.List.{AllByRecursion, flat_map}
use Rattle.std.specs.Prelude.{codes}
use Rattle.std.proofs.lemmas.Bool.{eqb-false}
use Rattle.x10_asm.specs.Lines.{lines, grown, begins}
use Rattle.x10_notes.specs.Notes.{AreNotes, HasNoFeed, note}

grown_whole : (c : ℕ) → c ≢ 10 → (items : List (List ℕ)) → AllByRecursion HasNoFeed items → AllByRecursion HasNoFeed (grown c items)
grown_whole c ne [] all = search
grown_whole c ne (first ∷ others) all = search

step_whole : (c : ℕ) (ends back : Bool) (rest : List (List ℕ)) → (c == 10) ≡ ends → AllByRecursion HasNoFeed rest
    → AllByRecursion HasNoFeed (if ends then [] ∷ rest else (if back then rest else grown c rest))
step_whole c true back rest e all = search
step_whole c false true rest e all = all
step_whole c false false rest e all = grown_whole c (eqb-false c 10 e) rest all

pub lines_whole : (text : List ℕ) → AllByRecursion HasNoFeed (lines text)
unfolding lines
lines_whole [] = search
lines_whole (c ∷ cs) = step_whole c (c == 10) (c == 13 && begins 10 cs) (lines cs) refl (lines_whole cs)

-- the first line of a text
pub first_whole : (text line after : List ℕ) → lines text ≡ line ∷ lines after → HasNoFeed line
first_whole text line after e = (subst (λ (all : List (List ℕ)). AllByRecursion HasNoFeed all) e (lines_whole text)).0

snoc_text : (all : List (List ℕ)) (line : List ℕ) → flat_map note (all ++ line ∷ []) ≡ flat_map note all ++ note line
snoc_text [] line = append-nil (note line)
snoc_text (first ∷ others) line = ap (λ (t : List ℕ). note first ++ t) (snoc_text others line) ∙ sym (append_assoc (note first) (flat_map note others) (note line))

snoc_whole : (all : List (List ℕ)) (line : List ℕ) → AllByRecursion HasNoFeed all → HasNoFeed line → AllByRecursion HasNoFeed (all ++ line ∷ [])
snoc_whole [] line a h = search
snoc_whole (first ∷ others) line a h = (a.0, snoc_whole others line a.1 h)

pub one_more : (old new line : List ℕ) → AreNotes old → HasNoFeed line → new ≡ old ++ note line → AreNotes new
one_more old new line a h e = record {
  lines = a.lines ++ line ∷ [];
  whole = snoc_whole a.lines line a.whole h;
  text_is = e ∙ ap (λ (t : List ℕ). t ++ note line) a.text_is ∙ sym (snoc_text a.lines line);
}

-- ---- one line alone

pub one_note : (old new line : List ℕ) → old ≡ [] → HasNoFeed line → new ≡ old ++ note line → AreNotes new
one_note old new line none h e = record {
  lines = line ∷ [];
  whole = (h, tt);
  text_is = e ∙ ap (λ (t : List ℕ). t ++ note line) none ∙ sym (append-nil (note line));
}

pub nothing_whole : HasNoFeed (codes "nothing")
nothing_whole = (λ e. cc, (λ e. cc, (λ e. cc, (λ e. cc, (λ e. cc, (λ e. cc, (λ e. cc, tt)))))))
