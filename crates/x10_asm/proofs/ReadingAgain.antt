-- Pieces of a listing are read one after the other.
use Rattle.std.proofs.Common.{◌≡◌, ℕ, suc, ◌+◌, Bool, true, false, not, cond, List, [], ◌∷◌, ◌++◌, Result, Ok, refl, sym, ap, subst, ◌∙◌, append_assoc, arith, zero-add, add_assoc}
use Rattle.std.specs.Prelude.{filter}
use Rattle.x10_asm.specs.declared.fault.AsmCause.{AsmCause}
use Rattle.x10_asm.specs.Lines.{lines, words}
use Rattle.x10_asm.specs.Labels.{Label}
use Rattle.x10_asm.specs.declared.statement.Statement.{Statement}
use Rattle.x10_asm.specs.declared.statement.Statement.TheVariants as statement
use Rattle.x10_asm.specs.Statements.{statement_in}
use Rattle.x10_asm.specs.Comments.{is_silent, says_something}
use Rattle.x10_asm.specs.Reading.{Source, after_line, read_from, is_class, classes_in, go_on}
use Rattle.x10_asm.proofs.SpelledLines.{is_plain, line_then}
use Rattle.x10_asm.proofs.LinesTakenIn.{line_gives}
use Rattle.x10_asm.proofs.TextLines.{step, class_counted, other_passed}

-- a state with other labels
abbrev pub labelled : Source → List Label → Source
labelled s labels = record s { labels = labels }

-- after a piece of the text, reading goes on from another state
pub record IsRead (classes : ℕ) (piece : List ℕ) (s t : Source) (line : ℕ) (labels : List Label) (rest : List ℕ) : Type 0 where
  pub next : ℕ
  pub kept : List Label
  pub is : read_from classes (labelled s labels) line (lines (piece ++ rest)) ≡ read_from classes (labelled t kept) next (lines rest)

-- what one line does, whatever the labels are and whatever follows
pub record Turns (classes : ℕ) (body : List ℕ) (s t : Source) : Type 0 where
  pub plain : is_plain body ≡ true
  pub turns : (line : ℕ) (labels : List Label) (others : List (List ℕ))
      → (kept : List Label) × (after_line classes (labelled s labels) line body others ≡ Ok (labelled t kept))

-- one line after the other leads from a state to another, and each says something
abbrev pub Goes : ℕ → List (List ℕ) → Source → Source → Type 0
Goes classes [] s t = s ≡ t
Goes classes (body ∷ bodies) s t = (u : Source) × Turns classes body s u × (says_something body ≡ true) × Goes classes bodies u t

goes_on : (classes : ℕ) (bodies others : List (List ℕ)) (s t u : Source) → Goes classes bodies s t → Goes classes others t u
    → Goes classes (bodies ++ others) s u
goes_on classes [] others s t u h k = subst (λ (x : Source). Goes classes others x u) (sym h) k
goes_on classes (body ∷ bodies) others s t u h k = (h.0, h.1, h.2, goes_on classes bodies others h.0 t u h.3 k)

-- a piece leads from a state to another, and has so many lines of classes
pub record Leads (classes : ℕ) (piece : List ℕ) (s t : Source) (count : ℕ) : Type 0 where
  pub reads : (line : ℕ) (labels : List Label) (rest : List ℕ) → IsRead classes piece s t line labels rest
  pub counts : (rest : List ℕ) → classes_in (lines (piece ++ rest)) ≡ count + classes_in (lines rest)
  pub bodies : List (List ℕ)
  pub are : (rest : List ℕ) → lines (piece ++ rest) ≡ bodies ++ lines rest
  pub goes : Goes classes bodies s t

pub nothing_leads : (classes : ℕ) (s : Source) → Leads classes [] s s 0
nothing_leads classes s = record {
  reads = λ line labels rest. record { next = line; kept = labels; is = refl };
  counts = λ rest. sym (zero-add (classes_in (lines rest)));
  bodies = [];
  are = λ rest. refl;
  goes = refl;
}

pub then_leads : (classes : ℕ) (p q : List ℕ) (s t u : Source) (j k : ℕ) → Leads classes p s t j → Leads classes q t u k
    → Leads classes (p ++ q) s u (j + k)
then_leads classes p q s t u j k a b = record {
  reads = λ line labels rest.
      let first = a.reads line labels (q ++ rest) in
      let second = b.reads first.next first.kept rest in
      record {
        next = second.next;
        kept = second.kept;
        is = ap (λ (x : List ℕ). read_from classes (labelled s labels) line (lines x)) (append_assoc p q rest) ∙ first.is ∙ second.is;
      };
  counts = λ rest. ap (λ (x : List ℕ). classes_in (lines x)) (append_assoc p q rest) ∙ a.counts (q ++ rest) ∙ ap (λ (n : ℕ). j + n) (b.counts rest)
      ∙ sym (add_assoc j k (classes_in (lines rest)));
  bodies = a.bodies ++ b.bodies;
  are = λ rest. ap lines (append_assoc p q rest) ∙ a.are (q ++ rest) ∙ ap (λ (x : List (List ℕ)). a.bodies ++ x) (b.are rest)
      ∙ sym (append_assoc a.bodies b.bodies (lines rest));
  goes = goes_on classes a.bodies b.bodies s t u a.goes b.goes;
}

line_reads : (classes : ℕ) (body : List ℕ) (s t : Source) → Turns classes body s t → (line : ℕ) (labels : List Label) (rest : List ℕ)
    → IsRead classes (body ++ 10 ∷ []) s t line labels rest
line_reads classes body s t h line labels rest =
    let turn = h.turns line labels (lines rest) in
    record {
      next = suc line;
      kept = turn.0;
      is = ap (λ (x : List ℕ). read_from classes (labelled s labels) line (lines x)) (append_assoc body (10 ∷ []) rest)
          ∙ ap (read_from classes (labelled s labels) line) (line_then body rest h.plain)
          ∙ step classes (labelled s labels) line body (lines rest)
          ∙ ap (λ (r : Result Source AsmCause). go_on r line (λ u. read_from classes u (suc line) (lines rest))) turn.1;
    }

line_is : (body rest : List ℕ) → is_plain body ≡ true → lines ((body ++ 10 ∷ []) ++ rest) ≡ body ∷ lines rest
line_is body rest h = ap lines (append_assoc body (10 ∷ []) rest) ∙ line_then body rest h

class_says : (said_here : Statement) → is_class said_here ≡ true → not (is_silent said_here) ≡ true
class_says statement.Class e = refl
class_says statement.Silent e = cc
class_says _ e = refl

pub class_leads : (classes : ℕ) (body : List ℕ) (s t : Source) → Turns classes body s t → is_class (statement_in (words body)) ≡ true
    → Leads classes (body ++ 10 ∷ []) s t 1
class_leads classes body s t h e = record {
  reads = line_reads classes body s t h;
  counts = λ rest. ap classes_in (line_is body rest h.plain) ∙ class_counted body (lines rest) e ∙ omega arith;
  bodies = body ∷ [];
  are = λ rest. line_is body rest h.plain;
  goes = (t, h, class_says (statement_in (words body)) e, refl);
}

pub line_leads : (classes : ℕ) (body : List ℕ) (s t : Source) → Turns classes body s t → is_class (statement_in (words body)) ≡ false
    → says_something body ≡ true → Leads classes (body ++ 10 ∷ []) s t 0
line_leads classes body s t h e says = record {
  reads = line_reads classes body s t h;
  counts = λ rest. ap classes_in (line_is body rest h.plain) ∙ other_passed body (lines rest) e ∙ sym (zero-add (classes_in (lines rest)));
  bodies = body ∷ [];
  are = λ rest. line_is body rest h.plain;
  goes = (t, h, says, refl);
}

-- ---- with other lines between, which say nothing

silent_is : (said_here : Statement) → not (is_silent said_here) ≡ false → said_here ≡ statement.Silent
silent_is statement.Silent e = refl
silent_is _ e = cc

silent_line : (classes : ℕ) (s : Source) (line : ℕ) (text : List ℕ) (others : List (List ℕ)) → says_something text ≡ false
    → after_line classes s line text others ≡ Ok s
silent_line classes s line text others e = line_gives classes s line text others (statement_in (words text)) refl statement.Silent
    (silent_is (statement_in (words text)) e)

silent_class : (text : List ℕ) → says_something text ≡ false → is_class (statement_in (words text)) ≡ false
silent_class text e = ap is_class (silent_is (statement_in (words text)) e)

classes_more : (text : List ℕ) (others fewer : List (List ℕ)) (b : Bool) → is_class (statement_in (words text)) ≡ b
    → classes_in others ≡ classes_in fewer → classes_in (text ∷ others) ≡ classes_in (text ∷ fewer)
classes_more text others fewer true e h = class_counted text others e ∙ ap suc h ∙ sym (class_counted text fewer e)
classes_more text others fewer false e h = other_passed text others e ∙ h ∙ sym (other_passed text fewer e)

-- the lines that say something have all the classes
pub said_classes : (texts : List (List ℕ)) → classes_in texts ≡ classes_in (filter says_something texts)
said_classes [] = refl
said_classes (text ∷ others) = said_classes_by text others (says_something text) refl (said_classes others)
  where
    said_classes_by : (text : List ℕ) (others : List (List ℕ)) (b : Bool) → says_something text ≡ b
        → classes_in others ≡ classes_in (filter says_something others)
        → classes_in (text ∷ others) ≡ classes_in (cond b (text ∷ filter says_something others) (filter says_something others))
    said_classes_by text others false e h = other_passed text others (silent_class text e) ∙ h
    said_classes_by text others true e h = classes_more text others (filter says_something others) (is_class (statement_in (words text))) refl h

pub all_said : (classes : ℕ) (bodies : List (List ℕ)) (s t : Source) → Goes classes bodies s t → filter says_something bodies ≡ bodies
all_said classes [] s t h = refl
all_said classes (body ∷ bodies) s t h = rw h.2 (ap (λ (x : List (List ℕ)). body ∷ x) (all_said classes bodies h.0 t h.3))

-- from such lines, with others between, the same state is reached
pub record IsReached (classes : ℕ) (texts : List (List ℕ)) (s t : Source) (line : ℕ) (labels : List Label) : Type 0 where
  pub next : ℕ
  pub kept : List Label
  pub is : read_from classes (labelled s labels) line texts ≡ read_from classes (labelled t kept) next []

pub reached : (classes : ℕ) (texts bodies : List (List ℕ)) (s t : Source) → Goes classes bodies s t → filter says_something texts ≡ bodies
    → (line : ℕ) (labels : List Label) → IsReached classes texts s t line labels
reached classes [] [] s t h e line labels = record {
  next = line;
  kept = labels;
  is = ap (λ (x : Source). read_from classes (labelled x labels) line []) h;
}
reached classes [] (body ∷ bodies) s t h e line labels = absurd cc
reached classes (text ∷ others) bodies s t h e line labels =
    reached_by classes text others bodies s t (says_something text) refl h e line labels (reached classes others)
  where
    Rest : ℕ → List (List ℕ) → Type 0
    Rest classes others = (bodies : List (List ℕ)) (s t : Source) → Goes classes bodies s t → filter says_something others ≡ bodies
        → (line : ℕ) (labels : List Label) → IsReached classes others s t line labels

    reached_by : (classes : ℕ) (text : List ℕ) (others bodies : List (List ℕ)) (s t : Source) (b : Bool) → says_something text ≡ b
        → Goes classes bodies s t → cond b (text ∷ filter says_something others) (filter says_something others) ≡ bodies
        → (line : ℕ) (labels : List Label) → Rest classes others → IsReached classes (text ∷ others) s t line labels
    reached_by classes text others bodies s t false says h e line labels rest =
        let more = rest bodies s t h e (suc line) labels in
        record {
          next = more.next;
          kept = more.kept;
          is = step classes (labelled s labels) line text others
              ∙ ap (λ (r : Result Source AsmCause). go_on r line (λ u. read_from classes u (suc line) others))
              (silent_line classes (labelled s labels) line text others says)
              ∙ more.is;
        }
    reached_by classes text others [] s t true says h e line labels rest = absurd cc
    reached_by classes text others (body ∷ bodies) s t true says h e line labels rest =
        let same : body ≡ text = cc in
        let turn = h.1.turns line labels others in
        let more = rest bodies h.0 t h.3 (cc) (suc line) turn.0 in
        record {
          next = more.next;
          kept = more.kept;
          is = step classes (labelled s labels) line text others
              ∙ ap (λ (x : List ℕ). go_on (after_line classes (labelled s labels) line x others) line (λ u. read_from classes u (suc line) others))
              (sym same)
              ∙ ap (λ (r : Result Source AsmCause). go_on r line (λ u. read_from classes u (suc line) others)) turn.1
              ∙ more.is;
        }
