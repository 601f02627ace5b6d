-- Operations by their names, and what first words say.
use Rattle.std.proofs.Common.{◌≡◌, ℕ, Bool, true, false, List, [], ◌∷◌, Option, Some, None, refl, sym, ap, ◌∙◌, inl, inr, length, arith}
use Rattle.std.specs.Prelude.{IfSome, if◌then◌else◌, codes, not}
use Rattle.std.specs.Str.{bytes_eq}
use Rattle.std.proofs.lemmas.Bool.{both_ways, false≢true, cases_Bool, cases_eq, cond-true}
use Rattle.std.proofs.lemmas.Slice.Eq.{bytes_eq-Decides}
use Rattle.x10_code.specs.declared.op.Op.{Op}
use Rattle.x10_code.specs.Table.{name_of, op_of_name}
use Rattle.x10_code.proofs.Operations.{op_of_name-name_of, name_of-op_of_name}
use Rattle.x10_asm.specs.declared.statement.Statement.{Statement}
use Rattle.x10_asm.specs.declared.statement.Statement.TheVariants.{Silent, Version, Places, Class, Int, Text, Func, End, Entry, Label}
use Rattle.x10_asm.specs.Lines.{begins, words, after_spaces}
use Rattle.x10_asm.specs.Labels.{ends_in_colon}
use Rattle.x10_asm.specs.Statements.{statement_of, label_or_instruction, instruction_or_unknown, statement_in, first_word}
use Rattle.x10_asm.specs.Reading.{is_class}
use Rattle.x10_asm.proofs.LinesAndWords.{begins_alike, no_words}

none_named : (word : List ℕ) (r : Option Op) → op_of_name word ≡ r → ((o : Op) → word ≡ name_of o → ◌≡◌ {A = Option Op} None (Some o))
    → ◌≡◌ {A = Option Op} None r
none_named word None e only = refl
none_named word (Some p) e only = only p (sym (name_of-op_of_name word p e))

pub is_named : (word : List ℕ) (found : Option Op) → IfSome found (λ o. word ≡ name_of o) → ((o : Op) → word ≡ name_of o → found ≡ Some o)
    → found ≡ op_of_name word
is_named word None f only = none_named word (op_of_name word) refl only
is_named word (Some o) f only = sym (ap op_of_name f ∙ op_of_name-name_of o)

pub words_nil : words [] ≡ []
unfolding words
words_nil = refl

-- ---- labels

is_label : Statement → Bool
is_label Label = true
is_label _ = false

-- a test that leads elsewhere was not passed
passed_over : (t : Bool) (here there : Statement) → is_label here ≡ false → is_label (if t then here else there) ≡ true → is_label there ≡ true
passed_over true here there ne e = absurd (both_ways (is_label here) ne e)
passed_over false here there ne e = e

colon : (t : Bool) (r : Option Op) → is_label (if t then Label else instruction_or_unknown r) ≡ true → t ≡ true
unfolding is_label
colon true r e = refl
colon false None e = absurd (false≢true e)
colon false (Some o) e = absurd (false≢true e)

-- only a word that ends in a colon is a label's
label_ends_when : (word : List ℕ) → is_label (statement_of word) ≡ true → ends_in_colon word ≡ true
unfolding statement_of is_label
label_ends_when word e =
    colon (ends_in_colon word) (op_of_name word)
    (passed_over (bytes_eq word (codes "entry")) Entry (label_or_instruction word) refl
    (passed_over (bytes_eq word (codes "end")) End _ refl
    (passed_over (bytes_eq word (codes "func")) Func _ refl
    (passed_over (bytes_eq word (codes "text")) Text _ refl
    (passed_over (bytes_eq word (codes "int")) Int _ refl
    (passed_over (bytes_eq word (codes "class")) Class _ refl
    (passed_over (bytes_eq word (codes "places")) Places _ refl
    (passed_over (bytes_eq word (codes "version")) Version _ refl
    (passed_over (begins 59 word) Silent _ refl e)))))))))

pub label_ends : (word : List ℕ) → statement_of word ≡ Label → ends_in_colon word ≡ true
unfolding is_label
label_ends word e = label_ends_when word (ap is_label e)

silent : Silent ≡ Label → ⊥
unfolding is_label
silent e = false≢true (ap is_label e)

pub line_label_ends : (ws : List (List ℕ)) → statement_in ws ≡ Label → ends_in_colon (first_word ws) ≡ true
line_label_ends [] e = absurd (silent e)
line_label_ends (w ∷ ws) e = label_ends w e

-- ---- words told apart by a test

-- a word that passes a test is none that doesn't
pub not_word : (p : List ℕ → Bool) (word other : List ℕ) → p word ≡ true → p other ≡ false → bytes_eq word other ≡ false
not_word p word other passes fails = elim (cases_Bool (bytes_eq word other)) [
  | inl e ↦ absurd (both_ways (p other) fails (ap p (sym ((bytes_eq-Decides word other).0 e)) ∙ passes))
  | inr ne ↦ ne
]

-- a word that passes a test which no fixed word passes, and that is no comment's, begins a label or an instruction
pub no_keyword : (p : List ℕ → Bool) (word : List ℕ) → p word ≡ true → begins 59 word ≡ false
    → p (codes "version") ≡ false → p (codes "places") ≡ false → p (codes "class") ≡ false → p (codes "int") ≡ false → p (codes "text") ≡ false
    → p (codes "func") ≡ false → p (codes "end") ≡ false → p (codes "entry") ≡ false
    → statement_of word ≡ label_or_instruction word
unfolding statement_of
no_keyword p word passes comment version places class int text func end entry =
    rw (
      comment,
      not_word p word (codes "version") passes version,
      not_word p word (codes "places") passes places,
      not_word p word (codes "class") passes class,
      not_word p word (codes "int") passes int,
      not_word p word (codes "text") passes text,
      not_word p word (codes "func") passes func,
      not_word p word (codes "end") passes end,
      not_word p word (codes "entry") passes entry,
    ) refl

pub label_is : (word : List ℕ) → begins 59 word ≡ false → ends_in_colon word ≡ true → statement_of word ≡ Label
label_is word comment colon = no_keyword ends_in_colon word colon comment refl refl refl refl refl refl refl refl
    ∙ cond-true (ends_in_colon word) Label (instruction_or_unknown (op_of_name word)) colon

-- ---- classes, by their first word alone

-- a test that leads to another line
no_class : (t : Bool) (here there : Statement) → is_class here ≡ false → is_class there ≡ false → is_class (if t then here else there) ≡ false
no_class true here there e f = e
no_class false here there e f = f

named_no_class : (r : Option Op) → is_class (instruction_or_unknown r) ≡ false
named_no_class None = refl
named_no_class (Some o) = refl

other_no_class : (word : List ℕ) → bytes_eq word (codes "class") ≡ false → is_class (statement_of word) ≡ false
unfolding statement_of
other_no_class word ne = rw ne
    (no_class (begins 59 word) Silent _ refl
    (no_class (bytes_eq word (codes "version")) Version _ refl
    (no_class (bytes_eq word (codes "places")) Places _ refl
    (no_class (bytes_eq word (codes "int")) Int _ refl
    (no_class (bytes_eq word (codes "text")) Text _ refl
    (no_class (bytes_eq word (codes "func")) Func _ refl
    (no_class (bytes_eq word (codes "end")) End _ refl
    (no_class (bytes_eq word (codes "entry")) Entry _ refl
    (no_class (ends_in_colon word) Label _ refl (named_no_class (op_of_name word)))))))))))

class_word : is_class (statement_of (codes "class")) ≡ true
unfolding statement_of
class_word = refl

pub class_is : (word : List ℕ) → bytes_eq word (codes "class") ≡ is_class (statement_of word)
class_is word = elim (cases_Bool (bytes_eq word (codes "class"))) [
  | inl e ↦ e ∙ sym (ap (λ (w : List ℕ). is_class (statement_of w)) ((bytes_eq-Decides word (codes "class")).0 e) ∙ class_word)
  | inr ne ↦ ne ∙ sym (other_no_class word ne)
]

pub class_in : (word : List ℕ) (ws others : List (List ℕ)) → ws ≡ word ∷ others → bytes_eq word (codes "class") ≡ is_class (statement_in ws)
class_in word ws others e = class_is word ∙ ap (λ (t : List (List ℕ)). is_class (statement_in t)) (sym e)

pub no_class_in : (ws : List (List ℕ)) → ws ≡ [] → is_class (statement_in ws) ≡ false
no_class_in ws e = ap (λ (t : List (List ℕ)). is_class (statement_in t)) e

first_no_class : (ws : List (List ℕ)) → begins 99 (first_word ws) ≡ false → is_class (statement_in ws) ≡ false
first_no_class [] e = refl
first_no_class (w ∷ ws) e = sym (class_is w) ∙ not_word (λ t. not (begins 99 t)) w (codes "class") (ap not e) refl

pub other_line : (line : List ℕ) → begins 99 (after_spaces line) ≡ false → is_class (statement_in (words line)) ≡ false
other_line line e = elim (cases_eq (length (after_spaces line)) 0) [
  | inl h ↦ no_class_in (words line) (no_words line h)
  | inr some ↦ first_no_class (words line) (begins_alike 99 line (omega (arith, some)) ∙ e)
]
