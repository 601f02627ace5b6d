-- Each line of a listing is read again.
use Rattle.std.proofs.Common.{◌≡◌, ℕ, ℤ, ◌≤◌, ◌<◌, ◌^◌, true, List, [], ◌∷◌, ◌++◌, length, map, Ok, refl, ap, ◌∙◌, arith}
use Rattle.std.specs.Prelude.{nat_lt, codes, decimal, FitsSigned}
use Rattle.std.specs.Int.{w64}
use Rattle.std.specs.Fmt.{signed_decimal}
use Rattle.std.specs.List.{flat_map, list_all, AllByRecursion}
use Rattle.std.proofs.lemmas.Bool.{lt-ltb, le-leb}
use Rattle.x10_kinds.specs.declared.kind.Kind.{Kind}
use Rattle.x10_model.specs.declared.version.ImageVersion.{ImageVersion}
use Rattle.x10_model.specs.declared.version.ImageVersion.TheVariants.{One, Two}
use Rattle.x10_model.specs.Modules.{Function, Module, NamesClassBelow, FitsText}
use Rattle.x10_asm.specs.declared.stage.Stage.{Stage}
use Rattle.x10_asm.specs.declared.stage.Stage.TheVariants as stage
use Rattle.x10_asm.specs.declared.statement.Statement.{Statement}
use Rattle.x10_asm.specs.declared.statement.Statement.TheVariants as statement
use Rattle.x10_asm.specs.Lines.{words}
use Rattle.x10_asm.specs.Statements.{statement_in, statement_of}
use Rattle.x10_asm.specs.Kinds.{field_of}
use Rattle.x10_asm.specs.Listing.{spaced, kind_word, quoted}
use Rattle.x10_asm.specs.Reading.{Source, after_line, after_statement, takes_int, takes_text, no_function, version_of, places_of, class_of, int_line_of, text_of, with_version, with_places, with_class, with_int, with_text}
use Rattle.x10_asm.proofs.LinesTakenIn.{line_gives}
use Rattle.x10_asm.proofs.SpelledLines.{IsWord, line_words, plain_words, word_then}
use Rattle.x10_asm.proofs.SpelledWords.{number_again, decimal_word, int_again, int_word, field_again, each_again, known_again, all_words, kind_is_word}
use Rattle.x10_asm.proofs.SpelledTexts.{literal_again, after_text, plain_text}
use Rattle.x10_asm.proofs.ReadingAgain.{Turns, labelled}

-- outside functions, and in one
abbrev pub outside : Stage → Module → Source
outside s m = record { stage = s; so_far = m; function = no_function; labels = [] }

abbrev pub inside : Module → Function → Source
inside m f = record { stage = stage.Inside; so_far = m; function = f; labels = [] }

abbrev pub body_of : List ℕ → List (List ℕ) → List ℕ
body_of first others = first ++ flat_map spaced others

-- what a line of words gives
pub gives : (classes : ℕ) (s : Source) (line : ℕ) (texts others : List (List ℕ)) (first : List ℕ) (st : Statement) → IsWord first
    → AllByRecursion IsWord others → statement_of first ≡ st
    → after_line classes s line (body_of first others) texts ≡ after_statement classes s line (body_of first others) (first ∷ others) texts st
gives classes s line texts others first st h hs e =
    let split = line_words first others h hs in
    line_gives classes s line (body_of first others) texts (statement_in (words (body_of first others))) refl st (ap statement_in split ∙ e)
    ∙ ap (λ (ws : List (List ℕ)). after_statement classes s line (body_of first others) ws texts st) split

pub statement_first : (first : List ℕ) (others : List (List ℕ)) (st : Statement) → IsWord first → AllByRecursion IsWord others
    → statement_of first ≡ st → statement_in (words (body_of first others)) ≡ st
statement_first first others st h hs e = ap statement_in (line_words first others h hs) ∙ e

word : (first : ℕ) (others : List ℕ) → list_all (nat_lt 32) (first ∷ others) ≡ true → IsWord (first ∷ others)
word first others h = record { some = omega arith; printed = h }

pub version_word : IsWord (codes "version")
version_word = word 118 _ refl

pub places_word : IsWord (codes "places")
places_word = word 112 _ refl

pub class_word : IsWord (codes "class")
class_word = word 99 _ refl

pub int_first : IsWord (codes "int")
int_first = word 105 _ refl

pub text_first : IsWord (codes "text")
text_first = word 116 _ refl

pub func_word : IsWord (codes "func")
func_word = word 102 _ refl

pub end_word : IsWord (codes "end")
end_word = word 101 _ refl

pub entry_word : IsWord (codes "entry")
entry_word = word 101 _ refl

pub says_version : statement_of (codes "version") ≡ statement.Version
unfolding statement_of
says_version = refl

pub says_places : statement_of (codes "places") ≡ statement.Places
unfolding statement_of
says_places = refl

pub says_class : statement_of (codes "class") ≡ statement.Class
unfolding statement_of
says_class = refl

pub says_int : statement_of (codes "int") ≡ statement.Int
unfolding statement_of
says_int = refl

pub says_text : statement_of (codes "text") ≡ statement.Text
unfolding statement_of
says_text = refl

pub says_func : statement_of (codes "func") ≡ statement.Func
unfolding statement_of
says_func = refl

pub says_end : statement_of (codes "end") ≡ statement.End
unfolding statement_of
says_end = refl

pub says_entry : statement_of (codes "entry") ≡ statement.Entry
unfolding statement_of
says_entry = refl

-- ---- the version

version_again : (v : ImageVersion) → v ≡ One → version_of stage.Start v (decimal 2 ∷ []) ≡ Ok tt
unfolding version_of
version_again v e = rw (e, number_again 2 2 (omega arith) (omega arith)) refl

pub version_turns : (classes : ℕ) (m : Module) → m.version ≡ One
    → Turns classes (body_of (codes "version") (decimal 2 ∷ [])) (outside stage.Start m) (outside stage.Start (record m { version = Two }))
version_turns classes m one =
    let hs : AllByRecursion IsWord (decimal 2 ∷ []) = (decimal_word 2 (omega arith), tt) in
    record {
      plain = plain_words (codes "version") (decimal 2 ∷ []) version_word hs;
      turns = λ line labels others. (
        labels,
        gives classes (labelled (outside stage.Start m) labels) line others (decimal 2 ∷ [])
            (codes "version") statement.Version version_word hs says_version
            ∙ ap (with_version (labelled (outside stage.Start m) labels)) (version_again m.version one),
      );
    }

-- ---- places

places_again : (n : ℕ) → 1 ≤ n → n ≤ 64 → places_of stage.Start (decimal n ∷ []) ≡ Ok n
unfolding places_of
places_again n low high = rw (number_again 65535 n (omega arith) (omega arith), le-leb 1 n low, le-leb n 64 high) refl

pub places_turns : (classes n : ℕ) (m : Module) → 1 ≤ n → n ≤ 64
    → Turns classes (body_of (codes "places") (decimal n ∷ [])) (outside stage.Start m) (outside stage.Classes (record m { least_places = n }))
places_turns classes n m low high =
    let hs : AllByRecursion IsWord (decimal n ∷ []) = (decimal_word n (omega arith), tt) in
    record {
      plain = plain_words (codes "places") (decimal n ∷ []) places_word hs;
      turns = λ line labels others. (
        labels,
        gives classes (labelled (outside stage.Start m) labels) line others (decimal n ∷ [])
            (codes "places") statement.Places places_word hs says_places
            ∙ ap (with_places (labelled (outside stage.Start m) labels)) (places_again n low high),
      );
    }

-- ---- classes

class_again : (classes before : ℕ) (fields : List Kind) → classes < 2 ^ 16 → AllByRecursion (NamesClassBelow classes) fields → length fields ≤ 16
    → before < 65535 → class_of stage.Classes classes before (map kind_word fields) ≡ Ok fields
unfolding class_of
class_again classes before fields few h le lt =
    rw (
      known_again (field_of classes) kind_word (NamesClassBelow classes) (λ k f. field_again classes k few f) fields h,
      each_again (field_of classes) kind_word (NamesClassBelow classes) (λ k f. field_again classes k few f) fields h,
      le-leb (length fields) 16 le,
      lt-ltb before 65535 lt,
    ) refl

pub class_turns : (classes : ℕ) (m : Module) (fields : List Kind) → classes < 2 ^ 16 → AllByRecursion (NamesClassBelow classes) fields
    → length fields ≤ 16 → length m.classes < 65535
    → Turns classes (body_of (codes "class") (map kind_word fields)) (outside stage.Classes m)
    (outside stage.Classes (record m { classes = m.classes ++ fields ∷ [] }))
class_turns classes m fields few h le lt =
    let hs = all_words kind_word (NamesClassBelow classes) (λ k f. kind_is_word classes k few f) fields h in
    record {
      plain = plain_words (codes "class") (map kind_word fields) class_word hs;
      turns = λ line labels others. (
        labels,
        gives classes (labelled (outside stage.Classes m) labels) line others (map kind_word fields)
            (codes "class") statement.Class class_word hs says_class
            ∙ ap (with_class (labelled (outside stage.Classes m) labels)) (class_again classes (length m.classes) fields few h le lt),
      );
    }

-- ---- constant numbers

int_line_again : (s : Stage) (before : ℕ) (z : ℤ) → takes_int s ≡ true → FitsSigned w64 z → before < 65535
    → int_line_of s before (signed_decimal z ∷ []) ≡ Ok z
unfolding int_line_of
int_line_again s before z t f lt = rw (int_again z f, t, lt-ltb before 65535 lt) refl

pub int_turns : (classes : ℕ) (s : Stage) (m : Module) (z : ℤ) → takes_int s ≡ true → FitsSigned w64 z → length m.ints < 65535
    → Turns classes (body_of (codes "int") (signed_decimal z ∷ [])) (outside s m) (outside stage.Ints (record m { ints = m.ints ++ z ∷ [] }))
int_turns classes s m z t f lt =
    let hs : AllByRecursion IsWord (signed_decimal z ∷ []) = (int_word z f, tt) in
    record {
      plain = plain_words (codes "int") (signed_decimal z ∷ []) int_first hs;
      turns = λ line labels others. (
        labels,
        gives classes (labelled (outside s m) labels) line others (signed_decimal z ∷ [])
            (codes "int") statement.Int int_first hs says_int ∙ ap (with_int (labelled (outside s m) labels))
            (int_line_again s (length m.ints) z t f lt),
      );
    }

-- ---- constant texts

text_line_again : (s : Stage) (before : ℕ) (text : List ℕ) → takes_text s ≡ true → FitsText text → before < 65535
    → text_of s before (quoted text) ≡ Ok text
unfolding text_of
text_line_again s before text t f lt = rw (literal_again text f, t, lt-ltb before 65535 lt) refl

pub says_text_line : (text : List ℕ) → statement_in (words (body_of (codes "text") (quoted text ∷ []))) ≡ statement.Text
says_text_line text = ap statement_in (word_then (codes "text") (flat_map spaced (quoted text ∷ [])) text_first refl) ∙ says_text

pub text_turns : (classes : ℕ) (s : Stage) (m : Module) (text : List ℕ) → takes_text s ≡ true → FitsText text → length m.texts < 65535
    → Turns classes (body_of (codes "text") (quoted text ∷ [])) (outside s m) (outside stage.Texts (record m { texts = m.texts ++ text ∷ [] }))
text_turns classes s m text t f lt = record {
  plain = plain_text text;
  turns = λ line labels others. (
    labels,
    line_gives classes (labelled (outside s m) labels) line (body_of (codes "text") (quoted text ∷ [])) others
        (statement_in (words (body_of (codes "text") (quoted text ∷ [])))) refl statement.Text (says_text_line text)
        ∙ ap (λ (rest : List ℕ). with_text (labelled (outside s m) labels) (text_of s (length m.texts) rest)) (after_text text)
        ∙ ap (with_text (labelled (outside s m) labels)) (text_line_again s (length m.texts) text t f lt),
  );
}
