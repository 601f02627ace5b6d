-- Texts between quotes.
use Rattle.std.specs.Prelude.{ℕ, Bool, true, false, ◌==◌, ◌&&◌, nat_le, List, [], ◌∷◌, length, Option, Some, None, Result, Ok, Err, if◌then◌else◌}
use Rattle.std.specs.Str.{is_utf8}
use Rattle.x10_model.specs.declared.limits.TheConstants.{MOST_BYTES}
use Rattle.x10_asm.specs.declared.fault.AsmCause.{AsmCause}
use Rattle.x10_asm.specs.declared.fault.AsmCause.TheVariants.{Count, Text}
use Rattle.x10_asm.specs.Lines.{words, is_word_end, stripped}
use Rattle.x10_asm.specs.Checks.{◌>>=◌, ◌>>◌, given, no_more}

-- the byte that an escape stands for: a quote, a backslash or a line feed
abbrev pub unescaped : ℕ → Option ℕ
unescaped c = if c == 34 then Some 34 else
    (if c == 92 then Some 92 else (if c == 110 then Some 10 else None))

-- with a byte before the text
abbrev pub onto : ℕ → Option (List ℕ × List ℕ) → Option (List ℕ × List ℕ)
onto c None = None
onto c (Some p) = Some (c ∷ p.0, p.1)

abbrev pub onto_escape : Option ℕ → Option (List ℕ × List ℕ) → Option (List ℕ × List ℕ)
onto_escape None read = None
onto_escape (Some c) read = onto c read

-- the text up to the closing quote, and what follows that; after a backslash comes an escape
unfoldable pub scan : Bool → List ℕ → Option (List ℕ × List ℕ)
scan after_backslash [] = None
scan false (c ∷ cs) = if c == 34 then Some ([], cs) else
    (if c == 92 then scan true cs else onto c (scan false cs))
scan true (c ∷ cs) = onto_escape (unescaped c) (scan false cs)

-- a text of at most 65,535 bytes
abbrev pub fitting : List ℕ → Result (List ℕ) AsmCause
fitting text = if nat_le (length text) MOST_BYTES && is_utf8 text then Ok text else Err Text

-- nothing but spaces may follow the closing quote; a word after a space is one too many
abbrev pub closed : List ℕ → List ℕ → Result (List ℕ) AsmCause
closed text rest = if is_word_end rest then no_more (words rest) >> fitting text else Err Text

abbrev pub unquoted : Option (List ℕ) → Result (List ℕ) AsmCause
unquoted None = Err Text
unquoted (Some quoted) = do
  p ← given (scan false quoted) Text
  closed p.0 p.1

-- the text that the rest of a line spells
unfoldable pub literal : List ℕ → Result (List ℕ) AsmCause
literal rest = if length rest == 0 then Err Count else unquoted (stripped (34 ∷ []) rest)
