-- What a line says, by its first word.
use Rattle.std.specs.Prelude.{◌≡◌, ℕ, Bool, false, nat_lt, List, [], ◌∷◌, Option, Some, None, if◌then◌else◌, codes}
use Rattle.std.specs.Str.{bytes_eq}
use Rattle.x10_code.specs.declared.op.Op.{Op}
use Rattle.x10_code.specs.Table.{op_of_name}
use Rattle.x10_asm.specs.declared.statement.Statement.{Statement}
use Rattle.x10_asm.specs.declared.statement.Statement.TheVariants.{Silent, Version, Places, Class, Int, Text, Func, End, Entry, Label, Instruction, Unknown}
use Rattle.x10_asm.specs.Lines.{begins, words, after_spaces, after_word}
use Rattle.x10_asm.specs.Labels.{ends_in_colon}

abbrev pub instruction_or_unknown : Option Op → Statement
instruction_or_unknown (Some o) = Instruction o
instruction_or_unknown None = Unknown

-- a label ends in a colon; else it is an instruction's name, or nothing that is known
abbrev pub label_or_instruction : List ℕ → Statement
label_or_instruction word = if ends_in_colon word then Label else instruction_or_unknown
    (op_of_name word)

-- the first byte is below the small letters
abbrev pub begins_name : List ℕ → Bool
begins_name [] = false
begins_name (first ∷ others) = nat_lt first 97

-- the statement that a first word begins; a comment says nothing
unfoldable pub statement_of : List ℕ → Statement
statement_of word =
    if begins 59 word then Silent
    else (if bytes_eq word (codes "version") then Version
    else (if bytes_eq word (codes "places") then Places
    else (if bytes_eq word (codes "class") then Class
    else (if bytes_eq word (codes "int") then Int
    else (if bytes_eq word (codes "text") then Text
    else (if bytes_eq word (codes "func") then Func
    else (if bytes_eq word (codes "end") then End
    else (if bytes_eq word (codes "entry") then Entry
    else label_or_instruction word))))))))

-- what a line of words says; a blank line says nothing
abbrev pub statement_in : List (List ℕ) → Statement
statement_in [] = Silent
statement_in (first ∷ others) = statement_of first

abbrev pub first_word : List (List ℕ) → List ℕ
first_word [] = []
first_word (first ∷ others) = first

abbrev pub other_words : List (List ℕ) → List (List ℕ)
other_words [] = []
other_words (first ∷ others) = others

-- a line says this, and such bytes follow its first word
pub record IsTakenApart (line : List ℕ) (said : Statement) (rest : List ℕ) : Type 0 where
  pub is_said : said ≡ statement_in (words line)
  pub are_others : words rest ≡ other_words (words line)
  pub is_after : after_spaces rest ≡ after_word line
