-- What a text says, comments and blank lines aside.
use Rattle.std.specs.Prelude.{◌≡◌, ◌==◌, ℕ, Bool, true, false, not, List, ◌∷◌, [], ◌++◌, filter}
use Rattle.std.specs.List.{list_all}
use Rattle.x10_asm.specs.declared.statement.Statement.{Statement}
use Rattle.x10_asm.specs.declared.statement.Statement.TheVariants.{Silent}
use Rattle.x10_asm.specs.Lines.{lines, words}
use Rattle.x10_asm.specs.Statements.{statement_in}

abbrev pub is_silent : Statement → Bool
is_silent Silent = true
is_silent _ = false

-- the line is neither blank nor a comment
abbrev pub says_something : List ℕ → Bool
says_something text = not (is_silent (statement_in (words text)))

-- the lines of a text that say something
abbrev pub said : List ℕ → List (List ℕ)
said text = filter says_something (lines text)

-- two texts say the same, whatever comes after both
pub record SaysAs (text plain : List ℕ) : Type 0 where
  pub bodies : List (List ℕ)
  pub text_says : (rest : List ℕ) → said (text ++ rest) ≡ bodies ++ said rest
  pub plain_says : (rest : List ℕ) → said (plain ++ rest) ≡ bodies ++ said rest

-- what was put behind a text says the same as this
abbrev pub Tells : List ℕ → List ℕ → List ℕ → Type 0
Tells old new plain = (text : List ℕ) × (new ≡ old ++ text) × SaysAs text plain

-- no byte is a line feed
abbrev pub is_feedless : List ℕ → Bool
is_feedless line = list_all (λ c. not (c == 10)) line

-- a comment with these bytes
abbrev pub comment : List ℕ → List ℕ
comment line = 59 ∷ 32 ∷ (line ++ 10 ∷ [])
