-- What is answered in place of a task.
use Rattle.std.specs.Prelude.{◌≡◌, ◌⊎◌, ℕ, List, [], ◌∷◌, ◌++◌, Option, Some, None, IsSome, String, codes}
use Rattle.std.specs.Global.{Global}
use Rattle.std.specs.String.{string_bytes}
use Rattle.x10_usage.specs.declared.usage.Usage.{Usage}

-- the text of an answer: what it has, or where there was no memory for that, the line that says so
abbrev pub text_of : Option (String Global) → List ℕ
text_of None = codes "x10p: memory" ++ 10 ∷ []
text_of (Some text) = string_bytes text

-- what is answered in place of a task: a text with status 0 or 3, or status 2 and no text, where memory was refused
abbrev pub IsAnswer : Usage → Type 0
IsAnswer u = ((u.status ≡ 0) × IsSome u.text) ⊎ ((u.status ≡ 2) × (u.text ≡ None))
    ⊎ ((u.status ≡ 3) × IsSome u.text)
