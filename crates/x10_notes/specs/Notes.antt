-- Notes: lines that begin with two spaces, so that they can be told from others.
use Rattle.std.specs.Prelude.{◌≡◌, ◌≢◌, ℕ, List, [], ◌∷◌, ◌++◌}
use Rattle.std.specs.List.{AllByRecursion, flat_map}

-- bytes among which there is no line feed
abbrev pub HasNoFeed : List ℕ → Type 0
HasNoFeed words = AllByRecursion (λ c. c ≢ 10) words

-- a line of notes: two spaces, the words, and a line feed
abbrev pub note : List ℕ → List ℕ
note words = 32 ∷ 32 ∷ (words ++ 10 ∷ [])

-- the text is some lines of notes, none of which has a line feed within
pub record AreNotes (text : List ℕ) : Type 0 where
  pub lines : List (List ℕ)
  pub whole : AllByRecursion HasNoFeed lines
  pub text_is : text ≡ flat_map note lines
