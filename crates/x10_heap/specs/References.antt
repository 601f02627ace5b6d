-- A global reference in a word: its home, and 65,536 times the id that its object has there.
use Rattle.std.specs.Prelude.{ℕ, ◌+◌, ◌*◌, ◌/◌, ◌%◌}

-- the place that a word stands for: the home of a global reference, or the place whose word it is
abbrev pub home_of : ℕ → ℕ
home_of word = word % 65536

-- the id in the word of a global reference
abbrev pub id_of : ℕ → ℕ
id_of word = word / 65536

-- the word of a global reference
abbrev pub reference_word : (home id : ℕ) → ℕ
reference_word home id = home + 65536 * id
