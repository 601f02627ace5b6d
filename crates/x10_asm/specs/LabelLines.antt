-- The labels of a function, from the lines after the one that begins it.
use Rattle.std.specs.Prelude.{ℕ, suc, Bool, true, false, min, List, [], ◌∷◌, ◌++◌, if◌then◌else◌}
use Rattle.x10_model.specs.declared.limits.TheConstants.{MOST_INSTRUCTIONS}
use Rattle.x10_asm.specs.declared.statement.Statement.{Statement}
use Rattle.x10_asm.specs.declared.statement.Statement.TheVariants.{Silent, Places, Class, Int, Text, Func, End, Entry, Instruction, Unknown}
use Rattle.x10_asm.specs.declared.statement.Statement.TheVariants as statement
use Rattle.x10_asm.specs.Lines.{words}
use Rattle.x10_asm.specs.Labels.{Label, is_name, label_name}
use Rattle.x10_asm.specs.Statements.{statement_in, first_word}

-- one instruction more, of the most that a function may have
abbrev pub counted : ℕ → ℕ
counted index = min (suc index) MOST_INSTRUCTIONS

-- an instruction counts up
abbrev pub index_after : Statement → ℕ → ℕ
index_after (Instruction o) index = counted index
index_after _ index = index

-- the next function or the end of this one
abbrev pub ends_labels : Statement → Bool
ends_labels Func = true
ends_labels End = true
ends_labels _ = false

-- the label that a line defines, if its name is one
abbrev pub defined : Statement → List ℕ → ℕ → ℕ → List Label
defined statement.Label word line index =
    if is_name (label_name word) then record { name = label_name word; line = line; index = index }
    ∷ [] else []
defined _ word line index = []

-- the labels of the lines from a line and an instruction on, up to the function's end
unfoldable pub labels_from : ℕ → ℕ → List (List ℕ) → List Label
labels_from line index [] = []
labels_from line index (text ∷ others) =
    if ends_labels (statement_in (words text)) then []
    else (defined (statement_in (words text)) (first_word (words text)) line index
    ++ labels_from (suc line)
    (index_after (statement_in (words text)) index) others)
