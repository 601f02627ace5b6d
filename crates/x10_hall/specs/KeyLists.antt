-- The keys of steps, as a list.
use Rattle.std.specs.Prelude.{◌≡◌, ◌<◌, ◌%◌, ℕ, List, map, length, get_or, replicate}
use Rattle.std.specs.List.{range_with_len}
use Rattle.x10_hall.specs.declared.keys.Form.{Form}
use Rattle.x10_hall.specs.declared.keys.Form.TheVariants as form

-- so many items: a round of them, again and again
abbrev pub in_rounds : List ℕ → ℕ → List ℕ
in_rounds round count = map (λ at. get_or round (at % length round) 0) (range_with_len 0 count)

-- one key so often, or a round again and again
abbrev pub keys_in : Form → List ℕ
keys_in (form.Same key count) = replicate count key
keys_in (form.Round round count) = in_rounds round.items count

-- each item is the one that stands in the same place of the first round
abbrev pub Recurs : List ℕ → ℕ → Type 0
Recurs keys period = (at : ℕ) → at < length keys → get_or keys at 0 ≡ get_or keys (at % period) 0
