-- How much a Homes knows, as a number that falls wherever an equation is given up.
use Rattle.std.specs.Prelude.{ℕ, zero, suc, ◌+◌, ◌-◌, slice_index}
use Rattle.x10_kinds.specs.declared.homes.Homes.{Homes}

-- the sum of the first n values of f
unfoldable pub sum_below : ℕ → (ℕ → ℕ) → ℕ
sum_below zero f = 0
sum_below (suc n) f = f n + sum_below n f

-- the sum over all terms of how far the label is below the greatest that there may be
unfoldable pub rank : Homes → ℕ
rank h = sum_below 129 (λ i. 129 - slice_index h.labels i)

-- how many ranks there are: from 0 to 129 times 129
abbrev pub ranks : ℕ
ranks = 16642
