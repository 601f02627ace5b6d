-- Sets of places below 64, as the bits of a number.
use Rattle.std.specs.Prelude.{ℕ, ◌==◌, Bool}
use Rattle.std.specs.Int.{bit_at}

-- whether a place is in a set
unfoldable pub has_place : ℕ → ℕ → Bool
has_place set place = bit_at set place == 1
