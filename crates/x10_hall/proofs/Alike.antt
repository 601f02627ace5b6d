-- Rows that differ in nothing but the room that was made.
use Rattle.std.proofs.Common.{◌≡◌, ℕ, List, length}
use Rattle.x10_hall.specs.Rows.{RowState, row_at}

pub record AreAlike (old new : List RowState) : Type 0 where
  pub count : length new ≡ length old
  pub left : (p : ℕ) → (row_at new p).left ≡ (row_at old p).left
  pub taken : (p : ℕ) → (row_at new p).taken ≡ (row_at old p).taken
