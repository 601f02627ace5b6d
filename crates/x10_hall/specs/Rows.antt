-- The rows of a hall, as they are held.
use Rattle.std.specs.Prelude.{◌≡◌, ℕ, ◌<◌, ◌≤◌, List, [], drop, length, slice_index_or, ◌^◌}
use Rattle.x10_hall.specs.declared.turn.Turn.{Turn}
use Rattle.x10_hall.specs.Halls.{Numbered, posted_in, row_of}

-- a row: the frames that are left in it, how many were taken out, and for how many more room was made
pub record RowState : Type 0 where
  pub left : List Numbered
  pub taken : ℕ
  pub room : ℕ

-- a row that nothing was posted to; it also stands where there is no row
abbrev pub empty_row : RowState
empty_row = record { left = []; taken = 0; room = 0 }

-- the row of a place
abbrev pub row_at : List RowState → ℕ → RowState
row_at rows place = slice_index_or rows place empty_row

-- a row's frames are those that were posted to its place but for those that were taken out
pub record IsRestOf (row : List Numbered) (held : RowState) : Type 0 where
  pub within : held.taken ≤ length row
  pub rest : held.left ≡ drop held.taken row

-- the rows are those of the log, and the frames are counted
pub record AreRowsOf (log : List Turn) (posted : ℕ) (rows : List RowState) : Type 0 where
  pub counted : posted ≡ posted_in log
  pub few : posted < 2 ^ 64
  pub each : (p : ℕ) → p < length rows → IsRestOf (row_of p log) (row_at rows p)
