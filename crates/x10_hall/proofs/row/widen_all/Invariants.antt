use Rattle.std.proofs.Common.{ℕ, ◌+◌, ◌<◌, ◌≤◌, drop, length, map}
use Rattle.x10_hall.specs.Halls.{frame_of, row_from}
use Rattle.x10_hall.specs.Rows.{row_at}
use Rattle.x10_hall.proofs.Alike.{AreAlike}
use Rattle.x10_hall.proofs.row.widen_all.Given as goal

abbrev pub invariant-loop-frame : goal.invariant-loop-frame
invariant-loop-frame l = record {
  alike : AreAlike l.initial.rows.items l.rows.items;
  room : (p number : ℕ) → p < length l.rows.items → length (row_from p number (map frame_of l.frames))
      ≤ (row_at l.rows.items p).room + length (row_from p (number + l.frame-index) (map frame_of (drop l.frame-index l.frames)));
}
