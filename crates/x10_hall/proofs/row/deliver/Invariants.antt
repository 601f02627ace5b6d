use Rattle.std.proofs.Common.{◌≡◌, ℕ, ◌+◌, ◌<◌, ◌≤◌, ◌^◌, ◌++◌, length, map}
use Rattle.std.specs.Vec.Iter.{into_iter_items, into_iter_len}
use Rattle.x10_hall.specs.Halls.{frame_of, row_from}
use Rattle.x10_hall.specs.Rows.{row_at}
use Rattle.x10_hall.proofs.row.deliver.Given as goal

abbrev pub invariant-loop-frame : goal.invariant-loop-frame
invariant-loop-frame l = record {
  can_next : (goal.iterator-loop-frame).can_next l.frame-iterator;
  is_finite : (goal.iterator-loop-frame).is_finite l.frame-iterator;
  count : length l.rows.items ≡ length l.initial.rows.items;
  taken : (p : ℕ) → (row_at l.rows.items p).taken ≡ (row_at l.initial.rows.items p).taken;
  left : (p : ℕ) → p < length l.rows.items → (row_at l.rows.items p).left ++ row_from p l.number (map frame_of (into_iter_items l.frame-iterator))
      ≡ (row_at l.initial.rows.items p).left ++ row_from p l.first (map frame_of (into_iter_items l.initial.frame-iterator));
  room : (p : ℕ) → p < length l.rows.items → length (row_from p l.number (map frame_of (into_iter_items l.frame-iterator)))
      ≤ (row_at l.rows.items p).room;
  steps : into_iter_len l.frame-iterator ≡ length (into_iter_items l.frame-iterator);
  few : l.number + length (into_iter_items l.frame-iterator) < 2 ^ 64;
}
