use Rattle.std.proofs.Common.{◌≡◌, All, length}
use Rattle.x10_hall.specs.Rows.{empty_row}
use Rattle.x10_hall.proofs.row.open_rows.Given as goal

abbrev pub invariant-loop : goal.invariant-loop
invariant-loop l = (length l.rows.items ≡ l.counter) × All (λ row. row ≡ empty_row) l.rows.items
