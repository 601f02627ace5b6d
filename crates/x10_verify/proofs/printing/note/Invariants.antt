use Rattle.std.proofs.Common.{◌≡◌, ℕ, ◌<◌, length}
use Rattle.x10_model.specs.Ranges.{instr_at}
use Rattle.x10_verify.specs.Printing.{bit_in, prints_in}
use Rattle.x10_verify.specs.States.{stated}
use Rattle.x10_verify.proofs.printing.note.Given as goal

abbrev pub invariant-loop-pc : goal.invariant-loop-pc
invariant-loop-pc l = record {
  noted : (q : ℕ) → q < l.pc → bit_in l.row.items q ≡ prints_in (instr_at l.image l.f q) (stated l.table.items q);
  size : length l.row.items ≡ length l.fn.row.items;
}
