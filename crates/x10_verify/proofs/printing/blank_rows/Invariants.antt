use Rattle.std.proofs.Common.{◌≡◌, ℕ, Bool, Some, Vec, length}
use Rattle.std.specs.Prelude.{slice_get}
use Rattle.std.specs.Global.{Global}
use Rattle.x10_image.specs.Parts.{code_at}
use Rattle.x10_verify.proofs.printing.blank_rows.Given as goal

abbrev pub invariant-loop-f : goal.invariant-loop-f
invariant-loop-f l = record {
  count : length l.rows.items ≡ l.f;
  sizes : (f : ℕ) (row : Vec Bool Global) → slice_get l.rows.items f ≡ Some row → length row.items ≡ length (code_at l.image f);
}
