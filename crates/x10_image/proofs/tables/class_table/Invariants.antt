use Rattle.std.proofs.Common.{ℕ, ◌-◌}
use Rattle.x10_model.specs.Images.{class_bytes}
use Rattle.x10_model.specs.Readers.{times}
use Rattle.x10_model.specs.ReadingImages.{class_at}
use Rattle.x10_bytes.proofs.TableLoops.{Placed}
use Rattle.x10_image.proofs.tables.class_table.Given as goal

abbrev pub invariant-loop : goal.invariant-loop
invariant-loop l = Placed (λ (_ : ℕ). class_at l.count) (λ s _. s) class_bytes l.image (l.count - l.counter) 0 0 l.rest l.table.items
    (times l.count (class_at l.count) l.bytes)
