use Rattle.std.proofs.Common.{suc, ◌-◌}
use Rattle.x10_model.specs.Images.{function_bytes}
use Rattle.x10_model.specs.Readers.{numbered}
use Rattle.x10_model.specs.ReadingImages.{function_at}
use Rattle.x10_bytes.proofs.TableLoops.{Placed}
use Rattle.x10_image.proofs.tables.function_table.Given as goal

abbrev pub invariant-loop-function : goal.invariant-loop-function
invariant-loop-function l = Placed (function_at l.version l.classes) (λ s _. suc s) function_bytes l.image
    (l.count - l.function) 0 l.function l.rest l.table.items (numbered l.count (function_at l.version l.classes) l.bytes)
