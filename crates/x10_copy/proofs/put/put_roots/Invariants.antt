use Rattle.std.proofs.Common.{drop}
use Rattle.x10_model.specs.declared.version.FrameVersion.TheVariants.{Wide}
use Rattle.x10_model.specs.Frames.{item_bytes}
use Rattle.x10_copy.specs.Names.{items_of}
use Rattle.x10_copy.specs.Captured.{kinds_of}
use Rattle.x10_copy.proofs.WrittenLemmas.{IsLeft}
use Rattle.x10_copy.proofs.put.put_roots.Given as goal

abbrev pub invariant-loop-i : goal.invariant-loop-i
invariant-loop-i l = IsLeft (item_bytes Wide) l.initial.writer (items_of l.marks (kinds_of l.slots) l.words) l.writer
    (items_of l.marks (drop l.i (kinds_of l.slots)) (drop l.i l.words))
