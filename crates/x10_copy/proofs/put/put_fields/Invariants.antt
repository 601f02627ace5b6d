use Rattle.std.proofs.Common.{drop}
use Rattle.x10_model.specs.declared.version.FrameVersion.TheVariants.{Wide}
use Rattle.x10_model.specs.Frames.{item_bytes}
use Rattle.x10_copy.specs.Names.{items_of}
use Rattle.x10_copy.proofs.WrittenLemmas.{IsLeft}
use Rattle.x10_copy.proofs.put.put_fields.Given as goal

abbrev pub invariant-loop-j : goal.invariant-loop-j
invariant-loop-j l = IsLeft (item_bytes Wide) l.initial.writer (items_of l.marks l.class l.words) l.writer
    (items_of l.marks (drop l.j l.class) (drop l.j l.words))
