use Rattle.std.proofs.Common.{drop}
use Rattle.x10_model.specs.declared.version.FrameVersion.TheVariants.{Wide}
use Rattle.x10_model.specs.Frames.{node_bytes}
use Rattle.x10_copy.specs.Graphs.{nodes_of}
use Rattle.x10_copy.proofs.WrittenLemmas.{IsLeft}
use Rattle.x10_copy.proofs.put.put_objects.Given as goal

abbrev pub invariant-loop-k : goal.invariant-loop-k
invariant-loop-k l = IsLeft (node_bytes Wide) l.initial.writer (nodes_of l.image.classes l.heap l.marks l.marks.objects) l.writer
    (nodes_of l.image.classes l.heap l.marks (drop l.k l.marks.objects))
