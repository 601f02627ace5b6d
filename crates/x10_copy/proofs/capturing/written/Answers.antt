use Rattle.x10_copy.specs.Graphs.{graph_of}
use Rattle.x10_copy.specs.Captured.{kinds_of}
use Rattle.x10_copy.proofs.Finished.{drafted}
use Rattle.x10_copy.proofs.capturing.written.Goals as goal
use Rattle.std.proofs.Common.{refl}

pub returns-clause-value : goal.returns-clause-value
returns-clause-value c =
    c.finish.ensures.spelled c.args.head.now (graph_of c.args.image.now.classes c.args.heap.now c.args.marks.now
    (kinds_of c.args.slots.now) c.args.words.now)
    c.requires.graph
    (drafted c.args.head.now c.args.image.now.classes c.args.heap.now c.args.marks.now (kinds_of c.args.slots.now) c.args.words.now _ _ _ _
    c.in_ok-writer.writer c.put_roots.new.writer c.put_texts.new.writer c.put_rails.new.writer c.put_objects.new.writer
    c.requires.words refl c.texts.ensures.value c.rails.ensures.value c.objects.ensures.value c.in_ok-writer.ensures.value c.in_ok-put_roots.ensures
    c.in_ok-put_texts.ensures.value c.in_ok-put_rails.ensures.value c.in_ok-put_objects.ensures)
