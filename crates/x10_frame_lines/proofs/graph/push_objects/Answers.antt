use Rattle.std.proofs.Common.{◌++◌, refl}
use Rattle.std.specs.String.{string_bytes}
use Rattle.x10_frame.specs.Heads.{graph_of}
use Rattle.x10_frame_lines.specs.Lines.{numbered, object_lines}
use Rattle.x10_frame_lines.proofs.Numbered.{one_more}
use Rattle.x10_frame_lines.proofs.graph.push_objects.Goals as goal

pub loop-i-preserved : goal.loop-i-preserved
loop-i-preserved c = one_more (λ n xs. numbered object_lines n xs) (λ n x. object_lines n x) (λ n x xs. refl)
    (string_bytes c.args.text.now ++ numbered object_lines 0 (graph_of c.args.frame.now).nodes)
    (string_bytes c.loop-i.text) (string_bytes c.push_object.new.text)
    (graph_of c.args.frame.now).nodes c.loop-i.i (c.node.result) c.loop-i.invariant c.node.ensures.value c.in_ok-push_object.ensures
