use Rattle.std.proofs.Common.{◌++◌, refl}
use Rattle.std.specs.String.{string_bytes}
use Rattle.x10_frame.specs.Heads.{graph_of}
use Rattle.x10_frame.specs.Items.{item_of}
use Rattle.x10_frame_lines.specs.Lines.{numbered, root_line}
use Rattle.x10_frame_lines.proofs.Numbered.{one_more}
use Rattle.x10_frame_lines.proofs.graph.push_roots.Goals as goal

pub loop-i-preserved : goal.loop-i-preserved
loop-i-preserved c = one_more (λ n xs. numbered root_line n xs) (λ n x. root_line n x) (λ n x xs. refl)
    (string_bytes c.args.text.now ++ numbered root_line 0 (graph_of c.args.frame.now).roots)
    (string_bytes c.loop-i.text) (string_bytes c.push_root.new.text)
    (graph_of c.args.frame.now).roots c.loop-i.i (item_of c.root.result) c.loop-i.invariant c.root.ensures.value c.in_ok-push_root.ensures
