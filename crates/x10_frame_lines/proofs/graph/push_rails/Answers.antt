use Rattle.std.proofs.Common.{◌++◌, refl}
use Rattle.std.specs.String.{string_bytes}
use Rattle.x10_frame.specs.Heads.{graph_of}
use Rattle.x10_frame_lines.specs.Lines.{numbered, rail_line}
use Rattle.x10_frame_lines.proofs.Numbered.{one_more}
use Rattle.x10_frame_lines.proofs.graph.push_rails.Goals as goal

pub loop-i-preserved : goal.loop-i-preserved
loop-i-preserved c = one_more (λ n xs. numbered rail_line n xs) (λ n x. rail_line n x) (λ n x xs. refl)
    (string_bytes c.args.text.now ++ numbered rail_line 0 (graph_of c.args.frame.now).rails)
    (string_bytes c.loop-i.text) (string_bytes c.push_rail.new.text)
    (graph_of c.args.frame.now).rails c.loop-i.i (c.rail.result.now) c.loop-i.invariant c.rail.ensures.value c.in_ok-push_rail.ensures
