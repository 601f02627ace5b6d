use Rattle.std.proofs.Common.{◌++◌, refl}
use Rattle.std.specs.String.{string_bytes}
use Rattle.x10_frame.specs.Heads.{graph_of}
use Rattle.x10_frame_lines.specs.Lines.{numbered, text_line}
use Rattle.x10_frame_lines.proofs.Numbered.{one_more}
use Rattle.x10_frame_lines.proofs.graph.push_texts.Goals as goal

pub loop-i-preserved : goal.loop-i-preserved
loop-i-preserved c = one_more (λ n xs. numbered text_line n xs) (λ n x. text_line n x) (λ n x xs. refl)
    (string_bytes c.args.text.now ++ numbered text_line 0 (graph_of c.args.frame.now).texts)
    (string_bytes c.loop-i.text) (string_bytes c.push_text.new.text)
    (graph_of c.args.frame.now).texts c.loop-i.i (c.text.result.now) c.loop-i.invariant c.text.ensures.value c.in_ok-push_text.ensures
