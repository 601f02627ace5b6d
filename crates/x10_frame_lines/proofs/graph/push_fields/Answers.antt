use Rattle.std.proofs.Common.{◌++◌, refl}
use Rattle.std.specs.String.{string_bytes}
use Rattle.x10_frame.specs.Items.{item_of}
use Rattle.x10_frame_lines.specs.Lines.{numbered, field_line}
use Rattle.x10_frame_lines.proofs.Numbered.{one_more}
use Rattle.x10_frame_lines.proofs.graph.push_fields.Goals as goal

pub loop-j-preserved : goal.loop-j-preserved
loop-j-preserved c = one_more (λ n xs. numbered (field_line c.args.i) n xs) (λ n x. field_line c.args.i n x) (λ n x xs. refl)
    (string_bytes c.args.text.now ++ numbered (field_line c.args.i) 0 c.args.object.now.fields)
    (string_bytes c.loop-j.text) (string_bytes c.push_field.new.text)
    c.args.object.now.fields c.loop-j.j (item_of c.field.result) c.loop-j.invariant c.field.ensures.value c.in_ok-push_field.ensures
