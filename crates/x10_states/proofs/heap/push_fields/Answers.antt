use Rattle.std.specs.Prelude.{slice_index}
use Rattle.std.specs.String.{string_bytes}
use Rattle.x10_states.specs.Objects.{field_kind}
use Rattle.x10_states.specs.Values.{word_json}
use Rattle.x10_states.proofs.Elements.{one_more}
use Rattle.x10_states.proofs.heap.push_fields.Goals as goal

pub loop-i-preserved : goal.loop-i-preserved
loop-i-preserved c = one_more c.loop-i.i
    (λ i. word_json c.args.heap.now (field_kind c.args.image.now.classes c.args.class i) (slice_index c.args.fields.now i))
    (string_bytes c.args.out.now) (string_bytes c.loop-i.out) (string_bytes c.push_field.new.out) c.loop-i.invariant c.in_ok-push_field.ensures
