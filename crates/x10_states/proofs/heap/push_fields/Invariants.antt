use Rattle.std.proofs.Common.{◌≡◌, ◌++◌}
use Rattle.std.specs.Prelude.{slice_index}
use Rattle.std.specs.String.{string_bytes}
use Rattle.x10_states.specs.Json.{elements}
use Rattle.x10_states.specs.Objects.{field_kind}
use Rattle.x10_states.specs.Values.{word_json}
use Rattle.x10_states.proofs.heap.push_fields.Given as goal

abbrev pub invariant-loop-i : goal.invariant-loop-i
invariant-loop-i l = string_bytes l.out ≡ string_bytes l.initial.out
    ++ elements l.i (λ i. word_json l.heap (field_kind l.image.classes l.class i) (slice_index l.fields i))
