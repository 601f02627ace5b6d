use Rattle.std.proofs.Common.{◌≡◌, ◌++◌}
use Rattle.std.specs.Prelude.{slice_index}
use Rattle.std.specs.String.{string_bytes}
use Rattle.x10_place.specs.Stays.{finish_at}
use Rattle.x10_states.specs.Json.{elements}
use Rattle.x10_states.specs.Stays.{count_text}
use Rattle.x10_states.proofs.stays.push_each_finish.Given as goal

abbrev pub invariant-loop-i : goal.invariant-loop-i
invariant-loop-i l = string_bytes l.out ≡ string_bytes l.initial.out
    ++ elements l.i (λ i. count_text l.place (finish_at l.place.id (slice_index l.stay.finishes i)))
