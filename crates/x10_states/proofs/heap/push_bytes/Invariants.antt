use Rattle.std.proofs.Common.{◌≡◌, ◌++◌}
use Rattle.std.specs.Prelude.{decimal, slice_index}
use Rattle.std.specs.String.{string_bytes}
use Rattle.x10_states.specs.Json.{elements}
use Rattle.x10_states.proofs.heap.push_bytes.Given as goal

abbrev pub invariant-loop-i : goal.invariant-loop-i
invariant-loop-i l = string_bytes l.out ≡ string_bytes l.initial.out ++ elements l.i (λ i. decimal (slice_index l.bytes i))
