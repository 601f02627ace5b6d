use Rattle.std.proofs.Common.{◌≡◌, ◌++◌}
use Rattle.std.specs.Prelude.{decimal, slice_index}
use Rattle.std.specs.String.{string_bytes}
use Rattle.x10_states.specs.Json.{elements}
use Rattle.x10_states.proofs.stays.push_counts.Given as goal

abbrev pub invariant-loop-place : goal.invariant-loop-place
invariant-loop-place l = string_bytes l.out ≡ string_bytes l.initial.out ++ elements l.place (λ p. decimal (slice_index l.counts p))
