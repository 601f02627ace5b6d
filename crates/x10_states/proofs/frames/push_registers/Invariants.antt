use Rattle.std.proofs.Common.{◌≡◌, ◌++◌}
use Rattle.std.specs.Prelude.{slice_index}
use Rattle.std.specs.String.{string_bytes}
use Rattle.x10_states.specs.Frames.{register_text}
use Rattle.x10_states.specs.Json.{elements}
use Rattle.x10_states.specs.Kinds.{known_kind}
use Rattle.x10_states.proofs.frames.push_registers.Given as goal

abbrev pub invariant-loop-i : goal.invariant-loop-i
invariant-loop-i l = string_bytes l.out ≡ string_bytes l.initial.out
    ++ elements l.i (λ i. register_text l.heap (slice_index l.registers i)
    (known_kind l.kinds l.frame.function l.frame.pc (slice_index l.registers i))
    (slice_index l.frame.registers.items (slice_index l.registers i)))
