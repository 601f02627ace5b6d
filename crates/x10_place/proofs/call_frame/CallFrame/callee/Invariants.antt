use Rattle.std.proofs.Common.{length}
use Rattle.x10_place.proofs.CalledFrames.{ArgumentsTo}
use Rattle.x10_place.proofs.call_frame.CallFrame.callee.Given as goal

-- as many registers as before, of which the first ones have the arguments so far
abbrev pub invariant-loop-i : goal.invariant-loop-i
invariant-loop-i l = ArgumentsTo l.words l.fn.instr (length l.initial.registers) l.registers l.i
