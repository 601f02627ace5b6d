use Rattle.std.proofs.Common.{◌-◌, ◌≤◌, length}
use Rattle.x10_place.specs.Frames.{workspace, space_of, with_space, IsWithin}
use Rattle.x10_place.specs.WorkingStays.{IsTypedFrame}
use Rattle.x10_place.specs.Stretches.{Locally}
use Rattle.x10_place.proofs.call_frame.CallFrame.run_instructions.Given as goal

-- all operations but those that are left were made, the call frame stands at an instruction, and its words have their kinds
abbrev pub invariant-loop-left : goal.invariant-loop-left
invariant-loop-left l =
    IsWithin l.verified.program l.fn.self.function l.pc (length l.registers)
    × IsTypedFrame l.verified.program l.heap (with_space l.fn.self (workspace l.pc l.registers l.loops l.heap))
    × Locally l.verified.program l.fn.self.function (space_of l.fn.self l.fn.heap) (l.most - l.left) (workspace l.pc l.registers l.loops l.heap)
    × (l.left ≤ l.most)

abbrev pub decreases-loop-left : goal.decreases-loop-left
decreases-loop-left l = l.left
