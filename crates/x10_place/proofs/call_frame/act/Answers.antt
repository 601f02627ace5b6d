use Rattle.std.proofs.Common.{◌≡◌, ℕ, ◌+◌, Bool, true, false, Option, Some, None, ap, ◌∙◌}
use Rattle.std.specs.Prelude.{slice_index, if◌then◌else◌}
use Rattle.std.specs.Int.{w64, cast_signed, cast_unsigned}
use Rattle.std.proofs.lemmas.Int.{to_z-of_z}
use Rattle.x10_place.specs.Frames.{landing}
use Rattle.x10_place.proofs.HeapCalls.{byte_tried, opens}
use Rattle.x10_place.proofs.call_frame.act.Goals as goal

-- where it goes on, by whether it doesn't jump
lands : (pc x : ℕ) (b : Bool) (jump : Option ℕ) → jump ≡ (if b then None else Some x) → landing pc jump ≡ (if b then pc + 1 else x)
lands pc x true jump e = ap (landing pc) e
lands pc x false jump e = ap (landing pc) e

pub returns-in-SetByte : goal.returns-in-SetByte
returns-in-SetByte c = λ pc. byte_tried c.args.verified.now.program c.args.local c.in-SetByte.is c.args.registers.now c.args.heap.now
    c.set_rail_byte.new.heap c.args.instr c.requires.reads (slice_index c.args.registers.now c.from-a.result)
    (cast_signed w64 (cast_unsigned w64 c.int-index.result)) (cast_signed w64 (cast_unsigned w64 c.int-number.result))
    (ap (slice_index c.args.registers.now) c.from-a.ensures)
    (to_z-of_z w64 c.int-index.result (record { sfits = c.int-index.type_inv }) ∙ c.int-index.ensures)
    (to_z-of_z w64 c.int-number.result (record { sfits = c.int-number.type_inv }) ∙ c.int-number.ensures)
    pc (landing pc c.jump_unless.result) c.args.loops.now c.set_rail_byte.result
    (lands pc c.args.instr.x c.set_rail_byte.result c.jump_unless.result c.jump_unless.ensures) c.set_rail_byte.ensures.some c.set_rail_byte.ensures.none

pub returns-in-Open : goal.returns-in-Open
returns-in-Open c = λ pc. opens c.args.verified.now.program c.args.local pc (landing pc c.write-in-Open.result) c.args.registers.now
    c.write-in-Open.new.registers c.args.loops.now c.args.heap.now c.args.instr (slice_index c.args.registers.now c.from-b.result)
    c.object_of.result c.in-Open.is c.requires.reads (ap (slice_index c.args.registers.now) c.from-b.ensures) (ap (landing pc) c.write-in-Open.ensures.next)
    c.write-in-Open.ensures.written c.object_of.ensures
