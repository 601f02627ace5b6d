use Rattle.std.proofs.Common.{arith}
use Rattle.x10_model.specs.Structure.{around}
use Rattle.x10_bounds.proofs.Spots.{has_room, next_in_loop, next_in_finish, next_in_atomic, next_outside, next_same}
use Rattle.x10_bounds.proofs.spot.after.Goals as goal

pub in_loop-requires : goal.in_loop-requires
in_loop-requires c = let room = has_room c.args.code.now c.args.pc c.spot_at-spot.result c.spot_at-spot.ensures in omega (arith, room.0)

pub in_finish-requires : goal.in_finish-requires
in_finish-requires c = let room = has_room c.args.code.now c.args.pc c.spot_at-spot.result c.spot_at-spot.ensures in omega (arith, room.1.0)

pub in_atomic-requires : goal.in_atomic-requires
in_atomic-requires c = let room = has_room c.args.code.now c.args.pc c.spot_at-spot.result c.spot_at-spot.ensures in omega (arith, room.1.1)

pub returns-in-Loop : goal.returns-in-Loop
returns-in-Loop c = next_in_loop c.args.code.now c.args.pc c.instr_at-instr.result c.classify.result c.in_loop.result c.instr_at-instr.ensures
    c.classify.ensures c.in-Loop.is (c.in_loop.ensures (around c.args.code.now c.args.pc) c.spot_at-spot.ensures)

pub returns-in-Finish : goal.returns-in-Finish
returns-in-Finish c = next_in_finish c.args.code.now c.args.pc c.instr_at-instr.result c.classify.result c.in_finish.result c.instr_at-instr.ensures
    c.classify.ensures c.in-Finish.is (c.in_finish.ensures (around c.args.code.now c.args.pc) c.spot_at-spot.ensures)

pub returns-in-Atomic : goal.returns-in-Atomic
returns-in-Atomic c = next_in_atomic c.args.code.now c.args.pc c.instr_at-instr.result c.classify.result c.in_atomic.result c.instr_at-instr.ensures
    c.classify.ensures c.in-Atomic.is (c.in_atomic.ensures (around c.args.code.now c.args.pc) c.spot_at-spot.ensures)

pub returns-in-EndOfLoop : goal.returns-in-EndOfLoop
returns-in-EndOfLoop c = next_outside c.args.code.now c.args.pc c.instr_at-instr.result c.classify.result c.outside.result c.instr_at-instr.ensures
    c.classify.ensures c.in-EndOfLoop.is c.outside.ensures

pub returns-in_default : goal.returns-in_default
returns-in_default c = next_same c.args.code.now c.args.pc c.instr_at-instr.result c.classify.result c.spot_at-spot.result c.instr_at-instr.ensures
    c.classify.ensures (record {
      no_loop = c.in_default.not-Loop;
      no_end_of_loop = c.in_default.not-EndOfLoop;
      no_finish = c.in_default.not-Finish;
      no_end_of_finish = c.in_default.not-EndOfFinish;
      no_atomic = c.in_default.not-Atomic;
      no_end_of_atomic = c.in_default.not-EndOfAtomic;
    })
    c.spot_at-spot.ensures
