use Rattle.x10_place.proofs.Numbers.{sum_is, difference_is}
use Rattle.x10_place.proofs.call_frame.number.Goals as goal

pub returns-in-Sum : goal.returns-in-Sum
returns-in-Sum c = sum_is c.args.verified.now.program c.args.heap.now c.args.registers.now c.args.instr c.args.number c.int-in-Sum.result
    c.int-in-Sum-2.result (record { sfits = c.int-in-Sum.type_inv })
    (record { sfits = c.int-in-Sum-2.type_inv }) c.in-Sum.is c.int-in-Sum.ensures c.int-in-Sum-2.ensures

pub returns-in-Difference : goal.returns-in-Difference
returns-in-Difference c = difference_is c.args.verified.now.program c.args.heap.now c.args.registers.now c.args.instr c.args.number
    c.int-in-Difference.result c.int-in-Difference-2.result (record { sfits = c.int-in-Difference.type_inv })
    (record { sfits = c.int-in-Difference-2.type_inv }) c.in-Difference.is c.int-in-Difference.ensures c.int-in-Difference-2.ensures
