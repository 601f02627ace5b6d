use Rattle.std.proofs.Common.{sym, ◌∙◌}
use Rattle.x10_image.proofs.Instructions.{op_known, instr_is}
use Rattle.x10_image.proofs.offsets.instr_of.Goals as goal

pub unwrap-requires : goal.unwrap-requires
unwrap-requires c = op_known c.args.bytes.now c.requires.known.0 c.op_with_code.result c.op_with_code.ensures.value c.requires.known.1

pub returns : goal.returns
returns c = instr_is c.args.bytes.now c.requires.known.0 c.unwrap.result c.read_u32.result
    (sym c.op_with_code.ensures.value ∙ c.unwrap.ensures) c.read_u32.ensures c.requires.known.1
