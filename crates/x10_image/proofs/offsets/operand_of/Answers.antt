use Rattle.x10_image.proofs.Instructions.{operand_is}
use Rattle.x10_image.proofs.offsets.operand_of.Goals as goal

pub returns : goal.returns
returns c = λ i d. operand_is c.args.bytes.now i d
