use Rattle.x10_asm.proofs.Names.{is_named}
use Rattle.x10_asm.proofs.statement.named.Goals as goal

pub returns : goal.returns
returns c = is_named c.args.word.now c.op_named.result c.op_named.ensures.found c.op_named.ensures.only
