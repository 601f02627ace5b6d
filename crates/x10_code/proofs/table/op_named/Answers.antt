use Rattle.x10_code.proofs.Operations.{op_named_found, op_named_only}
use Rattle.x10_code.proofs.table.op_named.Goals as goal

pub returns-clause-found : goal.returns-clause-found
returns-clause-found c = op_named_found c.args.name.now c.named.result c.named.ensures

pub returns-clause-only : goal.returns-clause-only
returns-clause-only c o named = op_named_only c.args.name.now c.named.result o c.named.ensures named
