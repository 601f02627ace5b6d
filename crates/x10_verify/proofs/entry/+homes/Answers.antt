use Rattle.std.proofs.Common.{arith}
use Rattle.x10_verify.proofs.Entries.{homes_flagged, homes_plain}
use Rattle.x10_verify.proofs.entry.+homes.Goals as goal

pub returns-then-parameter : goal.returns-then-parameter
returns-then-parameter t c = homes_flagged c.args.signature.now.parameters c.args.from c.parameter.result c.homes-homes.result c.join.new.self
    c.parameter.ensures.value c.if-parameter.true (omega arith) c.homes-homes.ensures c.join.ensures

pub returns-else-parameter : goal.returns-else-parameter
returns-else-parameter t c = homes_plain c.args.signature.now.parameters c.args.from c.parameter.result c.homes-homes.result c.parameter.ensures.value
    c.if-parameter.false c.homes-homes.ensures
