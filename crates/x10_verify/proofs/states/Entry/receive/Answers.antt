use Rattle.std.proofs.Common.{rules}
use Rattle.x10_verify.proofs.Tabled.{first_received}
use Rattle.x10_verify.proofs.states.Entry.receive.Goals as goal

pub returns-then-eq : goal.returns-then-eq
returns-then-eq c = first_received c.args.self.now c.args.known.now (search rules)
