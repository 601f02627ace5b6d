use Rattle.std.proofs.Common.{true, rules}
use Rattle.x10_verify.proofs.Tabled.{first_received}
use Rattle.x10_verify.proofs.states.Entry.receive_after.Goals as goal

pub returns-then-eq : goal.returns-then-eq
returns-then-eq c = (true, c.apply.new.self, c.narrow.ensures, c.apply.ensures, first_received c.args.self.now c.apply.new.self (search rules))
