use Rattle.x10_kinds.specs.Equations.{equations}
use Rattle.x10_kinds.proofs.Terms.{parted-terms}
use Rattle.x10_kinds.proofs.homes.Homes.leave.Goals as goal

pub returns : goal.returns
unfolding equations
returns c = parted-terms c.args.self.now.labels c.leave.new.labels c.args.reg c.index.result c.requires c.index.ensures.index c.leave.ensures.left
