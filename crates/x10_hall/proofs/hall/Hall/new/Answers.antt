use Rattle.x10_hall.proofs.RowLogs.{fresh}
use Rattle.x10_hall.proofs.hall.Hall.new.Goals as goal

pub returns : goal.returns
returns c = fresh c.new.result.items c.in_ok-rows.rows.items c.args.places c.new.ensures c.in_ok-rows.ensures.count c.in_ok-rows.ensures.empty
