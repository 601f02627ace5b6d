use Rattle.std.proofs.Common.{length, sym, arith}
use Rattle.std.proofs.lemmas.Bool.{ltb-true}
use Rattle.x10_workers.proofs.threads.first_failed.Goals as goal

pub returns-then-ne : goal.returns-then-ne
returns-then-ne c =
    let found = c.in-Some-Err.ensures.lookup in
    omega (arith, ltb-true c.from.result (length c.args.ends.now) (sym found.0), c.from.ensures)
