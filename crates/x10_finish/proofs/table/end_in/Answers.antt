use Rattle.std.proofs.Common.{◌-◌, IsSome, refl, sym, subst}
use Rattle.x10_finish.proofs.table.end_in.Goals as goal

pub returns : goal.returns
returns c = record {
  was = c.in-Some.count.now;
  was_there = sym c.in-Some.ensures.value;
  writes = ((c.get_mut.follows.holds (record c.in-Some.count.now { live = c.in-Some.count.now.live - 1 })).3 (subst IsSome c.in-Some.ensures.value refl)).0;
}
