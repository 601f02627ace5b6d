use Rattle.std.proofs.Common.{rules, ◌≡◌}
use Rattle.std.specs.Vec.Iter.{into_iter_items, into_iter_len}
use Rattle.x10_workers.proofs.KeptTurns.{trails_of, none_left}
use Rattle.x10_workers.proofs.threads.gathered.Goals as goal

pub returns : goal.returns
returns c cert places are =
    let end : into_iter_len c.loop-end.end-iterator ≡ 0 = search rules in
    trails_of cert places c.args.ends.items (into_iter_items c.loop-end.end-iterator) c.loop-end.all.items c.loop-end.invariant.same
    (none_left (into_iter_items c.loop-end.end-iterator) (into_iter_len c.loop-end.end-iterator) c.loop-end.invariant.steps end) are
