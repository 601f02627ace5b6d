use Rattle.std.specs.Prelude.{◌≡◌, ◌++◌, length, map, Ok, vec_items}
use Rattle.std.specs.Vec.Iter.{into_iter_items, into_iter_len}
use Rattle.x10_workers.proofs.threads.gathered.Given as goal

abbrev pub invariant-loop-end : goal.invariant-loop-end
invariant-loop-end l = record {
  same : vec_items l.fn.ends ≡ map (λ t. Ok t) (vec_items l.all) ++ into_iter_items l.end-iterator;
  steps : into_iter_len l.end-iterator ≡ length (into_iter_items l.end-iterator);
}
