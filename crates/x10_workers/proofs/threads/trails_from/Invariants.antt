use Rattle.std.specs.Prelude.{◌≡◌, length, vec_items}
use Rattle.std.specs.Vec.Iter.{into_iter_items, into_iter_len}
use Rattle.x10_workers.proofs.KeptTurns.{MadeSoFar}
use Rattle.x10_workers.proofs.threads.trails_from.Given as goal

abbrev pub invariant-loop-kept : goal.invariant-loop-kept
invariant-loop-kept l = record {
  so_far : MadeSoFar l.verified l.places (vec_items l.fn.all) (vec_items l.trails) (into_iter_items l.kept-iterator);
  steps : into_iter_len l.kept-iterator ≡ length (into_iter_items l.kept-iterator);
}
