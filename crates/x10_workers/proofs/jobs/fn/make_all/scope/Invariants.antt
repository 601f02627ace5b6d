use Rattle.std.specs.Prelude.{◌≡◌, ℕ, ◌<◌, get_or, vec_items, vec_len}
use Rattle.x10_workers.proofs.jobs.fn.make_all.scope.Given as goal

abbrev pub invariant-loop-id : goal.invariant-loop-id
invariant-loop-id g l = (vec_len l.handles ≡ l.id) × ((k : ℕ) (d : _) → k < l.id
    → ((get_or (vec_items l.handles) k d).promise.id ≡ k) × ((get_or (vec_items l.handles) k d).promise.job.now ≡ l.job))
