use Rattle.x10_place.specs.StandsFor.{PlaceState}
use Rattle.x10_workers.specs.Causes.{Halts}
use Rattle.x10_workers.specs.Halts.{halt_of_fault}
use Rattle.x10_workers.proofs.CauseLemmas.{post_halts, told_as}
use Rattle.x10_workers.proofs.worker.Worker.post.Goals as goal

pub returns-in_err-post-clause-halts : goal.returns-in_err-post-clause-halts
returns-in_err-post-clause-halts g c = told_as c.from_residual.result (halt_of_fault c.in_err-post.field-0.0) (λ why. (p : PlaceState) → Halts p why) c.from_residual.ensures.1
    (λ p. post_halts p c.in_err-post.field-0.0 c.in_err-post.ensures)
