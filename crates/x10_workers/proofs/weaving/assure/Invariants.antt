use Rattle.std.specs.Prelude.{◌≡◌, ℕ, ◌<◌, Some, slice_get}
use Rattle.x10_verify.specs.Certified.{IsCertified}
use Rattle.x10_workers.specs.Trails.{IsTrail}
use Rattle.x10_workers.specs.declared.trail.Trail.{Trail}
use Rattle.x10_workers.proofs.weaving.assure.Given as goal

abbrev pub invariant-loop-at : goal.invariant-loop-at
invariant-loop-at l = (id : ℕ) (t : Trail) → id < l.at → slice_get l.trails id ≡ Some t → IsTrail t × IsCertified t.certified
