use Rattle.std.specs.Prelude.{◌≡◌, ℕ, ◌<◌, Some, slice_get}
use Rattle.x10_findings.specs.declared.findings.Finding.{Finding}
use Rattle.x10_findings.specs.Findings.{IsThis}
use Rattle.x10_findings.proofs.findings.Findings.position.Given as goal

abbrev pub invariant-loop-at : goal.invariant-loop-at
invariant-loop-at l = (k : ℕ) (f : Finding) → k < l.at → slice_get l.self.found k ≡ Some f → IsThis f l.output l.ended → ⊥
