use Rattle.std.proofs.Common.{◌≡◌, ℕ, ◌<◌, ◌≤◌, length}
use Rattle.x10_image.specs.Parts.{code_at}
use Rattle.x10_verify.proofs.whole.longest.Given as goal

abbrev pub invariant-loop-function : goal.invariant-loop-function
invariant-loop-function l = record {
  each : (g : ℕ) → g < l.function → length (code_at l.image g) ≤ l.longest;
  one : (g : ℕ) × (length (code_at l.image g) ≡ l.longest);
}
