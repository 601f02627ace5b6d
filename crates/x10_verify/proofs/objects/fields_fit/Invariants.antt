use Rattle.std.proofs.Common.{◌≡◌, ℕ, ◌<◌, ◌+◌, Some}
use Rattle.std.specs.Prelude.{slice_get}
use Rattle.x10_kinds.specs.declared.kind.Kind.{Kind}
use Rattle.x10_model.specs.Assignments.{IsKind}
use Rattle.x10_verify.specs.Known.{state_of}
use Rattle.x10_verify.proofs.objects.fields_fit.Given as goal

-- the fields so far fit
abbrev pub invariant-loop-n : goal.invariant-loop-n
invariant-loop-n l = (k : ℕ) (want : Kind) → k < l.n → slice_get l.fields k ≡ Some want → IsKind (state_of l.known) (l.first + k) want
