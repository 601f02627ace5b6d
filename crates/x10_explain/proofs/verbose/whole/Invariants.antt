use Rattle.std.specs.Str.{IsUtf8}
use Rattle.std.specs.String.{string_bytes}
use Rattle.std.proofs.Common.{◌≡◌, List, ℕ, [], ◌++◌, length}
use Rattle.x10_asm.specs.Comments.{Tells}
use Rattle.x10_explain.proofs.verbose.whole.Given as goal

abbrev pub invariant-loop-line : goal.invariant-loop-line
invariant-loop-line l = record {
  utf8 : IsUtf8 l.rest;
  told : (done : List ℕ) × (l.plain ≡ done ++ l.rest) × Tells [] (string_bytes l.out) done;
}

abbrev pub decreases-loop-line : goal.decreases-loop-line
decreases-loop-line l = length l.rest
