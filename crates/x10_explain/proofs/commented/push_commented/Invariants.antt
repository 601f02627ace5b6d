use Rattle.std.specs.Str.{IsUtf8}
use Rattle.std.specs.String.{string_bytes}
use Rattle.std.proofs.Common.{[], length}
use Rattle.x10_asm.specs.Comments.{Tells}
use Rattle.x10_explain.proofs.commented.push_commented.Given as goal

abbrev pub invariant-loop-line : goal.invariant-loop-line
invariant-loop-line l = record { utf8 : IsUtf8 l.rest; told : Tells (string_bytes l.initial.out) (string_bytes l.out) [] }

abbrev pub decreases-loop-line : goal.decreases-loop-line
decreases-loop-line l = length l.rest
