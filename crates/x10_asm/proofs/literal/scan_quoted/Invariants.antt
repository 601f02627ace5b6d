use Rattle.std.proofs.Common.{drop}
use Rattle.x10_asm.proofs.QuotedBytes.{IsScanned}
use Rattle.x10_asm.proofs.literal.scan_quoted.Given as goal

abbrev pub invariant-loop-at : goal.invariant-loop-at
invariant-loop-at l = IsScanned l.text.items l.after_backslash (drop l.at l.quoted) l.quoted
