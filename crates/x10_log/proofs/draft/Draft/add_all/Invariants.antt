use Rattle.std.proofs.Common.{length}
use Rattle.x10_log.specs.Reading.{tail_bytes, draft_value}
use Rattle.x10_log.proofs.Words.{IsLeading}
use Rattle.x10_log.proofs.draft.Draft.add_all.Given as goal

abbrev pub invariant-loop-rest : goal.invariant-loop-rest
invariant-loop-rest l = IsLeading (draft_value l.initial.self) (draft_value l.self) (tail_bytes l.text) (tail_bytes l.rest)

abbrev pub decreases-loop-rest : goal.decreases-loop-rest
decreases-loop-rest l = length (tail_bytes l.rest)
