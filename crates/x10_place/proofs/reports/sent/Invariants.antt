use Rattle.std.proofs.Common.{◌≡◌, take, length}
use Rattle.x10_frame.specs.Heads.{sent_of}
use Rattle.x10_place.proofs.reports.sent.Given as goal

-- the first numbers are the report's so far
abbrev pub invariant-loop-place : goal.invariant-loop-place
invariant-loop-place l = (length l.counts ≡ 64) × (take l.place l.counts ≡ take l.place (sent_of l.view))
