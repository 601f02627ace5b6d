use Rattle.std.proofs.Common.{◌≡◌, ◌++◌, drop, map}
use Rattle.x10_hall.specs.Halls.{frame_of}
use Rattle.x10_hall.proofs.row.share.Given as goal

abbrev pub invariant-loop-frame : goal.invariant-loop-frame
invariant-loop-frame l = map frame_of l.copies.items ++ map frame_of (drop l.frame-index l.frames) ≡ map frame_of l.frames
