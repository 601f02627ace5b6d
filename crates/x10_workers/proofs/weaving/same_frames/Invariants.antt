use Rattle.std.specs.Prelude.{◌≡◌, map, take}
use Rattle.x10_hall.specs.Halls.{frame_of}
use Rattle.x10_workers.proofs.weaving.same_frames.Given as goal

abbrev pub invariant-loop-at : goal.invariant-loop-at
invariant-loop-at l = map frame_of (take l.at l.one) ≡ map frame_of (take l.at l.other)
