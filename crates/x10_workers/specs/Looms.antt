-- How far a log was found in the trails of its places, as it is held.
use Rattle.std.specs.Prelude.{Option, Some, None, map}
use Rattle.std.specs.Borrow.{Bor}
use Rattle.x10_hall.specs.declared.turn.Posted.{Posted}
use Rattle.x10_hall.specs.Halls.{PostedFrame, frame_of}
use Rattle.x10_workers.specs.declared.weaving.Loom.{Loom}
use Rattle.x10_workers.specs.Weaves.{Woven}

-- a frame that was posted, unless it was taken
abbrev pub flying_as : Option (Bor Posted) → Option PostedFrame
flying_as None = None
flying_as (Some f) = Some (frame_of f.now)

abbrev pub woven : Loom → Woven
woven l = record { cursors = l.cursors.items; flying = map flying_as l.flying.items }
