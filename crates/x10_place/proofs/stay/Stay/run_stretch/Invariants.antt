use Rattle.std.proofs.Common.{◌-◌, ◌≤◌}
use Rattle.x10_place.specs.Stays.{location}
use Rattle.x10_place.specs.WorkingStays.{IsWorking}
use Rattle.x10_place.specs.Stretches.{Stretch}
use Rattle.x10_place.proofs.stay.Stay.run_stretch.Given as goal

-- so many steps were made, and the stay can make further ones
abbrev pub invariant-loop-instr : goal.invariant-loop-instr
invariant-loop-instr l = IsWorking (location l.verified.program l.locality) l.store l.self
    × Stretch (location l.verified.program l.locality) l.fn.self l.fn.store (l.most - l.left) l.self l.store × (l.left ≤ l.most)

abbrev pub decreases-loop-instr : goal.decreases-loop-instr
decreases-loop-instr l = l.left
