-- What a drawing has counted.
use Rattle.std.specs.Prelude.{ℕ, ◌+◌, ◌-◌, ◌^◌, min}
use Rattle.x10_draw.specs.declared.counts.Counts.{Counts}
use Rattle.x10_world.specs.declared.done.Done.{Done}
use Rattle.x10_world.specs.declared.done.Done.TheVariants as done

-- one more, to 2^64 - 1 at most
abbrev pub one_more : ℕ → ℕ
one_more n = min (n + 1) (2 ^ 64 - 1)

-- the counts after an event
abbrev pub counted : Counts → Done → Counts
counted c done.Idle = record c { idle = one_more c.idle }
counted c (done.Moved function pc op first count) = record c { steps = one_more c.steps }
counted c (done.Taken to) = record c { taken = one_more c.taken }

-- no event yet
abbrev pub no_events : Counts
no_events = record { steps = 0; taken = 0; idle = 0 }
