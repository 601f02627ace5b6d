-- The schedule that a task asks for.
use Rattle.std.specs.Prelude.{ℕ, Option, unwrap_or}
use Rattle.x10_task.specs.declared.task.Schedule as asked
use Rattle.x10_task.specs.declared.task.Schedule.TheVariants as order
use Rattle.x10_schedule.specs.declared.schedule.Schedule.{Schedule}
use Rattle.x10_schedule.specs.declared.schedule.Schedule.TheVariants as schedule

-- a random one begins at 0 where no seed is given
abbrev pub scheduled : asked.Schedule → Option ℕ → Schedule
scheduled order.Rounds seed = schedule.Rounds
scheduled order.Random seed = schedule.Random (unwrap_or seed 0)
scheduled order.Oldest seed = schedule.Oldest
scheduled order.Newest seed = schedule.Newest
