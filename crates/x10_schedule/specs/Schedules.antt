-- Which schedule a scheduler goes by, and what events a run by a schedule has.
use Rattle.std.specs.Prelude.{ℕ, ◌+◌, ◌-◌, ◌<◌, ◌≤◌, ⊤, Result, Ok, Err}
use Rattle.x10_kinds.specs.declared.stop.Stop.{Stop}
use Rattle.x10_model.specs.declared.event.Event.{Event}
use Rattle.x10_world.specs.declared.rounds.Unfinished.{Unfinished}
use Rattle.x10_world.specs.declared.rounds.Unfinished.TheVariants as halt
use Rattle.x10_world.specs.Happenings.{CanHappen, NothingCanHappen}
use Rattle.x10_world.specs.Rounds.{RunsIn}
use Rattle.x10_world.specs.Runs.{Follows, StopsAt}
use Rattle.x10_world.specs.StandsForWorld.{WorldState}
use Rattle.x10_schedule.specs.declared.schedule.Order.{Order}
use Rattle.x10_schedule.specs.declared.schedule.Order.TheVariants as order
use Rattle.x10_schedule.specs.declared.schedule.Schedule.{Schedule}
use Rattle.x10_schedule.specs.declared.schedule.Schedule.TheVariants as schedule

abbrev pub schedule_of : Order → Schedule
schedule_of (order.Rounds rounds) = schedule.Rounds
schedule_of (order.Random seed lot) = schedule.Random seed
schedule_of (order.Oldest turns) = schedule.Oldest
schedule_of (order.Newest turns) = schedule.Newest

-- So many events, each from the state that the one before it left, where it could happen.
pub data Acts (x : WorldState) : ℕ → WorldState → Type 0 where
  not_yet : Acts x 0 x
  acts : (n : ℕ) (y z : WorldState) (event : Event) → Acts x n y → CanHappen y event
      → Follows y event z → Acts x (n + 1) z

-- So many events: each could happen, or nothing could since some moment.
pub record ActsOrRests (x : WorldState) (n : ℕ) (y : WorldState) : Type 0 where
  pub acting : ℕ
  pub few : acting ≤ n
  pub middle : WorldState
  pub acts : Acts x acting middle
  pub rests : acting < n → NothingCanHappen middle
  pub runs : RunsIn middle (n - acting) y

-- the event after at most so many of them was refused
pub record HaltsActing (x : WorldState) (limit : ℕ) (y : WorldState) (why : Stop) : Type 0 where
  pub done : ℕ
  pub few : done ≤ limit
  pub state : WorldState
  pub acts : ActsOrRests x done state
  pub event : Event
  pub stops : StopsAt state event why y

-- such events, at most as many as are allowed, and why there are no more
abbrev pub ActsBy : WorldState → ℕ → Result ⊤ Unfinished → WorldState → Type 0
ActsBy x limit (Ok _) y = (n : ℕ) × (n ≤ limit) × ActsOrRests x n y
ActsBy x limit (Err halt.Limit) y = ActsOrRests x limit y
ActsBy x limit (Err halt.Memory) y = (n : ℕ) × (n ≤ limit) × ActsOrRests x n y
ActsBy x limit (Err (halt.Stop why)) y = HaltsActing x limit y why
