-- Which events of a run are shown.
use Rattle.std.specs.Prelude.{◌≡◌, ◌≤◌, ◌⊎◌, ◌+◌, ◌-◌, ℕ, Bool, true, false, Option, Some, None}
use Rattle.x10_task.specs.declared.task.Window.{Window}

-- a number of events isn't above the last one that is shown, if there is such a one
abbrev pub IsWithin : Option ℕ → ℕ → Type 0
IsWithin None n = Unit {0}
IsWithin (Some to) n = n ≤ to

-- so many events are all up to the last one that is shown
abbrev pub IsReached : Option ℕ → ℕ → Type 0
IsReached None n = ⊥
IsReached (Some to) n = to ≤ n

-- So many events were shown behind so many that weren't: those from the first one that a window has, and none behind its last one.
-- A run may end before the first one.
pub record IsWindow (w : Window) (before shown : ℕ) : Type 0 where
  pub few : before ≤ w.from - 1
  pub begins : (before ≡ w.from - 1) ⊎ (shown ≡ 0)
  pub within : IsWithin w.to (before + shown) ⊎ (shown ≡ 0)

-- how they end: where there are no more, or at the last one that a window has
abbrev pub Ends : (ended : Bool) → Window → ℕ → (none_is_left : Type 0) → Type 0
Ends true w n none_is_left = none_is_left
Ends false w n none_is_left = IsReached w.to n
