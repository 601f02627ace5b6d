-- The events that a world behind a handle has made since it was opened.
use Rattle.std.specs.Prelude.{◌≡◌, ◌⊎◌, ℕ, List, [], ◌∷◌, ◌++◌, Bool, Result, Ok, Err}
use Rattle.x10_kinds.specs.declared.stop.Stop.{Stop}
use Rattle.x10_model.specs.declared.event.Event.{Event}
use Rattle.x10_model.specs.Worlds.{opening}
use Rattle.x10_verify.specs.Certified.{Certified, IsCertified}
use Rattle.x10_world.specs.Endings.{AreLinesOf, lines_at}
use Rattle.x10_world.specs.Opening.{IsForbidden, IsOpenedWorld}
use Rattle.x10_world.specs.Runs.{RunsThrough, StopsAt}
use Rattle.x10_world.specs.StandsForWorld.{WorldState, KeepsSetting, StandsForWorld, setting_of_world}

-- a world is as its last event left it, or one more was refused, and it has stopped
abbrev pub IsLeft : WorldState → WorldState → Type 0
IsLeft final x = (x ≡ final) ⊎ ((event : Event) × (why : Stop) × StopsAt final event why x)

-- A world of a verified module, opened at so many places, has made these events, one after another: they are a run of the
-- machine from its opening (`RunsThrough`), and the world stands for the machine's world at the end of that run and has its
-- lines. After a refused event it stands for the same.
pub record IsRunOf (c : Certified) (count : ℕ) (events : List Event)
    (x : WorldState) : Type 0 where
  pub certified : IsCertified c
  pub permitted : IsForbidden c count → ⊥
  pub first : WorldState
  pub opened : IsOpenedWorld c count first
  pub final : WorldState
  pub runs : RunsThrough first (opening (setting_of_world first) 0) events final
  pub left : IsLeft final x
  pub kept : KeepsSetting first x
  pub stands : StandsForWorld x runs.last
  pub lines : AreLinesOf (lines_at x.places) runs.last

-- a world has made some events since it was opened
abbrev pub IsRun : WorldState → Type 0
IsRun x = (c : Certified) × (count : ℕ) × (events : List Event) × IsRunOf c count events x

-- the events with one more, if it was made
abbrev pub events_after : List Event → Event → Result Bool Stop → List Event
events_after events event (Ok moved) = events ++ event ∷ []
events_after events event (Err why) = events
