-- What is shown while events are made.
use Rattle.std.specs.Prelude.{◌≡◌, Bool, ℕ, ◌+◌, List, [], ◌++◌, length, Option}
use Rattle.std.specs.Io.KnownBytes.{Appends}
use Rattle.x10_model.specs.declared.event.Event.{Event}
use Rattle.x10_world.specs.declared.done.Done.{Done}
use Rattle.x10_world.specs.Happenings.{HasDone}
use Rattle.x10_world.specs.Rounds.{NoneIsLeft}
use Rattle.x10_world.specs.StandsForWorld.{WorldState}
use Rattle.x10_moments.specs.Moments.{AreShown}
use Rattle.x10_cli.specs.declared.show.Show.{Show}
use Rattle.x10_cli.specs.declared.show.Show.TheVariants as show
use Rattle.x10_task.specs.declared.task.Window.{Window}
use Rattle.x10_cli.specs.Windows.{Ends, IsWindow}
use Rattle.x10_cli.specs.Events.{AreTold, ByLines, ByMoments, ByNotes, ByPicture, IsEnd, IsFront, IsTold, Manner, RunsBy}

-- the manner of what shows them
abbrev pub manner_of : Show → Manner
manner_of show.Lines = ByLines
manner_of (show.Noted notes) = ByNotes
manner_of (show.Picture drawing) = ByPicture
manner_of (show.Page recorder) = ByMoments recorder.program recorder.kinds

-- of a page, what is kept is what the places show now
abbrev pub Follows : Show → WorldState → Type 0
Follows (show.Page recorder) x = AreShown recorder.program recorder.kinds x.places recorder.places
Follows _ x = Unit {0}

-- what is told of events that led on from one state of a world to another was appended
pub record Tells (manner : Manner) (x : WorldState) (events : List Event) (y : WorldState)
    (old new : Option (List ℕ)) : Type 0 where
  pub runs : RunsBy x events y
  pub text : List ℕ
  pub tells : AreTold manner x events text y
  pub printed : Appends old new text

-- that of an event
pub record TellsEvent (manner : Manner) (y : WorldState) (event : Event) (z : WorldState)
    (old new : Option (List ℕ)) : Type 0 where
  pub did : Done
  pub has_done : HasDone y event did z
  pub text : List ℕ
  pub is_told : IsTold manner y event did z text
  pub printed : Appends old new text

-- how what is shown begins was appended
abbrev pub AppendsFront : Manner → ℕ → WorldState → Option (List ℕ) → Option (List ℕ) → Type 0
AppendsFront manner before x old new = (front : List ℕ) × IsFront manner before x front
    × Appends old new front

-- how it ends was appended
abbrev pub AppendsEnd : Manner → Bool → Option (List ℕ) → Option (List ℕ) → Type 0
AppendsEnd manner ended old new = (end : List ℕ) × IsEnd manner ended end × Appends old new end

-- ---- the events that a window has, behind so many that aren't shown

-- those of a run were told, up to its end or to the last one that the window has
pub record TellsRun (manner : Manner) (w : Window) (before : ℕ) (x y : WorldState)
    (old new : Option (List ℕ)) (ended : Bool) : Type 0 where
  pub events : List Event
  pub tells : Tells manner x events y old new
  pub window : IsWindow w before (length events)
  pub ends : Ends ended w (before + length events) (NoneIsLeft y)

-- those of a run, as far as it went
pub record TellsStopped (manner : Manner) (w : Window) (before : ℕ) (x : WorldState)
    (old new : Option (List ℕ)) : Type 0 where
  pub events : List Event
  pub last : WorldState
  pub tells : Tells manner x events last old new
  pub window : IsWindow w before (length events)

-- those of these events, which are left of a log
pub record TellsLog (manner : Manner) (w : Window) (before : ℕ) (x y : WorldState)
    (all : List Event) (old new : Option (List ℕ)) (ended : Bool) : Type 0 where
  pub events : List Event
  pub rest : List Event
  pub split : events ++ rest ≡ all
  pub tells : Tells manner x events y old new
  pub window : IsWindow w before (length events)
  pub ends : Ends ended w (before + length events) (rest ≡ [])

-- those of these events, as far as they were made
pub record TellsLogStopped (manner : Manner) (w : Window) (before : ℕ) (x : WorldState)
    (all : List Event) (old new : Option (List ℕ)) : Type 0 where
  pub events : List Event
  pub rest : List Event
  pub last : WorldState
  pub split : events ++ rest ≡ all
  pub tells : Tells manner x events last old new
  pub window : IsWindow w before (length events)
