-- What is shown of a run's events, one after another.
use Rattle.std.specs.Prelude.{◌≡◌, ◌≢◌, Bool, false, ℕ, ◌+◌, List, [], ◌∷◌, ◌++◌, length, Option}
use Rattle.std.specs.Io.KnownBytes.{Appends}
use Rattle.x10_model.specs.declared.event.Event.{Event}
use Rattle.x10_model.specs.Modules.{Module}
use Rattle.x10_model.specs.Worlds.{World}
use Rattle.x10_verify.specs.Certified.{Certified}
use Rattle.x10_verify.specs.Flows.{FlowFacts}
use Rattle.x10_world.specs.declared.done.Done.{Done}
use Rattle.x10_world.specs.Happenings.{HasDone}
use Rattle.x10_world.specs.Opening.{IsOpenedWorld}
use Rattle.x10_world.specs.Rounds.{NoneIsLeft}
use Rattle.x10_world.specs.Runs.{Reaches}
use Rattle.x10_world.specs.StandsForWorld.{WorldState, KeepsSetting, MakesEvent, StandsForWorld}
use Rattle.x10_draw.specs.Pages.{IsPage}
use Rattle.x10_moments.specs.Moments.{AreShown, IsMoment, Shown, first_moment}
use Rattle.x10_moments.specs.Pages.{page_end, page_front}
use Rattle.x10_notes.specs.Notes.{AreNotes}
use Rattle.x10_states.specs.Kinds.{AreLeast}
use Rattle.x10_trace.specs.Trace.{trace_lines}
use Rattle.x10_task.specs.declared.task.Verb.{Verb}
use Rattle.x10_task.specs.declared.task.Verb.TheVariants as verb
use Rattle.x10_task.specs.declared.task.Window.{Window}
use Rattle.x10_cli.specs.Windows.{Ends, IsWindow}

-- these events lead on from one state of a world to another, and are a run from each world of the machine that the first one
-- stands for: none goes wrong, and no activity takes more steps than its bound
pub record RunsBy (x : WorldState) (events : List Event) (y : WorldState) : Type 0 where
  pub kept : KeepsSetting x y
  pub runs : (w : World) → StandsForWorld x w → Reaches x w events y

-- the same, one after another, with what each did: it is an event of every world of the machine that the state before it stands
-- for
pub data AreMade : WorldState → List Event → WorldState → Type 0 where
  none_made : (x : WorldState) → AreMade x [] x
  more_made : (x y z : WorldState) (events : List Event) (event : Event) (did : Done)
      → AreMade x events y → HasDone y event did z
      → ((w : World) → StandsForWorld y w → MakesEvent y w event z)
      → AreMade x (events ++ event ∷ []) z

-- these events were made, and none was shown
pub record Skips (x : WorldState) (events : List Event) (y : WorldState) : Type 0 where
  pub runs : RunsBy x events y
  pub made : AreMade x events y

-- ---- in which manner events are shown

-- by the lines of each, by these with notes, by a picture of all, or by the moments of a page of a module, of whose functions
-- something is known
pub data Manner : Type 0 where
  ByLines : Manner
  ByNotes : Manner
  ByPicture : Manner
  ByMoments : (program : Module) (kinds : List FlowFacts) → Manner

-- the lines of an event, and behind them one or more lines of notes
abbrev pub IsNoted : Event → Done → WorldState → List ℕ → Type 0
IsNoted event did z text = (notes : List ℕ) × AreNotes notes × (notes ≢ [])
    × (text ≡ trace_lines z event did ++ notes)

-- a comma, a line feed, and the moment after an event
abbrev pub IsNextMoment : Module → List FlowFacts → WorldState → Event → Done → WorldState
    → List ℕ → Type 0
IsNextMoment program kinds y event did z text = (moment : List ℕ)
    × IsMoment program kinds y event did z moment × (text ≡ 44 ∷ 10 ∷ moment)

-- what is told of an event that led from one state of a world to another; for a picture nothing yet
abbrev pub IsTold : Manner → WorldState → Event → Done → WorldState → List ℕ → Type 0
IsTold ByLines y event did z text = text ≡ trace_lines z event did
IsTold ByNotes y event did z text = IsNoted event did z text
IsTold ByPicture y event did z text = text ≡ []
IsTold (ByMoments program kinds) y event did z text =
    IsNextMoment program kinds y event did z text

-- These events, one after another, from one state of a world to another, and what is told of them: each is an event of every
-- world of the machine that the state before it stands for.
pub data AreTold (manner : Manner) : WorldState → List Event → List ℕ → WorldState → Type 0 where
  begins : (x : WorldState) → AreTold manner x [] [] x
  goes_on : (x y z : WorldState) (events : List Event) (text : List ℕ) (event : Event) (did : Done)
      (told : List ℕ) → AreTold manner x events text y → HasDone y event did z
      → ((w : World) → StandsForWorld y w → MakesEvent y w event z)
      → IsTold manner y event did z told
      → AreTold manner x (events ++ event ∷ []) (text ++ told) z

-- what stands before that, where so many events weren't shown: of a page how it begins, and what the places show before the first
-- event that is
abbrev pub IsFront : Manner → ℕ → WorldState → List ℕ → Type 0
IsFront (ByMoments program kinds) before x text = (shown : List Shown)
    × AreShown program kinds x.places shown
    × (text ≡ page_front program (length x.places) before x.flights ++ first_moment shown)
IsFront _ before x text = text ≡ []

-- what stands behind it: the picture, or how the page ends, which says whether the run has ended
abbrev pub IsEnd : Manner → Bool → List ℕ → Type 0
IsEnd ByPicture ended text = IsPage text
IsEnd (ByMoments program kinds) ended text = text ≡ page_end ended
IsEnd _ ended text = text ≡ []

-- what is shown of these events, behind so many others, from a state of a world on that they led to another
pub record IsShown (manner : Manner) (ended : Bool) (before : ℕ) (x : WorldState)
    (events : List Event) (y : WorldState) (text : List ℕ) : Type 0 where
  pub front : List ℕ
  pub told : List ℕ
  pub end : List ℕ
  pub begins : IsFront manner before x front
  pub tells : AreTold manner x events told y
  pub ends : IsEnd manner ended end
  pub text_is : text ≡ front ++ (told ++ end)

-- ---- which command shows what

-- the commands that show a run's events
abbrev pub IsShowing : Verb → Type 0
IsShowing verb.Trace = Unit {0}
IsShowing verb.TraceVerbose = Unit {0}
IsShowing verb.Draw = Unit {0}
IsShowing verb.DrawPage = Unit {0}
IsShowing _ = ⊥

-- the manner of a command that runs a module; a page goes by the least assignments of its functions
abbrev pub IsMannerOf : Verb → Module → Manner → Type 0
IsMannerOf verb.TraceVerbose program manner = manner ≡ ByNotes
IsMannerOf verb.Draw program manner = manner ≡ ByPicture
IsMannerOf verb.DrawPage program manner = (kinds : List FlowFacts) × AreLeast program kinds
    × (manner ≡ ByMoments program kinds)
IsMannerOf _ program manner = manner ≡ ByLines

-- these events led on from one state of a world to another, behind so many others, and what a command shows of them was appended;
-- a page says whether the run has ended
pub record Shows (v : Verb) (ended : Bool) (before : ℕ) (x : WorldState) (events : List Event)
    (y : WorldState) (old new : Option (List ℕ)) : Type 0 where
  pub manner : Manner
  pub is_manner : IsMannerOf v x.program manner
  pub runs : RunsBy x events y
  pub text : List ℕ
  pub shown : IsShown manner ended before x events y text
  pub printed : Appends old new text

-- ---- the events that a window has

-- some events were made and not shown, and what a command shows of those behind them was appended, as a window has them
pub record ShowsWindow (v : Verb) (w : Window) (ended : Bool) (x : WorldState)
    (skipped events : List Event) (y : WorldState) (old new : Option (List ℕ)) : Type 0 where
  pub start : WorldState
  pub skips : Skips x skipped start
  pub shows : Shows v ended (length skipped) start events y old new
  pub window : IsWindow w (length skipped) (length events)

-- the same of a run, up to its end, in which no activity lives, or to the last event that the window has
pub record ShowsRun (v : Verb) (w : Window) (x y : WorldState) (old new : Option (List ℕ))
    : Type 0 where
  pub skipped : List Event
  pub events : List Event
  pub ended : Bool
  pub shows : ShowsWindow v w ended x skipped events y old new
  pub ends : Ends ended w (length skipped + length events) (NoneIsLeft y)

-- the same of a run, as far as it went
pub record ShowsStopped (v : Verb) (w : Window) (x : WorldState) (old new : Option (List ℕ))
    : Type 0 where
  pub skipped : List Event
  pub events : List Event
  pub last : WorldState
  pub shows : ShowsWindow v w false x skipped events last old new

-- what a command shows of a run of the module, from its beginning
pub record HasShown (v : Verb) (w : Window) (c : Certified) (places : ℕ)
    (old new : Option (List ℕ)) : Type 0 where
  pub first : WorldState
  pub last : WorldState
  pub opened : IsOpenedWorld c places first
  pub shows : ShowsRun v w first last old new

pub record HasShownSome (v : Verb) (w : Window) (c : Certified) (places : ℕ)
    (old new : Option (List ℕ)) : Type 0 where
  pub first : WorldState
  pub opened : IsOpenedWorld c places first
  pub shows : ShowsStopped v w first old new
