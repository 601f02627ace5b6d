-- What is shown of the log of a run with threads.
use Rattle.std.specs.Prelude.{◌≡◌, ◌⊎◌, ℕ, ◌+◌, List, [], ◌∷◌, ◌++◌, length, Option, drop, map, slice_get, None, Some, Bool, false}
use Rattle.x10_kinds.specs.declared.stop.Stop.{Stop}
use Rattle.x10_model.specs.declared.event.Event.{Event}
use Rattle.x10_model.specs.declared.event.Event.TheVariants.{Step, Deliver}
use Rattle.x10_model.specs.Places as machine
use Rattle.x10_verify.specs.Certified.{Certified}
use Rattle.x10_hall.specs.declared.turn.Turn.{Turn}
use Rattle.x10_world.specs.Endings.{IsImageOf}
use Rattle.x10_world.specs.Opening.{IsOpenedWorld}
use Rattle.x10_world.specs.StandsForWorld.{WorldState}
use Rattle.x10_workers.specs.Audits.{IsRefusedAt}
use Rattle.x10_workers.specs.Plays.{IsPlayed, events_in}
use Rattle.x10_task.specs.declared.task.Verb.{Verb}
use Rattle.x10_task.specs.declared.task.Window.{Window}
use Rattle.x10_cli.specs.declared.fault.Fault.{Fault}
use Rattle.x10_cli.specs.declared.fault.Fault.TheVariants as fault
use Rattle.x10_cli.specs.Answers.{of_stop, status_of}
use Rattle.x10_cli.specs.Events.{RunsBy, ShowsWindow}
use Rattle.x10_cli.specs.Logs.{IsAuditDue, IsLogText}
use Rattle.x10_cli.specs.Telling.{SaysFault}
use Rattle.x10_cli.specs.Windows.{Ends}

-- the events of a turn that are left, where so many frames were taken in and so many steps made
abbrev pub left_of_turn : Turn → ℕ → ℕ → List Event
left_of_turn t taken steps = map Deliver (drop taken t.taken.items)
    ++ map (Step t.place) (drop steps t.keys)

-- none where there is no turn
abbrev pub left_at : Option Turn → ℕ → ℕ → List Event
left_at None taken steps = []
left_at (Some t) taken steps = left_of_turn t taken steps

-- the same of the turns from one on, where that much of it was made
abbrev pub left_of_turns : List Turn → ℕ → ℕ → ℕ → List Event
left_of_turns turns turn taken steps = left_at (slice_get turns turn) taken steps
    ++ events_in (drop (turn + 1) turns)

-- the text is the log of a run of the module that has ended, which these turns are
pub record IsLogOfRun (bytes text : List ℕ) (c : Certified) (places : ℕ)
    (turns : List Turn) : Type 0 where
  pub image : IsImageOf bytes c
  pub log : IsLogText bytes text places turns
  pub outputs : List (List machine.Line)
  pub plays : IsPlayed c places turns outputs

-- the text is the log of a run of the module that has ended, and something holds of all its events and a world of the module
-- at its beginning
pub record HoldsOfLog (bytes text : List ℕ) (P : WorldState → List Event → Type 0) : Type 0 where
  pub c : Certified
  pub places : ℕ
  pub turns : List Turn
  pub of_run : IsLogOfRun bytes text c places turns
  pub first : WorldState
  pub opened : IsOpenedWorld c places first
  pub holds : P first (events_in turns)

-- what a command shows of these events, from a state of a world on, was appended, as a window has them: up to the last one of all,
-- or of the window
pub record ShowsAll (v : Verb) (w : Window) (x : WorldState) (all : List Event)
    (old new : Option (List ℕ)) : Type 0 where
  pub skipped : List Event
  pub events : List Event
  pub rest : List Event
  pub split : skipped ++ (events ++ rest) ≡ all
  pub last : WorldState
  pub ended : Bool
  pub shows : ShowsWindow v w ended x skipped events last old new
  pub ends : Ends ended w (length skipped + length events) (rest ≡ [])

-- the same of the first of these events, and a page says that the run has stopped
pub record ShowsFirst (v : Verb) (w : Window) (x : WorldState) (all : List Event)
    (old new : Option (List ℕ)) : Type 0 where
  pub skipped : List Event
  pub events : List Event
  pub rest : List Event
  pub split : skipped ++ (events ++ rest) ≡ all
  pub last : WorldState
  pub shows : ShowsWindow v w false x skipped events last old new

-- the same of all events of a log, or of its first ones
abbrev pub HasShownLog : Verb → Window → (bytes text : List ℕ) → (old new : Option (List ℕ)) → Type 0
HasShownLog v w bytes text old new =
    HoldsOfLog bytes text (λ x events. ShowsAll v w x events old new)

abbrev pub HasShownSomeOfLog : Verb → Window → (bytes text : List ℕ) → (old new : Option (List ℕ))
    → Type 0
HasShownSomeOfLog v w bytes text old new =
    HoldsOfLog bytes text (λ x events. ShowsFirst v w x events old new)

-- an event was refused in a state of a world, and the fault tells why
abbrev pub IsStoppedAt : WorldState → Event → Fault → Type 0
IsStoppedAt x event f = (why : Stop) × (f ≡ of_stop why) × IsRefusedAt x event why

-- one of these events was refused, after those before it were made, and the fault tells why
pub record IsStoppedIn (x : WorldState) (events : List Event) (f : Fault) : Type 0 where
  pub made : List Event
  pub event : Event
  pub rest : List Event
  pub all : made ++ event ∷ rest ≡ events
  pub last : WorldState
  pub runs : RunsBy x made last
  pub stops : IsStoppedAt last event f

-- one of the log's events was refused all the same, as where memory is refused
abbrev pub IsStoppedAgain : (bytes text : List ℕ) → Fault → Type 0
IsStoppedAgain bytes text f = HoldsOfLog bytes text (λ first events. IsStoppedIn first events f)

-- the fault is the one that is due: that of an audit of the log, or why one of its events was refused when they were made again
abbrev pub IsShownDue : List ℕ → List ℕ → Fault → Type 0
IsShownDue bytes text (fault.StopLimit limit) = IsAuditDue bytes text (fault.StopLimit limit)
    ⊎ IsStoppedAgain bytes text (fault.StopLimit limit)
IsShownDue bytes text fault.StopMemory = IsAuditDue bytes text fault.StopMemory
    ⊎ IsStoppedAgain bytes text fault.StopMemory
IsShownDue bytes text f = IsAuditDue bytes text f

-- the line of a fault with this status that is due, and perhaps what explains it
abbrev pub TellsShown : Bool → List ℕ → List ℕ → ℕ → Option (List ℕ) → Option (List ℕ) → Type 0
TellsShown explain bytes text status old new = (f : Fault) × (status ≡ status_of f)
    × IsShownDue bytes text f × SaysFault explain f old new
