-- What is counted of whole runs.
use Rattle.std.specs.Prelude.{◌≡◌, ◌≢◌, ◌⊎◌, ⊤, ℕ, ◌≤◌, Bool, true, List, [], ◌∷◌, ◌++◌, Result, Ok, Err, length}
use Rattle.x10_kinds.specs.declared.stop.Stop.{Stop}
use Rattle.x10_model.specs.Worlds.{World}
use Rattle.x10_model.specs.declared.event.Event.{Event}
use Rattle.x10_verify.specs.Certified.{Certified}
use Rattle.x10_world.specs.Happenings.{CanHappen, HasDone, NothingCanHappen}
use Rattle.x10_world.specs.Rounds.{IsOpenAt}
use Rattle.x10_world.specs.Runs.{StopsAt}
use Rattle.x10_world.specs.StandsForWorld.{WorldState, StandsForWorld, MakesEvent}
use Rattle.x10_world.specs.declared.done.Done.{Done}
use Rattle.x10_world.specs.declared.rounds.Unfinished.{Unfinished}
use Rattle.x10_world.specs.declared.rounds.Unfinished.TheVariants as halt
use Rattle.x10_stats.specs.Paces.{pace_at_first, paced}
use Rattle.x10_stats.specs.Stats.{at_first, counted}
use Rattle.x10_stats.specs.Tallies.{IsSeenBefore, TallyState, ready, sight_of, tallied, tally_at_first}
use Rattle.x10_stats.specs.declared.pace.Pace.{Pace}
use Rattle.x10_stats.specs.declared.stats.Stats.{Stats}

-- what is counted of the events of a run, of its rounds, and of its activities
pub record CountsState : Type 0 where
  pub stats : Stats
  pub pace : Pace
  pub tally : TallyState

-- before the first event; each activity is kept, or none
abbrev pub counts_at_first : Certified → (kept : Bool) → WorldState → CountsState
counts_at_first c kept x = record {
  stats = at_first x;
  pace = pace_at_first;
  tally = tally_at_first c kept x;
}

-- with what an event did more, from the world before it to the one after it
abbrev pub counted_with : CountsState → WorldState → Event → Done → WorldState → CountsState
counted_with s x event did y = record {
  stats = counted s.stats y did;
  pace = paced s.pace (sight_of x event).place event;
  tally = tallied s.tally x event did y;
}

-- the same numbers, with room for the stay that an event may begin
abbrev pub prepared : CountsState → WorldState → Event → CountsState
prepared s x event = record s { tally = ready s.tally (sight_of x event) }

-- These events, one after another, from one state of a world to another, and what was counted before and after them: each is an
-- event of every world of the machine that the state before it stands for.
pub data Counted (s : CountsState) (x : WorldState) : List Event → CountsState → WorldState
    → Type 0 where
  begins : Counted s x [] s x
  goes_on : (y z : WorldState) (events : List Event) (t : CountsState) (event : Event) (did : Done)
      → Counted s x events t y → IsSeenBefore y event → HasDone y event did z
      → ((w : World) → StandsForWorld y w → MakesEvent y w event z)
      → Counted s x (events ++ event ∷ []) (counted_with t y event did z) z

-- an event could happen, or nothing could
abbrev pub IsDue : WorldState → Event → Type 0
IsDue x event = CanHappen x event ⊎ NothingCanHappen x

-- each of the events that were counted could happen in its state, or nothing could
abbrev pub EachIsDue : (s : CountsState) (x : WorldState) (events : List Event) (t : CountsState)
    (y : WorldState) → Counted s x events t y → Type 0
EachIsDue s x _ _ _ begins = Unit {0}
EachIsDue s x _ _ _ (goes_on y z events t event did before seen done makes) =
    IsDue y event × EachIsDue s x events t y before

-- at most so many events were made and counted, and the world goes on
pub record HasCounted (s : CountsState) (x : WorldState) (limit : ℕ) (t : CountsState)
    (y : WorldState) : Type 0 where
  pub events : List Event
  pub few : length events ≤ limit
  pub counts : Counted s x events t y
  pub goes : y.stopped ≢ true

-- the event behind those that were counted was refused
pub record IsStopped (s : CountsState) (x : WorldState) (limit : ℕ) (t : CountsState)
    (why : Stop) (y : WorldState) : Type 0 where
  pub state : WorldState
  pub counts : CountsState
  pub has : HasCounted s x limit counts state
  pub event : Event
  pub stops : StopsAt state event why y
  pub same : t ≡ prepared counts state event

-- Why no more were made: as many were as were allowed, and the run has not ended; memory was refused, for the lists or for what
-- is counted; or the next event was.
abbrev pub IsCut : CountsState → WorldState → ℕ → CountsState → WorldState → Unfinished → Type 0
IsCut s x limit t y halt.Limit = (h : HasCounted s x limit t y) × ((length h.events ≡ limit)
    × IsOpenAt limit y)
IsCut s x limit t y halt.Memory = HasCounted s x limit t y
IsCut s x limit t y (halt.Stop why) = IsStopped s x limit t why y

-- an event was not made: memory for what is counted was refused, or it was
abbrev pub IsUnmade : CountsState → WorldState → Event → CountsState → WorldState → Unfinished
    → Type 0
IsUnmade s x event t y halt.Limit = ⊥
IsUnmade s x event t y halt.Memory = (t ≡ s) × (y ≡ x)
IsUnmade s x event t y (halt.Stop why) = (t ≡ prepared s x event) × StopsAt x event why y

-- the events that were counted, of which each could happen, or nothing could
pub record HasCountedDue (s : CountsState) (x : WorldState) (limit : ℕ) (t : CountsState)
    (y : WorldState) : Type 0 where
  pub has : HasCounted s x limit t y
  pub due : EachIsDue s x has.events t y has.counts

-- the same, and the event behind them was refused
pub record IsStoppedDue (s : CountsState) (x : WorldState) (limit : ℕ) (t : CountsState)
    (why : Stop) (y : WorldState) : Type 0 where
  pub stopped : IsStopped s x limit t why y
  pub due : EachIsDue s x stopped.has.events stopped.counts stopped.state stopped.has.counts

-- what a run answers by a schedule that names only what can happen
abbrev pub CountsDue : CountsState → WorldState → ℕ → CountsState → Result ⊤ Unfinished → WorldState
    → Type 0
CountsDue s x limit t (Ok _) y = HasCountedDue s x limit t y
CountsDue s x limit t (Err halt.Limit) y = (h : HasCountedDue s x limit t y)
    × (length h.has.events ≡ limit)
CountsDue s x limit t (Err halt.Memory) y = HasCountedDue s x limit t y
CountsDue s x limit t (Err (halt.Stop why)) y = IsStoppedDue s x limit t why y
