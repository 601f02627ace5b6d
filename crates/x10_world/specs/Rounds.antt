-- What rounds lead to.
use Rattle.std.specs.Prelude.{◌≡◌, ◌≢◌, ◌⊎◌, ℕ, ◌+◌, ◌<◌, ◌≤◌, List, [], Option, Some, None, Result, MatchResult, length, take, drop, true, slice_get}
use Rattle.slab.specs.Slab.{get, ContainsKey}
use Rattle.x10_kinds.specs.declared.stop.Stop.{Stop}
use Rattle.x10_model.specs.declared.event.Event.{Event}
use Rattle.x10_model.specs.declared.event.Event.TheVariants.{Step, Deliver}
use Rattle.x10_model.specs.Worlds.{World, Ideal, Run, WithinBounds, IsOver}
use Rattle.x10_place.specs.StandsFor.{PlaceState}
use Rattle.x10_world.specs.declared.rounds.Unfinished.{Unfinished}
use Rattle.x10_world.specs.declared.rounds.Unfinished.TheVariants as halt
use Rattle.x10_world.specs.declared.rounds.Phase.{Phase}
use Rattle.x10_world.specs.declared.rounds.Phase.TheVariants as phase
use Rattle.x10_flights.specs.Flights.{flies_to, IsNext}
use Rattle.x10_world.specs.Living.{keys_at}
use Rattle.x10_world.specs.Queries.{HasPlace, IsClosed}
use Rattle.x10_world.specs.Runs.{StopsAt, RunsThrough}
use Rattle.x10_world.specs.StandsForWorld.{WorldState, KeepsSetting, setting_of_world, StandsForWorld}

-- no activity lives in the world
pub record NoneIsLeft (x : WorldState) : Type 0 where
  pub over : (w : World) → StandsForWorld x w → IsOver w

-- From each world of the machine that the old state stands for, a run under some events leads to one that the new state
-- stands for: none goes wrong, and no activity takes more steps than its bound.
pub record RunsTo (x y : WorldState) : Type 0 where
  pub kept : KeepsSetting x y
  pub runs : (w : World) → StandsForWorld x w
      → (events : List Event) × (v : World)
      × Run Ideal (setting_of_world x) (WithinBounds x.bounds) w events v × StandsForWorld y v

-- ---- what there is

-- No activity is at any place, and no frame flies. So the run has ended, and place 0 knows it.
pub record IsEmptyWorld (x : WorldState) : Type 0 where
  pub nobody : (id : ℕ) (p : PlaceState) → slice_get x.places id ≡ Some p → (key : ℕ)
      → get p.stays key ≡ None
  pub flying : x.flights.flying ≡ []
  pub ended : NoneIsLeft x
  pub closed : IsClosed x.places

-- an activity with the key is at the place
abbrev pub IsPresent : WorldState → ℕ → ℕ → Type 0
IsPresent x id key = HasPlace x.places id (λ p. ContainsKey p.stays key)

-- an activity is at the place, or a frame is in flight to it
abbrev pub IsBusy : WorldState → ℕ → Type 0
IsBusy x id = ((key : ℕ) × IsPresent x id key)
    ⊎ ((number : ℕ) × (flies_to x.flights.flying id number ≡ true))

-- ---- the rounds

-- whose turn it is, and what is left of it: the keys of those that have still to make their step, by rising number; none
-- while the place takes in frames
pub record RoundsState : Type 0 where
  pub place : ℕ
  pub left : Option (List ℕ)

-- the keys that are left, of all those of the turn
abbrev pub keys_left : Phase → List ℕ → Option (List ℕ)
keys_left phase.TakesIn keys = None
keys_left (phase.Steps from) keys = Some (drop from keys)
keys_left phase.Over keys = Some []

-- Those that have still to make their step, in a turn: all that are in use, where no more frames are to be taken in.
abbrev pub AreLeft : WorldState → RoundsState → List ℕ → Type 0
AreLeft x t keys = (t.left ≡ Some keys) ⊎ ((t.left ≡ None)
    × (IsNext (flies_to x.flights.flying t.place) 0 None × (keys ≡ keys_at x.places t.place)))

-- no activity has one of these keys
abbrev pub AreGone : WorldState → ℕ → List ℕ → Type 0
AreGone x id keys = (at key : ℕ) → slice_get keys at ≡ Some key → IsPresent x id key → ⊥

-- The event is a step of the first of these activities that is there, and those behind it are left.
pub record NamesStep (x : WorldState) (id : ℕ) (keys : List ℕ) (event : Event)
    (new : RoundsState) : Type 0 where
  pub at : ℕ
  pub key : ℕ
  pub is_first : slice_get keys at ≡ Some key
  pub gone : AreGone x id (take at keys)
  pub there : IsPresent x id key
  pub event_is : event ≡ Step id key
  pub new_is : new ≡ record { place = id; left = Some (drop (at + 1) keys) }

-- The event is the next one of a turn, and what is left of it then: the delivery of the first frame in flight to the place,
-- while it takes in frames; where none is in flight to it, a step of its activities.
abbrev pub NamesNext : WorldState → RoundsState → Event → RoundsState → Type 0
NamesNext x t (Deliver number) new = (t.left ≡ None)
    × (IsNext (flies_to x.flights.flying t.place) 0 (Some number) × (new ≡ t))
NamesNext x t (Step id key) new = (keys : List ℕ)
    × (AreLeft x t keys × NamesStep x t.place keys (Step id key) new)

-- no frame is to be taken in, and no step is left
abbrev pub IsTurnOver : WorldState → RoundsState → Type 0
IsTurnOver x t = (keys : List ℕ) × (AreLeft x t keys × AreGone x t.place keys)

-- going up from a place, and from the first one on behind the last one, one comes by this place before another
abbrev pub IsPassedBefore : ℕ → ℕ → ℕ → Type 0
IsPassedBefore from to id = ((from < id) × ((to ≤ from) ⊎ (id < to))) ⊎ ((to ≤ from) × (id < to))

-- the next busy place so
pub record IsTurnAfter (x : WorldState) (from to : ℕ) : Type 0 where
  pub busy : IsBusy x to
  pub between : (id : ℕ) → IsPassedBefore from to id → IsBusy x id → ⊥

-- the turn goes on, or it is over and that of the next busy place begins
abbrev pub TurnsTo : WorldState → RoundsState → RoundsState → Type 0
TurnsTo x old new = (new ≡ old) ⊎ (IsTurnOver x old
    × (IsTurnAfter x old.place new.place × (new.left ≡ None)))

-- the event comes next in the rounds, and what is left of the turn then
abbrev pub IsNextEvent : WorldState → RoundsState → Event → RoundsState → Type 0
IsNextEvent x old event new = (t : RoundsState) × (TurnsTo x old t × NamesNext x t event new)

-- a step that is left, if there is one
abbrev pub IsStepOf : WorldState → ℕ → List ℕ → Option Event → RoundsState → Type 0
IsStepOf x id keys None new = AreGone x id keys × (new.place ≡ id)
IsStepOf x id keys (Some event) new = NamesStep x id keys event new

-- from a position on, the first of the keys that is in use is at this one
pub record IsFirstInUse (x : WorldState) (id : ℕ) (keys : List ℕ) (from at : ℕ) : Type 0 where
  pub within : at ≤ length keys
  pub gone : (i key : ℕ) → from ≤ i → i < at → slice_get keys i ≡ Some key → IsPresent x id key → ⊥
  pub there : (key : ℕ) → slice_get keys at ≡ Some key → (from ≤ at) × IsPresent x id key

-- ---- how many events were made

-- So many events, each from the state that the one before it left, are a run of the machine from each world that the old
-- state stands for.
pub record RunsIn (x : WorldState) (n : ℕ) (y : WorldState) : Type 0 where
  pub kept : KeepsSetting x y
  pub runs : (w : World) → StandsForWorld x w
      → (events : List Event) × (length events ≡ n) × RunsThrough x w events y

-- at most so many were made, and the next was refused
pub record IsHaltedIn (x : WorldState) (limit : ℕ) (y : WorldState) (why : Stop) : Type 0 where
  pub done : ℕ
  pub few : done ≤ limit
  pub state : WorldState
  pub runs : RunsIn x done state
  pub event : Event
  pub stops : StopsAt state event why y

-- Why no more events were made before they were as many as were allowed: one was refused, or memory for the lists was.
abbrev pub IsCut : WorldState → ℕ → WorldState → Unfinished → Type 0
IsCut x limit y (halt.Stop why) = IsHaltedIn x limit y why
IsCut x limit y halt.Limit = ⊥
IsCut x limit y halt.Memory = (n : ℕ) × (n ≤ limit) × RunsIn x n y × (y.stopped ≢ true)

-- the run has not ended, unless no event was allowed
abbrev pub IsOpenAt : ℕ → WorldState → Type 0
IsOpenAt limit y = 0 < limit → IsClosed y.places → ⊥

-- or they were as many, and the run has not ended
abbrev pub IsHalted : WorldState → ℕ → WorldState → Unfinished → Type 0
IsHalted x limit y halt.Limit = RunsIn x limit y × ((y.stopped ≢ true) × IsOpenAt limit y)
IsHalted x limit y why = IsCut x limit y why

-- at most so many events were made, and the world goes on
pub record HasMade (x : WorldState) (limit n : ℕ) (y : WorldState) : Type 0 where
  pub few : n ≤ limit
  pub runs : RunsIn x n y
  pub goes : y.stopped ≢ true

-- some events were made, or why no more
abbrev pub Advances : WorldState → ℕ → Result ℕ Unfinished → WorldState → Type 0
Advances x limit result y = MatchResult result (λ n. HasMade x limit n y) (IsCut x limit y)

-- the same; and none were made only where there is nothing
abbrev pub AdvancesOrEnds : WorldState → ℕ → Result ℕ Unfinished → WorldState → Type 0
AdvancesOrEnds x limit result y = MatchResult result
    (λ n. HasMade x limit n y × (n ≡ 0 → IsEmptyWorld y)) (IsCut x limit y)
