-- A world behind a handle, and what is done with it.
use Rattle.std.specs.Prelude.{◌≡◌, ◌≢◌, ◌↔◌, ℕ, List, ◌∷◌, [], Bool, true, false, Option, Some, None, Result, Err, IsSome, IsTrue, IfOk, IfErr, MatchOption}
use Rattle.x10_kinds.specs.declared.stop.Stop.{Stop}
use Rattle.x10_kinds.specs.declared.stop.Stop.TheVariants as stop
use Rattle.x10_model.specs.declared.event.Event.{Event}
use Rattle.x10_model.specs.Worlds as machine
use Rattle.x10_verify.specs.Certified.{Certified}
use Rattle.x10_place.specs.Opening.{IsNextKey}
use Rattle.x10_flights.specs.Flights.{flies_to, IsNext}
use Rattle.x10_world.specs.Opening.{IsForbidden, IsOpenedWorld}
use Rattle.x10_world.specs.Happenings.{CanHappen, Happened}
use Rattle.x10_world.specs.Queries.{HasNoKey, HasPlace, IsClosed}
use Rattle.x10_world.specs.Runs.{IsSameWorld, RunsThrough, StopsAt}
use Rattle.x10_world.specs.StandsForWorld.{WorldState, StandsForWorld, KeepsSetting}
use Rattle.x10_handles.specs.declared.handle.Handle.{Handle}
use Rattle.x10_handles.specs.declared.inside.Inside.{Inside}
use Rattle.x10_handles.specs.declared.inside.Inside.TheVariants as inside
use Rattle.x10_handles.specs.declared.unopened.Unopened.{Unopened}
use Rattle.x10_handles.specs.declared.unopened.Unopened.TheVariants as unopened
use Rattle.x10_handles.specs.Handles.{inside_of}
use Rattle.x10_handles.specs.Histories.{IsRun, IsRunOf, events_after}

-- ---- what is behind a handle

-- a call that asks a world found none behind the handle, and changed nothing
abbrev pub LacksWorld : Handle → Handle → Type 0
LacksWorld old new = ((x : WorldState) → inside_of old ≡ Some (inside.World x) → ⊥)
    × (inside_of new ≡ inside_of old)

-- a world is behind the handle before and after a call, and they are in a relation
abbrev pub WorksAsWorld : Handle → Handle → (WorldState → WorldState → Type 0) → Type 0
WorksAsWorld old new Acts = (x : WorldState) × (y : WorldState)
    × (inside_of old ≡ Some (inside.World x)) × (inside_of new ≡ Some (inside.World y)) × Acts x y

-- the same where the world stays as it is: what it shows is the end of a run from its opening
abbrev pub ShowsWorld : Handle → Handle → (WorldState → Type 0) → Type 0
ShowsWorld old new Has = (x : WorldState) × (inside_of old ≡ Some (inside.World x))
    × (inside_of new ≡ inside_of old) × IsRun x × Has x

-- what is behind a handle is no world, and stays
abbrev pub LacksWorldIn : Inside → Inside → Type 0
LacksWorldIn old new = ((x : WorldState) → old ≡ inside.World x → ⊥) × (new ≡ old)

-- what is behind a handle is a world before and after a call, and they are in a relation
abbrev pub AltersWorld : Inside → Inside → (WorldState → WorldState → Type 0) → Type 0
AltersWorld old new Acts = (x : WorldState) × (y : WorldState) × (old ≡ inside.World x)
    × (new ≡ inside.World y) × Acts x y

-- ---- what a world does

-- An event, as a world makes it (x10_world), and whether something moved. A run that led to the world before it leads to the
-- one after it with this event more, or with the same events where it was refused.
pub record IsMade (x : WorldState) (event : Event) (result : Result Bool Stop) (y : WorldState)
    : Type 0 where
  pub told : IfOk result (λ moved. Happened x.places x.flights event moved y.places y.flights)
  pub acts : IfOk result (λ moved. IsTrue moved ↔ CanHappen x event)
  pub idle : IfOk result (λ moved. moved ≡ false → IsSameWorld x y)
  pub all : IfOk result (λ moved. (w : machine.World) → StandsForWorld x w
      → RunsThrough x w (event ∷ []) y)
  pub stopped : x.stopped ≡ true → (result ≡ Err stop.Stopped) × (y ≡ x)
  pub goes : IfOk result (λ moved. y.stopped ≢ true)
  pub hindered : x.stopped ≢ true → IfErr result (λ why. StopsAt x event why y)
  pub left : IfErr result (λ why. (w : machine.World) → StandsForWorld x w → StandsForWorld y w)
  pub stop : IfErr result (λ why. y.stopped ≡ true)
  pub kept : KeepsSetting x y
  pub history : (c : Certified) (count : ℕ) (events : List Event) → IsRunOf c count events x
      → IsRunOf c count (events_after events event result) y

-- Whether the run has ended, as place 0 knows it: then no activity lives. Conversely, where none lives and no frame is in
-- flight, it has ended.
pub record IsEnded (x : WorldState) (result : Bool) : Type 0 where
  pub value : IsTrue result ↔ IsClosed x.places
  pub ended : (w : machine.World) → StandsForWorld x w → IsTrue result → machine.IsOver w
  pub over : (w : machine.World) → StandsForWorld x w → machine.IsOver w
      → x.flights.flying ≡ [] → IsTrue result

-- the least key in use at a place, from a number on, or none
abbrev pub IsFromAt : WorldState → (place from : ℕ) → Option ℕ → Type 0
IsFromAt x place from found = MatchOption found (HasNoKey x.places place from)
    (λ key. HasPlace x.places place (λ p. IsNextKey p.stays from key))

-- the least number of a frame in flight to a place, from a number on, or none
abbrev pub IsFrameFrom : WorldState → (place from : ℕ) → Option ℕ → Type 0
IsFrameFrom x place from found = IsNext (flies_to x.flights.flying place) from found

-- ---- a world is opened

-- why no world is opened, with a module and for a handle
abbrev pub IsWhyNoWorld : (m h : Option Inside) → (places : ℕ) → Unopened → Type 0
IsWhyNoWorld m h places unopened.InUse = IsSome h
IsWhyNoWorld m h places unopened.NoModule = (v : Certified) → m ≡ Some (inside.Module v) → ⊥
IsWhyNoWorld m h places unopened.Places = (v : Certified) × (m ≡ Some (inside.Module v))
    × IsForbidden v places
IsWhyNoWorld m h places unopened.Memory = Unit {0}

-- A call that opens a world of a module, in a handle that was closed. The module's handle is as it
-- was, and a handle that isn't opened too.
pub record OpensWorld (m m_after old new : Option Inside) (places : ℕ)
    (result : Result Unit Unopened) : Type 0 where
  pub opened : IfOk result (λ u. (v : Certified) × (m ≡ Some (inside.Module v))
      × (x : WorldState) × (new ≡ Some (inside.World x)) × IsOpenedWorld v places x
      × IsRunOf v places [] x)
  pub shut : IfOk result (λ u. old ≡ None)
  pub why : IfErr result (IsWhyNoWorld m old places)
  pub kept : IfErr result (λ e. new ≡ old)
  pub module_kept : m_after ≡ m
