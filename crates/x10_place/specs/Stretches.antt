-- Steps of one activity at a stretch.
use Rattle.std.specs.Prelude.{◌≡◌, ◌⊎◌, ℕ, ◌+◌, ◌<◌, ◌≤◌, Bool, true, false, ◌≢◌, ◌^◌, [], Option, None, Some, Result, Ok, Err, IfOk, IfErr, MatchResult, length}
use Rattle.slab.specs.Slab.{Slab, get}
use Rattle.x10_kinds.specs.declared.limit.Limit.{Limit}
use Rattle.x10_kinds.specs.declared.stop.Stop.{Stop}
use Rattle.x10_kinds.specs.declared.stop.Stop.TheVariants as stop
use Rattle.x10_code.specs.declared.op.Op.TheVariants as op
use Rattle.x10_code.specs.declared.instr.Instr.{Instr}
use Rattle.x10_model.specs.Modules.{Module}
use Rattle.x10_model.specs.Totals.{begins_one}
use Rattle.x10_verify.specs.Certified.{Certified}
use Rattle.x10_place.specs.declared.route.Route.TheVariants as route
use Rattle.x10_place.specs.declared.route.Local.{Local}
use Rattle.x10_place.specs.declared.place.Stepped.{Stepped}
use Rattle.x10_place.specs.declared.sent.Sent.{Sent}
use Rattle.x10_place.specs.declared.place.Stepped.TheVariants as stepped
use Rattle.x10_place.specs.declared.outcome.Deed.{Deed}
use Rattle.x10_place.specs.declared.outcome.Deed.TheVariants as deed
use Rattle.x10_place.specs.declared.outcome.Outcome.{Outcome}
use Rattle.x10_place.specs.declared.outcome.Outcome.TheVariants as outcome
use Rattle.x10_place.specs.Messages.{no_sent}
use Rattle.x10_place.specs.Frames.{Workspace, IsFetched, IsFetchedFor, Acts}
use Rattle.x10_place.specs.Stays.{StayState, StoreState, Location, IsPlaced, GoesNext, IsBegun, innermost_at, totals_in, books_in, changed_at}
use Rattle.x10_place.specs.Stays.{Recounts, Steps, Refuses}
use Rattle.x10_place.specs.StandsFor.{PlaceState, place_of, plain, Keeps, IsStanding, LeadsAll, IsIdleAt, IsOverfull, AreOutside}
use Rattle.x10_place.specs.WorkingStays.{IsWorking}
use Rattle.x10_place.specs.StandsFor.{IsHindered, OverfillsBegin, inside_at}
use Rattle.x10_place.specs.Routes.{route_of, op_made}

-- ---- of one call frame

-- a step of a call frame of a function, by an operation of that call frame alone
pub record IsLocalStep (program : Module) (function : ℕ) (v w : Workspace) : Type 0 where
  pub instr : Instr
  pub fetched : IsFetched program function v.pc (length v.words) instr
  pub local : Local
  pub route_is : route_of instr.op ≡ route.Local local
  pub acts : Acts local program v instr w

-- so many of them
pub data Locally (program : Module) (function : ℕ) (v : Workspace) : ℕ → Workspace → Type 0 where
  none : Locally program function v 0 v
  more : (n : ℕ) (w u : Workspace) → Locally program function v n w
      → IsLocalStep program function w u → Locally program function v (n + 1) u

-- ---- of a stay

-- a step of a stay that stands at an instruction, and what becomes of the stay
pub record IsStep (at : Location) (a : StayState) (s : StoreState) (o : Outcome) (b : StayState)
    (t : StoreState) : Type 0 where
  pub placed : IsPlaced at.program a
  pub instr : Instr
  pub fetched : IsFetchedFor at.program a.top instr
  pub steps : Steps (route_of instr.op) at a s instr o b t

-- so many steps, after each of which the stay goes on
pub data Stretch (at : Location) (a : StayState) (s : StoreState) : ℕ → StayState → StoreState
    → Type 0 where
  still : Stretch at a s 0 a s
  further : (n : ℕ) (b c : StayState) (t u : StoreState) → Stretch at a s n b t
      → IsStep at b t outcome.Goes c u → Stretch at a s (n + 1) c u

-- so many steps lead to a stay that can make further ones
pub record Stretched (at : Location) (a : StayState) (s : StoreState) (n : ℕ) (b : StayState)
    (t : StoreState) : Type 0 where
  pub stretch : Stretch at a s n b t
  pub working : IsWorking at t b

-- the stay stands at an instruction whose step is refused
pub record IsStopped (at : Location) (a : StayState) (s : StoreState) (why : Stop) : Type 0 where
  pub instr : Instr
  pub fetched : IsFetchedFor at.program a.top instr
  pub refuses : Refuses (route_of instr.op) a s instr why

-- so many steps, and why no more at once
abbrev pub Paused : Result Outcome Stop → Location → StayState → StoreState → ℕ → StayState
    → StoreState → Type 0
Paused (Ok outcome.Goes) at a s n b t = Stretch at a s n b t
Paused (Ok o) at a s n b t = Stretch at a s n b t × IsStep at b t o b t
Paused (Err why) at a s n b t = Stretch at a s n b t × IsStopped at b t why

-- ---- at a place

-- a step of the activity with a key, which puts something out, is a move of each place of the machine that the state
-- stands for
pub record IsStride (key : ℕ) (p : PlaceState) (sent : Sent) (q : PlaceState) : Type 0 where
  pub there : (a : StayState) × (get p.stays key ≡ Some a)
  pub leads : LeadsAll p key (stepped.Moved sent) q
  pub kept : Keeps p q
  pub stopped : q.stopped ≡ p.stopped

-- so many steps of the activity with a key, of which each moves and puts out nothing
pub data Strides (key : ℕ) (p : PlaceState) : ℕ → PlaceState → Type 0 where
  at_once : Strides key p 0 p
  onward : (n : ℕ) (q r : PlaceState) → Strides key p n q → IsStride key q no_sent r
      → Strides key p (n + 1) r

-- the same, but that the last one, if there is one, may put something out
pub data StridesTo (key : ℕ) (p : PlaceState) : ℕ → Sent → PlaceState → Type 0 where
  nowhere : StridesTo key p 0 no_sent p
  finally : (n : ℕ) (q : PlaceState) (sent : Sent) (r : PlaceState) → Strides key p n q
      → IsStride key q sent r → StridesTo key p (n + 1) sent r

-- an activity has begun, under the key that was the next one
pub record HasBegun (p q : PlaceState) : Type 0 where
  pub free : get p.stays p.stays.vacant_key ≡ None
  pub begun : (a : StayState) × (get q.stays p.stays.vacant_key ≡ Some a)

-- the last of so many steps began an activity
pub record BeginsLast (key : ℕ) (p : PlaceState) (n : ℕ) (q : PlaceState) : Type 0 where
  pub before : ℕ
  pub count : n ≡ before + 1
  pub last : PlaceState
  pub strides : Strides key p before last
  pub begins : HasBegun last q

-- the last of so many steps put something out
pub record SendsLast (key : ℕ) (p : PlaceState) (n : ℕ) (sent : Sent) (q : PlaceState) : Type 0 where
  pub before : ℕ
  pub count : n ≡ before + 1
  pub last : PlaceState
  pub strides : Strides key p before last
  pub stride : IsStride key last sent q
  pub some : sent ≢ no_sent

-- ---- as a place makes them

-- an activity begins by the instruction of the stay with a key: that stay goes on, and the new one has the key that was the next one
pub record BeginsAt (program : Module) (old : Slab StayState) (s : StoreState) (key : ℕ)
    (new : Slab StayState) (t : StoreState) : Type 0 where
  pub stay : StayState
  pub is_there : get old key ≡ Some stay
  pub instr : Instr
  pub fetched : IsFetchedFor program stay.top instr
  pub is_async : instr.op ≡ op.Async
  pub next : StayState
  pub goes : GoesNext stay.top next.top
  pub rest : next ≡ record stay { top = next.top }
  pub other : ℕ
  pub vacant : other ≡ old.vacant_key
  pub few : other < 2 ^ 32
  pub free : get old other ≡ None
  pub child : StayState
  pub begun : IsBegun program stay.top.registers.items instr (innermost_at s.here stay) child
  pub now_next : get new key ≡ Some next
  pub now_child : get new other ≡ Some child
  pub number : (innermost_at s.here stay).number < 2 ^ 32
  pub others : (k : ℕ) → (k ≡ key → ⊥) → (k ≡ other → ⊥) → get new k ≡ get old k
  pub store : Recounts s t s.opened (changed_at (totals_in s) (innermost_at s.here stay) begins_one)
      (books_in s)

-- nothing has changed, but that there may be more room
pub record IsUntouched (old : Slab StayState) (s : StoreState) (new : Slab StayState)
    (t : StoreState) : Type 0 where
  pub stays : plain new ≡ plain old
  pub store : t ≡ s

-- the same stays are inside atomic regions
abbrev pub SameInside : Slab StayState → Slab StayState → Type 0
SameInside old new = (key : ℕ) → inside_at new key ≡ inside_at old key

-- the key of a stay that is inside one
abbrev pub insider_of : Bool → ℕ → Option ℕ
insider_of false key = None
insider_of true key = Some key

-- why an activity doesn't begin
abbrev pub RefusesBegin : Certified → Slab StayState → StoreState → ℕ → Stop → Type 0
RefusesBegin verified stays s key why = (why ≡ stop.Memory)
    ⊎ ((limit : Limit) × (why ≡ stop.Limit limit) × (a : StayState) × (get stays key ≡ Some a)
    × OverfillsBegin (place_of verified stays s false) a limit)

-- What a step of the stay with a key does to the stays of a place and to what it keeps for them. Whether the place has
-- stopped is nothing to it.
pub record IsAdvanced (verified : Certified) (old : Slab StayState) (s : StoreState) (key : ℕ)
    (result : Result Stepped Stop) (new : Slab StayState)
    (t : StoreState) : Type 0 where
  pub idle : (stopped : Bool) → IsIdleAt (place_of verified old s stopped) key
      → (result ≡ Ok stepped.Idle) × IsUntouched old s new t
  pub only : (stopped : Bool) → result ≡ Ok stepped.Idle
      → IsIdleAt (place_of verified old s stopped) key
  pub some : (stopped : Bool) (a : StayState) → get old key ≡ Some a → a.away ≡ false
      → IfOk result (λ answer. LeadsAll (place_of verified old s stopped) key answer
      (place_of verified new t stopped))
  pub refused : (stopped : Bool) → IfErr result (IsHindered (place_of verified old s stopped) key)
  pub same : IfErr result (λ why. IsUntouched old s new t)
  pub full : (stopped : Bool) (limit : Limit)
      → IsOverfull (place_of verified old s stopped) key limit → result ≡ Err (stop.Limit limit)
  pub standing : IsStanding (place_of verified new t false)
  pub here : t.here ≡ s.here
  pub places : t.places ≡ s.places

-- a step was made that is for the place to make: each place of the machine that the state stands for makes it
pub record IsMade (verified : Certified) (old : Slab StayState) (s : StoreState) (key : ℕ)
    (sent : Sent) (new : Slab StayState) (t : StoreState) : Type 0 where
  pub leads : (stopped : Bool) → LeadsAll (place_of verified old s stopped) key (stepped.Moved sent)
      (place_of verified new t stopped)
  pub here : t.here ≡ s.here
  pub places : t.places ≡ s.places
  pub parts : (stopped : Bool) → (get new key ≡ None)
      ⊎ HasBegun (place_of verified old s stopped) (place_of verified new t stopped)
      ⊎ (sent ≢ no_sent)

-- the stay with the key is ready, and stands at an instruction that is for the place to make
pub record IsForPlace (verified : Certified) (old : Slab StayState) (s : StoreState) (key : ℕ)
    (made : Deed)
    (instr : Instr) : Type 0 where
  pub standing : IsStanding (place_of verified old s false)
  pub stay : StayState
  pub is_there : get old key ≡ Some stay
  pub ready : stay.away ≡ false
  pub outside : AreOutside old key
  pub fetched : IsFetchedFor verified.program stay.top instr
  pub op_is : instr.op ≡ op_made made
  pub last : made ≡ deed.Leave → stay.callers ≡ []

-- what up to so many steps do, of which the last may have put something out, or why there is no more
pub record IsRun (verified : Certified) (old : Slab StayState) (s : StoreState) (key most n : ℕ)
    (result : Result Sent Stop) (new : Slab StayState)
    (t : StoreState) : Type 0 where
  pub ran : (stopped : Bool) → MatchResult result
      (λ sent. StridesTo key (place_of verified old s stopped) n sent
      (place_of verified new t stopped))
      (λ why. Strides key (place_of verified old s stopped) n (place_of verified new t stopped))
  pub few : n ≤ most
  pub all : IfOk result (λ sent. n < most → (stopped : Bool)
      → IsIdleAt (place_of verified new t stopped) key ⊎ BeginsLast key
      (place_of verified old s stopped) n (place_of verified new t stopped) ⊎ (sent ≢ no_sent))
  pub refused : IfErr result (λ why. (stopped : Bool)
      → IsHindered (place_of verified new t stopped) key why)
  pub standing : IsStanding (place_of verified new t false)
  pub here : t.here ≡ s.here
  pub places : t.places ≡ s.places
