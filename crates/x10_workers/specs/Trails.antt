-- What a place keeps of what it did: turns that lead from its beginning to where it is.
use Rattle.std.specs.Prelude.{◌≡◌, ◌≢◌, ◌↔◌, ◌≤◌, ℕ, Bool, List, [], ◌∷◌, ◌++◌, Option, Some, None, IsTrue, true, length, map, drop}
use Rattle.x10_verify.specs.Certified.{Certified}
use Rattle.x10_place.specs.declared.line.Line as place_line
use Rattle.x10_place.specs.declared.place.Stepped.{Stepped}
use Rattle.x10_place.specs.declared.place.Stepped.TheVariants as stepped
use Rattle.x10_place.specs.declared.sent.Outgoing.{Outgoing}
use Rattle.x10_place.specs.declared.sent.Sent.{Sent}
use Rattle.x10_place.specs.Receiving.{IsTaken}
use Rattle.x10_place.specs.StandsFor.{PlaceState, store_of, line_as, Keeps}
use Rattle.x10_place.specs.Stays.{IsDoneHere}
use Rattle.x10_place.specs.Stretches.{IsStride}
use Rattle.x10_hall.specs.Halls.{PostedFrame, Numbered, frame_of, told}
use Rattle.x10_hall.specs.declared.limits.TheConstants.{MOST_TAKEN, MOST_STEPS}
use Rattle.x10_world.specs.Opening.{IsOpenedPlace, IsForbidden}
use Rattle.x10_world.specs.StandsForWorld.{IsMadeStep}
use Rattle.x10_workers.specs.declared.trail.Kept.{Kept}
use Rattle.x10_workers.specs.declared.trail.OwnTurn.{OwnTurn}

-- the frame that a step puts out, if there is one
abbrev pub frame_sent : Option Outgoing → List PostedFrame
frame_sent None = []
frame_sent (Some o) = record { to = o.to; bytes = o.bytes.items } ∷ []

-- both, the message first
abbrev pub frames_sent : Sent → List PostedFrame
frames_sent out = frame_sent out.message ++ frame_sent out.report

-- what a step puts out
abbrev pub frames_out : Stepped → List PostedFrame
frames_out stepped.Idle = []
frames_out (stepped.Moved out) = frames_sent out

-- a place takes bytes in, and goes on
pub record TakesFrame (p : PlaceState) (bytes : List ℕ) (q : PlaceState) : Type 0 where
  pub taken : IsTaken p bytes q
  pub goes : q.stopped ≢ true
  pub kept : Keeps p q

-- frames, one after another
abbrev pub TakesEach : PlaceState → List Numbered → PlaceState → Type 0
TakesEach p [] q = q ≡ p
TakesEach p (f ∷ fs) q = (r : PlaceState) × TakesFrame p f.bytes r × TakesEach r fs q

-- a place makes a step of the activity with a key, or finds nothing to do; or the step is one of several at a stretch
pub data StepsBy (p : PlaceState) (key : ℕ) : Stepped → PlaceState → Type 0 where
  by_step : (answer : Stepped) (q : PlaceState) → IsMadeStep p q key answer → Keeps p q
      → StepsBy p key answer q
  by_stride : (out : Sent) (q : PlaceState) → IsStride key p out q
      → StepsBy p key (stepped.Moved out) q

-- a step of each key, one after another, which put out these frames
abbrev pub StepsEach : PlaceState → List ℕ → List PostedFrame → PlaceState → Type 0
StepsEach p [] frames q = (frames ≡ []) × (q ≡ p)
StepsEach p (key ∷ keys) frames q = (answer : Stepped) × (rest : List PostedFrame)
    × (r : PlaceState) × (frames ≡ frames_out answer ++ rest) × StepsBy p key answer r
    × StepsEach r keys rest q

-- a turn takes so many frames, and makes so many steps, at most
pub record IsShort (taken keys : ℕ) : Type 0 where
  pub few_taken : taken ≤ MOST_TAKEN
  pub few_keys : keys ≤ MOST_STEPS

-- A turn of a place: it takes frames in, then makes steps; these put out and print what the turn says.
pub record TurnLeads (p : PlaceState) (t : OwnTurn) (q : PlaceState) : Type 0 where
  pub middle : PlaceState
  pub takes : TakesEach p (map told t.taken.items) middle
  pub steps : StepsEach middle t.keys (map frame_of t.frames.items) q
  pub printed : map line_as (drop (length p.lines) q.lines) ≡ map line_as t.lines.items
  pub short : IsShort (length t.taken.items) (length t.keys)

-- turns, one after another
abbrev pub TrailLeads : PlaceState → List OwnTurn → PlaceState → Type 0
TrailLeads p [] q = q ≡ p
TrailLeads p (t ∷ ts) q = (r : PlaceState) × TurnLeads p t r × TrailLeads r ts q

-- what callers see of a trail: the module, how many places the run has, the number of the place, its turns, all lines that it
-- printed, and whether the root finish may end, as this place knows it
pub record TrailState : Type 0 where
  pub certified : Certified
  pub places : ℕ
  pub id : ℕ
  pub turns : List OwnTurn
  pub lines : List place_line.Line
  pub closed : Bool

-- the trail of a place, one of so many of a module, of which something was kept
abbrev pub trail_of : Certified → ℕ → Kept → TrailState
trail_of c places kept = record {
  certified = c;
  places = places;
  id = kept.id;
  turns = kept.turns.items;
  lines = kept.lines.items;
  closed = kept.closed;
}

-- From a place, turns lead to one that has printed a trail's lines, and where the root finish may end if the trail says so.
pub record EndsAs (p : PlaceState) (turns : List OwnTurn) (t : TrailState) : Type 0 where
  pub last : PlaceState
  pub leads : TrailLeads p turns last
  pub lines : map line_as t.lines ≡ map line_as last.lines
  pub closed : IsTrue t.closed ↔ ((last.id ≡ 0) × IsDoneHere (store_of last) 0)

-- All turns of a trail lead from the beginning of its place, one of a permitted number, to its end.
pub record IsTrail (t : TrailState) : Type 0 where
  pub permitted : IsForbidden t.certified t.places → ⊥
  pub first : PlaceState
  pub opened : IsOpenedPlace t.certified t.places t.id first
  pub ends : EndsAs first t.turns t
