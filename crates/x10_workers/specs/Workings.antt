-- What the workers of a run hand over, and what they do while they are at work.
use Rattle.std.specs.Prelude.{◌≡◌, ◌≢◌, ◌↔◌, ℕ, ◌<◌, ◌≤◌, List, [], ◌∷◌, ◌++◌, Some, IsTrue, true, false, length, map, slice_get}
use Rattle.x10_verify.specs.Certified.{Certified}
use Rattle.x10_place.specs.StandsFor.{PlaceState, store_of, line_as}
use Rattle.x10_place.specs.Stays.{IsDoneHere}
use Rattle.x10_hall.specs.Halls.{PostedFrame, frame_of, told}
use Rattle.x10_hall.specs.declared.limits.TheConstants.{MOST_STEPS}
use Rattle.x10_hall.specs.Repetitions.{IsLast}
use Rattle.x10_workers.specs.declared.trail.Kept.{Kept}
use Rattle.x10_workers.specs.declared.trail.OwnTurn.{OwnTurn}
use Rattle.x10_workers.specs.declared.trail.Trail.{Trail}
use Rattle.x10_workers.specs.declared.worker.Steps.{Steps}
use Rattle.x10_workers.specs.Trails.{StepsEach, TrailLeads, IsTrail, trail_of}

-- a trail of a place of a run of a module at so many places
pub record IsTrailOf (c : Certified) (places id : ℕ) (t : Trail) : Type 0 where
  pub certified_is : t.certified ≡ c
  pub places_are : t.places ≡ places
  pub id_is : t.id ≡ id

-- a trail for each of so many places
pub record AreTrailsOf (c : Certified) (places : ℕ) (trails : List Trail) : Type 0 where
  pub count : length trails ≡ places
  pub each : (id : ℕ) (t : Trail) → slice_get trails id ≡ Some t → IsTrailOf c places id t

-- a trail for each place of a run of a module
abbrev pub AreTrails : Certified → List Trail → Type 0
AreTrails c trails = AreTrailsOf c (length trails) trails

-- what was kept of a place, one of so many of a module: there is a trail of it
pub record IsKeptOf (c : Certified) (places id : ℕ) (kept : Kept) : Type 0 where
  pub id_is : kept.id ≡ id
  pub trail : IsTrail (trail_of c places kept)

-- what was kept of each of so many places
pub record AreAllKept (c : Certified) (places : ℕ) (kept : List Kept) : Type 0 where
  pub count : length kept ≡ places
  pub each : (id : ℕ) (k : Kept) → slice_get kept id ≡ Some k → IsKeptOf c places id k

-- ---- while a worker is at work

-- More steps of a turn, told behind those before, within the most of a turn. Where nothing has moved so far, the place is as it was.
pub record AddsSteps (p : PlaceState) (old : Steps) (q : PlaceState) (new : Steps) : Type 0 where
  pub more : List ℕ
  pub out : List PostedFrame
  pub steps : StepsEach p more out q
  pub goes : q.stopped ≢ true
  pub keys : new.keys ≡ old.keys ++ more
  pub few : length new.keys ≤ MOST_STEPS
  pub frames : map frame_of new.frames.items ≡ map frame_of old.frames.items ++ out
  pub still : new.moved ≡ false → (old.moved ≡ false) × (q ≡ p)

-- the turns that were kept since lead from one place to another, which goes on
pub record WorksOn (p : PlaceState) (old : List OwnTurn) (q : PlaceState)
    (new : List OwnTurn) : Type 0 where
  pub more : List OwnTurn
  pub kept : new ≡ old ++ more
  pub leads : TrailLeads p more q
  pub goes : q.stopped ≢ true

-- a turn that took nothing in and put nothing out
pub record IsSilent (own : OwnTurn) : Type 0 where
  pub taken : own.taken.items ≡ []
  pub frames : own.frames.items ≡ []
  pub lines : own.lines.items ≡ []

-- turns that tell the same
pub record AreAlike (one other : OwnTurn) : Type 0 where
  pub taken : map told one.taken.items ≡ map told other.taken.items
  pub keys : one.keys ≡ other.keys
  pub frames : map frame_of one.frames.items ≡ map frame_of other.frames.items
  pub lines : map line_as one.lines.items ≡ map line_as other.lines.items

-- the last of the turns that were kept tells the same as a turn
pub record IsAgain (kept : List OwnTurn) (own : OwnTurn) : Type 0 where
  pub last : OwnTurn
  pub some : 0 < length kept
  pub is_last : IsLast kept last
  pub alike : AreAlike last own

-- a turn was kept, or one that tells the same
pub record KeepsTurn (own : OwnTurn) (old new : List OwnTurn) : Type 0 where
  pub like : OwnTurn
  pub kept : new ≡ old ++ like ∷ []
  pub alike : AreAlike like own

-- what is kept of them and of the place with a number, at the end
pub record IsKeptWhole (id : ℕ) (p : PlaceState) (made : List OwnTurn) (kept : Kept) : Type 0 where
  pub id_is : kept.id ≡ id
  pub turns : kept.turns.items ≡ made
  pub lines : map line_as kept.lines.items ≡ map line_as p.lines
  pub closed : IsTrue kept.closed ↔ ((p.id ≡ 0) × IsDoneHere (store_of p) 0)
