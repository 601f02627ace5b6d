-- What counts tell of a net.
use Rattle.std.proofs.Common.{◌≡◌, ℕ, ◌<◌, Option, Some, None, refl, ◌∙◌, ap, arith}
use Rattle.x10_model.specs.Places as places
use Rattle.x10_model.specs.declared.finish.Finish.{Finish}
use Rattle.x10_model.specs.Places.{Stay, Message, Spawn, Shift, Back}
use Rattle.x10_model.specs.Worlds.{Net, IsUnder, IsQuiet}
use Rattle.x10_finish.specs.Detection.{Counting, IsAtRest}
use Rattle.x10_finish.specs.Nesting.{stays_in, stays_of}
use Rattle.x10_finish.specs.Telling.{Inherits, IsBetween, FliesBetween, Tells, IsInRange, DoneIsQuiet, QuietIsDone}
use Rattle.x10_finish.proofs.HomeConcludes.{rests, concludes}
use Rattle.x10_finish.proofs.HowMany.{many_some, many_none}

none_left : (n : ℕ) → n ≡ 0 → 0 < n → ⊥
none_left n e lt = omega arith

-- a message under a finish goes from some place to another
between : (f : Finish) (message : Message) → IsUnder f message → (p q : ℕ) × IsBetween f p q message
between f (Spawn from to under function graph) is = (from, to, (refl, refl, is))
between f (Shift from to waiting under function graph) is = (from, to, (refl, refl, is))
between f (Back from to waiting graph) is = absurd is

under_one : (f : Finish) (p q : ℕ) (message : Message) → IsBetween f p q message → IsUnder f message
under_one f p q (Spawn from to under function graph) b = b.2
under_one f p q (Shift from to waiting under function graph) b = b.2
under_one f p q (Back from to waiting graph) b = b

pub rest_quiet : (places : ℕ) (net : Net) (f : Finish) (s : Counting) → IsInRange places (stays_of net) net.posts → Tells (stays_of net) net.posts f s
    → IsAtRest places s → IsQuiet net f
rest_quiet places net f s range tells rest = record {
  stays = λ p k place stay place_is there same. (let at = ap (λ o. stays_in o k) place_is ∙ there in
      none_left (s.totals p).live (rest.live p (range.stays_at p k stay at))
      (many_some (Inherits (stays_of net) f p) (s.totals p).live k (tells.live p) (stay, at, same)));
  posts = λ m message flies under. (let b = between f message under in
      let in_range = range.posts_at m b.0 b.1 message f flies b.2 in
      none_left (s.flying b.0 b.1) (rest.flying b.0 b.1 in_range.0 in_range.1)
      (many_some (FliesBetween net.posts f b.0 b.1) (s.flying b.0 b.1) m (tells.flying b.0 b.1) (message, flies, b.2)));
}

place_of : (o : Option places.Place) (k : ℕ) (s : Stay) → stays_in o k ≡ Some s → (place : places.Place) × (o ≡ Some place) × (place.stays k ≡ Some s)
place_of None k s e = absurd cc
place_of (Some place) k s e = (place, refl, e)

pub quiet_rest : (places : ℕ) (net : Net) (f : Finish) (s : Counting) → Tells (stays_of net) net.posts f s → IsQuiet net f → IsAtRest places s
quiet_rest places net f s tells quiet = record {
  live = λ p lp. many_none (Inherits (stays_of net) f p) (s.totals p).live (tells.live p)
      (λ k i. (let at = place_of (net.places p) k i.0 i.1 in quiet.stays p k at.0 i.0 at.1 at.2 i.2));
  flying = λ p q lp lq. many_none (FliesBetween net.posts f p q) (s.flying p q) (tells.flying p q)
      (λ m i. quiet.posts m i.0 i.1 (under_one f p q i.0 i.2));
}

pub done_is_quiet : DoneIsQuiet
done_is_quiet places net f s lh range tells counted done = rest_quiet places net f s range tells (rests places f.home s lh counted done)

pub quiet_is_done : QuietIsDone
quiet_is_done places net f s lh tells counted quiet none = concludes places f.home s lh counted (quiet_rest places net f s tells quiet) none
