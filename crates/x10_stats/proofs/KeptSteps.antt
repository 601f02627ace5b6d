-- No activity that is kept has made more steps than the most of its function.
use Rattle.std.proofs.Common.{◌≡◌, ℕ, ◌≤◌, Bool, true, false, List, Option, Some, None, refl, sym, ap, subst, ◌∙◌, inl, inr, arith}
use Rattle.std.specs.Prelude.{All, slice_get, slice_set}
use Rattle.std.proofs.lemmas.List.Elements.{All-append, All-nil, All-replicate, All-set, All-weaker}
use Rattle.std.proofs.lemmas.Option.{same_Some}
use Rattle.x10_model.specs.declared.event.Event.{Event}
use Rattle.x10_place.specs.Stays.{StayState}
use Rattle.x10_verify.specs.Certified.{Certified}
use Rattle.x10_world.specs.StandsForWorld.{WorldState}
use Rattle.x10_world.specs.declared.done.Done.{Done}
use Rattle.x10_world.specs.declared.done.Done.TheVariants as done
use Rattle.x10_world.proofs.Lists.{set_either, set_here}
use Rattle.x10_stats.specs.Counts.{Counted, CountsState, counted_with, counts_at_first}
use Rattle.x10_stats.specs.Counts.Counted.{begins, goes_on}
use Rattle.x10_stats.specs.Laws.{IsWithinMost}
use Rattle.x10_stats.specs.Tallies.{TallyState, activity_at, all_with_room, arrived, as_pair, begun_as, begun_by, begun_from, empty_tally, functions_reaching, functions_with, gone_back, left_by, next_one, nobody, one_more, one_step, reaching, ready, sight_of, stay_at, stepped, with_rooms}
use Rattle.x10_stats.specs.declared.activity.Activity.{Activity}
use Rattle.x10_stats.specs.declared.sight.Sight.{Sight}
use Rattle.x10_stats.specs.declared.tally.Begun.{Begun}

-- ---- the most steps of a function only grow

within_set : (functions : List Begun) (f : ℕ) (old new : Begun) (a : Activity) → slice_get functions f ≡ Some old → old.most ≤ new.most
    → IsWithinMost functions a → IsWithinMost (slice_set functions f new) a
within_set functions f old new a is more within g e = elim (set_either functions f a.function new g old is e) [
  | inl same ↦
      let few = within old (ap (λ k. slice_get functions k) same.0 ∙ is) in
      subst (λ (h : Begun). a.steps ≤ h.most) same.1 (omega (arith, few, more))
  | inr other ↦ within g other.1
]

within_begun : (functions : List Begun) (f : ℕ) (o : Option Begun) (a : Activity) → slice_get functions f ≡ o → IsWithinMost functions a
    → IsWithinMost (functions_with functions f o) a
within_begun functions f None a is within = within
within_begun functions f (Some g) a is within = within_set functions f g (one_more g) a is (omega arith) within

within_reaching : (functions : List Begun) (f steps : ℕ) (o : Option Begun) (a : Activity) → slice_get functions f ≡ o → IsWithinMost functions a
    → IsWithinMost (functions_reaching functions f steps o) a
within_reaching functions f steps None a is within = within
within_reaching functions f steps (Some g) a is within = within_set functions f g (reaching g steps) a is (omega arith) within

-- an activity that was counted is within the most of its function
reached_itself : (functions : List Begun) (a : Activity) (o : Option Begun) → slice_get functions a.function ≡ o
    → IsWithinMost (functions_reaching functions a.function a.steps o) a
reached_itself functions a None is g e = absurd (let n = sym is ∙ e in cc)
reached_itself functions a (Some h) is g e =
    let same : reaching h a.steps ≡ g = same_Some (reaching h a.steps) g (sym (set_here functions a.function (reaching h a.steps) h is) ∙ e) in
    subst (λ (z : Begun). a.steps ≤ z.most) same (omega arith)

-- ---- all that are kept

abbrev AreWithin : TallyState → Type 0
AreWithin t = All (IsWithinMost t.functions) t.all

no_steps : (functions : List Begun) (a : Activity) → a.steps ≡ 0 → IsWithinMost functions a
no_steps functions a none g e = omega (arith, none)

room_all : (functions : List Begun) (all : List Activity) (next : ℕ) (kept : Bool) → All (IsWithinMost functions) all
    → All (IsWithinMost functions) (all_with_room all next kept)
room_all functions all next true within =
    All-append (IsWithinMost functions) all _ within (All-replicate (IsWithinMost functions) _ nobody (no_steps functions nobody refl))
room_all functions all next false within = within

rooms_within : (t : TallyState) (place key : ℕ) → AreWithin t → AreWithin (with_rooms t place key)
rooms_within t place key within = room_all t.functions t.all t.next t.kept within

step_within : (t : TallyState) (a : Activity) → AreWithin t
    → All (IsWithinMost (functions_reaching t.functions a.function a.steps (slice_get t.functions a.function))) (slice_set t.all a.number a)
step_within t a within =
    let after : List Begun = functions_reaching t.functions a.function a.steps (slice_get t.functions a.function) in
    All-set (IsWithinMost after) t.all a.number a (reached_itself t.functions a (slice_get t.functions a.function) refl)
    (All-weaker (IsWithinMost t.functions) (IsWithinMost after)
    (λ b few. within_reaching t.functions a.function a.steps (slice_get t.functions a.function) b refl few) t.all within)

stepped_within : (t : TallyState) (place key : ℕ) → AreWithin t → AreWithin (stepped t place key)
stepped_within t place key within = step_within t (one_step (activity_at t place key)) within

as_within : (t : TallyState) (place key : ℕ) (a : Activity) → a.steps ≡ 0 → AreWithin t → AreWithin (begun_as t place key a)
as_within t place key a none within =
    let after : List Begun = functions_with t.functions a.function (slice_get t.functions a.function) in
    All-set (IsWithinMost after) t.all a.number a (no_steps after a none)
    (All-weaker (IsWithinMost t.functions) (IsWithinMost after)
    (λ b few. within_begun t.functions a.function (slice_get t.functions a.function) b refl few) t.all within)

from_within : (t : TallyState) (place key f : ℕ) (back : Option (ℕ × ℕ)) → AreWithin t → AreWithin (begun_from t place key f back)
from_within t place key f None within = as_within t place key (next_one t place f) refl within
from_within t place key f (Some o) within = within

by_within : (t : TallyState) (place key : ℕ) (stay : Option StayState) → AreWithin t → AreWithin (begun_by t place key stay)
by_within t place key None within = within
by_within t place key (Some s) within = from_within t place key s.top.function (as_pair s.back) within

back_within : (t : TallyState) (place key : ℕ) (back : Option (ℕ × ℕ)) → AreWithin t → AreWithin (gone_back t place key back)
back_within t place key None within = within
back_within t place key (Some o) within = within

left_within : (t : TallyState) (place key : ℕ) (back : Option (ℕ × ℕ)) (stay : Option StayState) → AreWithin t
    → AreWithin (left_by t place key back stay)
left_within t place key back None within = back_within t place key back within
left_within t place key back (Some s) within = within

-- ---- from the first event on

event_within : (s : CountsState) (x : WorldState) (event : Event) (did : Done) (y : WorldState) → AreWithin s.tally
    → AreWithin (counted_with s x event did y).tally
event_within s x event done.Idle y within = rooms_within s.tally (sight_of x event).place (sight_of x event).vacant within
event_within s x event (done.Taken to) y within =
    let see : Sight = sight_of x event in
    by_within (ready s.tally see) see.place see.vacant (stay_at y see.place see.vacant) (rooms_within s.tally see.place see.vacant within)
event_within s x event (done.Moved function pc op first count) y within =
    let see : Sight = sight_of x event in
    let moved : TallyState = stepped (ready s.tally see) see.place see.key in
    left_within (arrived moved y see.place see.vacant) see.place see.key see.back (stay_at y see.place see.key)
    (by_within moved see.place see.vacant (stay_at y see.place see.vacant)
    (stepped_within (ready s.tally see) see.place see.key (rooms_within s.tally see.place see.vacant within)))

first_within : (c : Certified) (kept : Bool) (x : WorldState) → AreWithin (counts_at_first c kept x).tally
first_within c kept x = by_within (with_rooms (empty_tally c kept x) 0 0) 0 0 (stay_at x 0 0)
    (rooms_within (empty_tally c kept x) 0 0 (All-nil (IsWithinMost (empty_tally c kept x).functions)))

pub kept_within : (c : Certified) (kept : Bool) (x : WorldState) (events : List Event) (s : CountsState) (y : WorldState)
    → Counted (counts_at_first c kept x) x events s y → All (IsWithinMost s.tally.functions) s.tally.all
kept_within c kept x _ _ _ begins = first_within c kept x
kept_within c kept x _ _ _ (goes_on y z events t event did before seen done makes) = event_within t y event did z (kept_within c kept x events t y before)
