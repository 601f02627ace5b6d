-- Whose turn it is, and which event comes next.
use Rattle.std.proofs.Common.{◌≡◌, ◌↔◌, ℕ, zero, suc, ◌+◌, ◌-◌, ◌<◌, ◌≤◌, ◌||◌, min, Bool, true, false, List, [], ◌∷◌, length, take, drop, Option, Some, None, Result, Ok, Err, refl, sym, ap, subst, ◌∙◌, inl, inr, zero-add, arith}
use Rattle.std.specs.Prelude.{IfOk, IfSome, IsSome, slice_get}
use Rattle.std.proofs.lemmas.Bool.{both_ways, or_cases, or_left, or_right, cases_lt}
use Rattle.std.proofs.lemmas.List.{drop-drop}
use Rattle.std.proofs.lemmas.Option.{slice_get_within}
use Rattle.slab.specs.Slab.{get}
use Rattle.x10_model.specs.declared.event.Event.{Event}
use Rattle.x10_model.specs.declared.event.Event.TheVariants.{Step}
use Rattle.x10_model.proofs.Lists.{none_some}
use Rattle.x10_flights.specs.Flights.{flies_to, IsNext}
use Rattle.x10_flights.specs.PlaceSets.{has_place}
use Rattle.x10_place.specs.StandsFor.{PlaceState}
use Rattle.x10_world.specs.Living.{lives_at, keys_at}
use Rattle.x10_world.specs.Rounds.{IsEmptyWorld, IsBusy, RoundsState, AreLeft, AreGone, NamesStep, NamesNext, IsTurnOver, IsTurnAfter, IsStepOf, IsFirstInUse}
use Rattle.x10_world.specs.StandsForWorld.{WorldState, IsWorld}
use Rattle.x10_world.proofs.LivingLemmas.{lives_is, is_lives, is_listed}
use Rattle.x10_world.proofs.EmptyWorlds.{quiet_is, none_flies}

-- ---- lists

get_drop : {X : Type 0} (n i : ℕ) (xs : List X) → slice_get (drop n xs) i ≡ slice_get xs (n + i)
get_drop zero i [] = refl
get_drop (suc n) i [] = refl
get_drop zero i (x ∷ xs) = ap (slice_get (x ∷ xs)) (sym (zero-add i))
get_drop (suc n) i (x ∷ xs) = let e : suc (n + i) ≡ suc n + i = omega arith in get_drop n i xs ∙ ap (slice_get (x ∷ xs)) e

get_take : {X : Type 0} (n i : ℕ) (xs : List X) (x : X) → slice_get (take n xs) i ≡ Some x → (i < n) × (slice_get xs i ≡ Some x)
get_take zero i xs x e = absurd (cc)
get_take (suc n) i [] x e = absurd (cc)
get_take (suc n) zero (y ∷ ys) x e = (omega arith, e)
get_take (suc n) (suc i) (y ∷ ys) x e = let more = get_take n i ys x e in (omega (arith, more.0), more.1)

-- ---- steps that are left

pub step_named : (x : WorldState) (id from at key : ℕ) (keys : List ℕ) (event : Event) (new : RoundsState) → IsFirstInUse x id keys from at
    → slice_get keys at ≡ Some key → event ≡ Step id key
    → new ≡ record { place = id; left = Some (drop (at + 1) keys) } → NamesStep x id (drop from keys) event new
step_named x id from at key keys event new first is names left =
    let here = first.there key is in
    let from-there : from + (at - from) ≡ at = omega (arith, here.0) in
    record {
      at = at - from;
      key = key;
      is_first = get_drop from (at - from) keys ∙ ap (slice_get keys) from-there ∙ is;
      gone = λ i k e. let inside = get_take (at - from) i (drop from keys) k e in
          first.gone (from + i) k (omega arith) (omega (arith, inside.0, here.0)) (sym (get_drop from i keys) ∙ inside.1);
      there = here.1;
      event_is = names;
      new_is = left ∙ ap (λ ks. record { place = id; left = Some ks }) (
          (let e : at + 1 ≡ from + (at - from + 1) = omega (arith, here.0) in ap (λ n. drop n keys) e) ∙ sym (drop-drop (at - from + 1) from keys));
    }

pub no_step : (x : WorldState) (id from at : ℕ) (keys : List ℕ) → IsFirstInUse x id keys from at → length keys ≤ at → AreGone x id (drop from keys)
no_step x id from at keys first all i key e =
    let there = sym (get_drop from i keys) ∙ e in
    first.gone (from + i) key (omega arith) (omega (arith, slice_get_within keys (from + i) key there, all)) there

-- ---- busy places

pub busy_is : (x : WorldState) (living awaited both : ℕ) → ((id : ℕ) → has_place living id ≡ lives_at x.places id)
    → ((id : ℕ) → has_place awaited id ≡ true ↔ ((n : ℕ) × (flies_to x.flights.flying id n ≡ true)))
    → ((id : ℕ) → has_place both id ≡ (has_place living id || has_place awaited id)) → (id : ℕ) → has_place both id ≡ true ↔ IsBusy x id
busy_is x living awaited both lives waits either id = (there, back)
  where
    there : has_place both id ≡ true → IsBusy x id
    there t = elim (or_cases (has_place living id) (has_place awaited id) (sym (either id) ∙ t)) [
      | inl l ↦ inl (lives_is x.places id (sym (lives id) ∙ l))
      | inr w ↦ inr ((waits id).0 w)
    ]

    back : IsBusy x id → has_place both id ≡ true
    back (inl l) = either id ∙ or_left (has_place living id) (has_place awaited id) (lives id ∙ is_lives x.places id l.0 l.1)
    back (inr w) = either id ∙ or_right (has_place living id) (has_place awaited id) ((waits id).1 w)

module _ (x : WorldState) (busy : ℕ) (is : (id : ℕ) → has_place busy id ≡ true ↔ IsBusy x id) where
  -- the next one behind a place
  pub turn_behind : (from low to : ℕ) → low ≡ min (from + 1) 65535 → to < 64 → IsNext (has_place busy) low (Some to) → IsTurnAfter x from to
  turn_behind from low to e few next =
      let n = next.not_before in
      let over : from + 1 ≤ to = omega (arith, e, n, few) in
      record {
        busy = (is to).0 next.passes;
        between = λ id b there. let least = next.least id in elim b [
          | inl up ↦ omega (arith, least (omega (arith, e, up.0)) ((is id).1 there), up.1, over)
          | inr round ↦ omega (arith, round.0, over)
        ];
      }

  -- none behind it: the first of all
  turn_round : (from low to : ℕ) → low ≡ min (from + 1) 65535 → to < 64 → IsNext (has_place busy) low None → IsNext (has_place busy) 0 (Some to)
      → IsTurnAfter x from to
  turn_round from low to e few none next =
      let low-enough : (id : ℕ) → from < id → low ≤ id = λ id less. omega (arith, e, less) in
      let behind : to ≤ from = elim (cases_lt from to) [
        | inl less ↦ absurd
            (both_ways (has_place busy to) (none to (low-enough to less)) next.passes)
        | inr le ↦ le
      ] in
      record {
        busy = (is to).0 next.passes;
        between = λ id b there. elim b [
          | inl up ↦ both_ways (has_place busy id) (none id (low-enough id up.0)) ((is id).1 there)
          | inr round ↦ omega (arith, next.least id (omega arith) ((is id).1 there), round.1)
        ];
      }

  pub turn_first : (from low : ℕ) (to : Option ℕ) → low ≡ min (from + 1) 65535 → IfSome to (λ p. p < 64) → IsNext (has_place busy) low None
      → IsNext (has_place busy) 0 to → IfSome to (IsTurnAfter x from)
  turn_first from low None e few none next = tt
  turn_first from low (Some to) e few none next = turn_round from low to e few none next

  -- none at all
  pub turn_none : IsWorld x.program x.bounds x.places x.flights x.stopped → IsNext (has_place busy) 0 None → IsEmptyWorld x
  turn_none world none = quiet_is x world
      (λ id p there key. nobody id p there key (get p.stays key) refl)
      (none_flies x world.world world.stands (λ id less number. silent id number (flies_to x.flights.flying id number) refl))
    where
      not_busy : (id : ℕ) → IsBusy x id → ⊥
      not_busy id there = both_ways (has_place busy id) (none id (omega arith)) ((is id).1 there)

      nobody : (id : ℕ) (p : PlaceState) → slice_get x.places id ≡ Some p → (key : ℕ) (o : Option _) → get p.stays key ≡ o → get p.stays key ≡ None
      nobody id p there key None e = e
      nobody id p there key (Some a) e = absurd (not_busy id (inl (key, (p, there, subst (λ o. IsSome o) (sym e) refl))))

      silent : (id number : ℕ) (b : Bool) → flies_to x.flights.flying id number ≡ b → flies_to x.flights.flying id number ≡ false
      silent id number false e = e
      silent id number true e = absurd (not_busy id (inr (number, e)))

-- ---- turns

-- a busy place's turn isn't over when it begins
pub busy_names : (x : WorldState) (t : RoundsState) → t.left ≡ None → IsBusy x t.place → IsTurnOver x t → ⊥
busy_names x t begins busy over = elim over.1.0 [
  | inl some ↦ none_some t.left over.0 begins some
  | inr none ↦ elim busy [
    | inl lives ↦
        let found = is_listed x.places t.place lives.0 lives.1 in
        over.1.1 found.0 lives.0 (ap (λ ks. slice_get ks found.0) none.1.1 ∙ found.1) lives.1
    | inr flies ↦ both_ways (flies_to x.flights.flying t.place flies.0) (none.1.0 flies.0 (omega arith)) flies.1
  ]
]

-- a step of those that are left is the turn's next event
names_step : (x : WorldState) (t : RoundsState) (keys : List ℕ) (event : Event) (new : RoundsState) → AreLeft x t keys
    → NamesStep x t.place keys event new → NamesNext x t event new
names_step x t keys event new left n = subst (λ e. NamesNext x t e new) (sym n.event_is)
    (keys, (left, record { at = n.at; key = n.key; is_first = n.is_first; gone = n.gone; there = n.there; event_is = refl; new_is = n.new_is }))

pub step_next : (x : WorldState) (t : RoundsState) (keys : List ℕ) (event : Option Event) (new : RoundsState) → AreLeft x t keys
    → IsStepOf x t.place keys event new → IfSome event (λ e. NamesNext x t e new)
step_next x t keys None new left is = tt
step_next x t keys (Some event) new left is = names_step x t keys event new left is

-- where there is none, the turn is over
pub step_over : (x : WorldState) (t : RoundsState) (keys : List ℕ) (event : Option Event) (new : RoundsState) → AreLeft x t keys
    → IsStepOf x t.place keys event new → event ≡ None → IsTurnOver x t × (new.place ≡ t.place)
step_over x t keys None new left is e = ((keys, (left, is.0)), is.1)
step_over x t keys (Some event) new left is e = absurd cc

-- Where no frame is to be taken in any more, the steps of all that are there are left.
pub by_steps : (x : WorldState) (t mid new : RoundsState) (event : Option Event) → t.left ≡ None → IsNext (flies_to x.flights.flying t.place) 0 None
    → mid ≡ record { place = t.place; left = Some (keys_at x.places t.place) }
    → ((keys : List ℕ) → mid.left ≡ Some keys → IsStepOf x mid.place keys event new)
    → AreLeft x t (keys_at x.places t.place) × IsStepOf x t.place (keys_at x.places t.place) event new
by_steps x t mid new event begins silent at steps =
    let keys = keys_at x.places t.place in (
      inr (begins, (silent, refl)),
      subst (λ n. IsStepOf x n keys event new) (ap (λ (u : RoundsState). u.place) at)
          (steps keys (ap (λ (u : RoundsState). u.left) at)),
    )

-- The turn of a place that is busy names something.
pub none_over : {E : Type 0} (x : WorldState) (mid new : RoundsState) (from place : ℕ) (r : Result (Option Event) E)
    → mid ≡ record { place = place; left = None } → IsTurnAfter x from place
    → IfOk r (λ event. event ≡ None → IsTurnOver x mid × (new.place ≡ mid.place)) → IfOk r (λ event. event ≡ None → IsEmptyWorld x)
none_over x mid new from place (Ok event) at after none = λ e.
    absurd (busy_names x mid (ap (λ (u : RoundsState). u.left) at) (subst (λ n. IsBusy x n) (sym (ap (λ (u : RoundsState). u.place) at)) after.busy)
    (none e).0)
none_over x mid new from place (Err why) at after none = tt
