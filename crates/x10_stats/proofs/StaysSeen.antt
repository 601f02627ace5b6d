-- The stays of a world are those of each world of the machine that it stands for.
use Rattle.std.proofs.Common.{◌≡◌, ℕ, ◌<◌, ◌^◌, Option, None, Some, refl, sym, ap, subst, ◌∙◌, inl, inr}
use Rattle.std.specs.Prelude.{slice_get}
use Rattle.std.proofs.lemmas.Bool.{cases_lt}
use Rattle.std.proofs.lemmas.Option.{same_Some}
use Rattle.slab.specs.Slab.{get}
use Rattle.x10_model.specs.Places.{Stay}
use Rattle.x10_model.specs.Worlds.{World}
use Rattle.x10_model.proofs.Lists.{none_some}
use Rattle.x10_finish.specs.Nesting.{stays_in, stays_of}
use Rattle.x10_place.specs.Stays.{StayState}
use Rattle.x10_place.specs.StandsFor.{PlaceState}
use Rattle.x10_world.specs.StandsForWorld.{WorldState, StandsForWorld}
use Rattle.x10_stats.specs.Tallies.{stay_at, stay_in}

-- a stay, as it stands for one of the machine
pub record IsSameStay (a : StayState) (s : Stay) (key : ℕ) : Type 0 where
  pub function_is : s.top.function ≡ a.top.function
  pub pc_is : s.top.pc ≡ a.top.pc
  pub back_is : s.back ≡ a.back
  pub few : key < 2 ^ 32

module _ (x : WorldState) (w : World) (stand : StandsForWorld x w) where
  none_in : (place key : ℕ) (o : Option PlaceState) → slice_get x.places place ≡ o → stay_in o key ≡ None → stays_of w.net place key ≡ None
  none_in place key None is none = ap (λ o. stays_in o key) (stand.none place is)
  none_in place key (Some p) is none = (let old = stand.some place p is in ap (λ o. stays_in o key) old.1 ∙ old.2.none key none)

  pub none_as : (place key : ℕ) → stay_at x place key ≡ None → stays_of w.net place key ≡ None
  none_as place key none = none_in place key (slice_get x.places place) refl none

  some_in : (place key : ℕ) (a : StayState) (o : Option PlaceState) → slice_get x.places place ≡ o → stay_in o key ≡ Some a
      → (s : Stay) × (stays_of w.net place key ≡ Some s) × IsSameStay a s key
  some_in place key a None is there = absurd cc
  some_in place key a (Some p) is there =
      let old = stand.some place p is in
      let s = old.2.some key a there in (
        s.0,
        ap (λ o. stays_in o key) old.1 ∙ s.1,
        record {
          function_is = s.2.top.function_is;
          pc_is = s.2.top.pc_is;
          back_is = s.2.back;
          few = elim (cases_lt key (2 ^ 32)) [ inl lt ↦ lt | inr large ↦ absurd (none_some (get p.stays key) a (old.2.keys key large) there) ];
        },
      )

  pub some_as : (place key : ℕ) (a : StayState) → stay_at x place key ≡ Some a → (s : Stay) × (stays_of w.net place key ≡ Some s) × IsSameStay a s key
  some_as place key a there = some_in place key a (slice_get x.places place) refl there

  seen_in : (place key : ℕ) (s : Stay) (o : Option StayState) → stay_at x place key ≡ o → stays_of w.net place key ≡ Some s
      → (a : StayState) × (stay_at x place key ≡ Some a) × IsSameStay a s key
  seen_in place key s None is there = absurd (none_some (stays_of w.net place key) s (none_as place key is) there)
  seen_in place key s (Some a) is there =
      let other = some_as place key a is in
      let same = same_Some other.0 s (sym other.1 ∙ there) in
      (a, is, subst (λ t. IsSameStay a t key) same other.2)

  -- a stay of the machine is seen
  pub seen_as : (place key : ℕ) (s : Stay) → stays_of w.net place key ≡ Some s
      → (a : StayState) × (stay_at x place key ≡ Some a) × IsSameStay a s key
  seen_as place key s there = seen_in place key s (stay_at x place key) refl there

  unseen_in : (place key : ℕ) (o : Option StayState) → stay_at x place key ≡ o → stays_of w.net place key ≡ None → stay_at x place key ≡ None
  unseen_in place key None is none = is
  unseen_in place key (Some a) is none = absurd (let other = some_as place key a is in none_some (stays_of w.net place key) other.0 none other.1)

  -- and none where it has none
  pub unseen_as : (place key : ℕ) → stays_of w.net place key ≡ None → stay_at x place key ≡ None
  unseen_as place key none = unseen_in place key (stay_at x place key) refl none
