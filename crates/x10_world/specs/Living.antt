-- Which places have activities, and which keys are in use there.
use Rattle.std.specs.Prelude.{◌≡◌, ℕ, ◌≤◌, ◌==◌, Bool, false, not, List, [], length, Option, Some, None, slice_get}
use Rattle.slab.specs.Slab.{slab_len}
use Rattle.x10_flights.specs.PlaceSets.{has_place}
use Rattle.x10_place.specs.Opening.{keys_of}
use Rattle.x10_place.specs.StandsFor.{PlaceState}

-- whether a place has an activity
abbrev pub has_activity : PlaceState → Bool
has_activity p = not (slab_len p.stays == 0)

-- whether there is a place, and an activity at it
abbrev pub lives_in : Option PlaceState → Bool
lives_in None = false
lives_in (Some p) = has_activity p

abbrev pub lives_at : List PlaceState → ℕ → Bool
lives_at places id = lives_in (slice_get places id)

-- the keys in use there, by rising number
abbrev pub keys_of_any : Option PlaceState → List ℕ
keys_of_any None = []
keys_of_any (Some p) = keys_of p.stays

abbrev pub keys_at : List PlaceState → ℕ → List ℕ
keys_at places id = keys_of_any (slice_get places id)

-- how many activities are there
abbrev pub live_in : Option PlaceState → ℕ
live_in None = 0
live_in (Some p) = slab_len p.stays

abbrev pub live_at : List PlaceState → ℕ → ℕ
live_at places id = live_in (slice_get places id)

-- the set has those of at most 64 places that have activities
pub record AreLiving (places : List PlaceState) (set : ℕ) : Type 0 where
  pub few : length places ≤ 64
  pub each : (id : ℕ) → has_place set id ≡ lives_at places id
