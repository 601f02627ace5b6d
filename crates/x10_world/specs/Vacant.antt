-- The key that the next stay at a place gets.
use Rattle.std.specs.Prelude.{◌≡◌, ℕ, length, None, Some, slice_get}
use Rattle.slab.specs.Slab.{get}
use Rattle.x10_place.specs.StandsFor.{PlaceState}
use Rattle.x10_world.specs.StandsForWorld.{BelongsTo, WorldState}

-- It is the place's next one, and no stay has it yet; the place belongs to the world.
pub record IsVacantAt (x : WorldState) (id key : ℕ) : Type 0 where
  pub place : PlaceState
  pub is_there : slice_get x.places id ≡ Some place
  pub belongs : BelongsTo x.program x.bounds (length x.places) id place
  pub key_is : key ≡ place.stays.vacant_key
  pub vacant : get place.stays key ≡ None
