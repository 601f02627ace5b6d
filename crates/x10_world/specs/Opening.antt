-- A world at the beginning.
use Rattle.std.specs.Prelude.{◌≡◌, ◌⊎◌, ℕ, ◌<◌, false, List, [], length, Some, slice_get}
use Rattle.x10_model.specs.declared.limits.TheConstants.{MOST_PLACES}
use Rattle.x10_model.specs.Worlds.{opening}
use Rattle.x10_verify.specs.Certified.{Certified}
use Rattle.x10_place.specs.StandsFor.{PlaceState}
use Rattle.x10_place.specs.Opening.{IsNew, Opens}
use Rattle.x10_world.specs.StandsForWorld as world
use Rattle.x10_world.specs.StandsForWorld.{WorldState, StandsForWorld}

-- a place at the beginning, and the machine's that it stands for
pub record IsOpenedPlace (verified : Certified) (count id : ℕ) (p : PlaceState) : Type 0 where
  pub is_new : IsNew verified id count p
  pub stands : Opens p

-- so many places, each at the beginning
pub record AreOpened (verified : Certified) (count : ℕ) (places : List PlaceState) : Type 0 where
  pub count_is : length places ≡ count
  pub each : (id : ℕ) (p : PlaceState) → slice_get places id ≡ Some p
      → IsOpenedPlace verified count id p

-- a number of places that the module, or the machine, does not permit
abbrev pub IsForbidden : Certified → ℕ → Type 0
IsForbidden verified count = (count < verified.program.least_places) ⊎ (MOST_PLACES < count)

-- a world of so many places at the beginning, that stands for the machine's opening, where main has key 0
pub record IsOpenedWorld (verified : Certified) (count : ℕ) (x : WorldState) : Type 0 where
  pub program : x.program ≡ verified.program
  pub bounds : x.bounds ≡ verified.bounds
  pub places : AreOpened verified count x.places
  pub stopped : x.stopped ≡ false
  pub flying : x.flights.flying ≡ []
  pub posted : x.flights.posted ≡ 0
  pub stands : StandsForWorld x (opening (world.setting_of_world x) 0)
