-- What a world answers of its places.
use Rattle.std.specs.Prelude.{◌≡◌, ◌≢◌, ℕ, ◌<◌, ◌≤◌, List, Some, None, slice_get}
use Rattle.slab.specs.Slab.{get}
use Rattle.x10_model.specs.Places as places
use Rattle.x10_model.specs.Places.{Message, receiver}
use Rattle.x10_model.specs.Worlds.{World, Unused, Flying}
use Rattle.x10_place.specs.Stays.{IsDoneHere}
use Rattle.x10_place.specs.StandsFor.{PlaceState, store_of}

-- no place has the number
abbrev pub HasNoPlace : List PlaceState → ℕ → Type 0
HasNoPlace places id = slice_get places id ≡ None

-- a place with the number
abbrev pub HasPlace : List PlaceState → ℕ → (PlaceState → Type 0) → Type 0
HasPlace places id P = (p : PlaceState) × (slice_get places id ≡ Some p) × P p

-- no place with the number has a key in use, from a number on
abbrev pub HasNoKey : List PlaceState → ℕ → ℕ → Type 0
HasNoKey places id from = (p : PlaceState) → slice_get places id ≡ Some p → (key : ℕ) → from ≤ key
    → get p.stays key ≡ None

-- the message with a number is not in flight
abbrev pub IsNotFlying : World → ℕ → Type 0
IsNotFlying w number = (message : Message) → w.net.posts number ≢ Flying message

-- the message with a number is in flight, for a place
abbrev pub IsFlyingTo : World → ℕ → ℕ → Type 0
IsFlyingTo w number place = (message : Message) × (w.net.posts number ≡ Flying message)
    × (receiver message ≡ place)

-- a report is in flight, for a place: no message has its number
abbrev pub IsReportTo : World → ℕ → ℕ → Type 0
IsReportTo w number place = (w.net.posts number ≡ Unused)
    × ((p : places.Place) × (w.net.places place ≡ Some p))

-- the numbers that messages have had are below it
abbrev pub IsPosted : World → ℕ → Type 0
IsPosted w count = (number : ℕ) → w.net.posts number ≢ Unused → number < count

-- the root finish may end at its home, place 0, by its own counts and what was reported to it
abbrev pub IsClosed : List PlaceState → Type 0
IsClosed places = (p : PlaceState) → slice_get places 0 ≡ Some p → IsDoneHere (store_of p) 0
