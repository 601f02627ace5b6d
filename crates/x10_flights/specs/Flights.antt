-- The frames in flight: what callers see of them, and then how they are held.
use Rattle.std.specs.Prelude.{◌≡◌, ℕ, ◌+◌, ◌-◌, ◌<◌, ◌≤◌, ◌^◌, ◌==◌, ◌⊎◌, Bool, true, false, not, List, [], ◌∷◌, ◌++◌, Option, Some, None, All}
use Rattle.std.specs.Prelude.{find, filter, length, slice_index_or, if◌then◌else◌}
use Rattle.std.specs.declared.vec.Vec.{Vec}
use Rattle.std.specs.Global.{Global}
use Rattle.x10_flights.specs.PlaceSets.{has_place}

-- a frame in flight: its number, the place that it goes to, and its bytes
pub record Flight : Type 0 where
  pub number : ℕ
  pub to : ℕ
  pub bytes : List ℕ

-- how many places there are, how many frames were posted, how many more can be posted before room is made again, and
-- what flies, in the order in which it was posted
pub record FlightsState : Type 0 where
  pub places : ℕ
  pub posted : ℕ
  pub room : ℕ
  pub flying : List Flight

-- the flight with a number, among some
abbrev pub flight_among : List Flight → ℕ → Option Flight
flight_among flying number = find (λ f. f.number == number) flying

-- the frame in flight with a number
abbrev pub flight_of : FlightsState → ℕ → Option Flight
flight_of s number = flight_among s.flying number

-- whether what was found goes to a place
abbrev pub goes_to : ℕ → Option Flight → Bool
goes_to place None = false
goes_to place (Some f) = f.to == place

-- whether the frame with a number is in flight to a place
abbrev pub flies_to : List Flight → ℕ → ℕ → Bool
flies_to flying place number = goes_to place (flight_among flying number)

-- all flights but the one with a number
abbrev pub without : ℕ → List Flight → List Flight
without number flying = filter (λ f. not (f.number == number)) flying

-- the keys rise strictly, from a number on, and all are below another
abbrev pub RisingBy : {X : Type 0} → (X → ℕ) → ℕ → List X → ℕ → Type 0
RisingBy key low [] top = Unit {0}
RisingBy key low (x ∷ xs) top = (low ≤ key x) × (key x < top) × RisingBy key (key x + 1) xs top

-- a frame more, under the next number
abbrev pub posted_to : FlightsState → ℕ → List ℕ → FlightsState
posted_to s to bytes = record {
  places = s.places;
  posted = s.posted + 1;
  room = s.room - 1;
  flying = s.flying ++ (record { number = s.posted; to = to; bytes = bytes }) ∷ [];
}

-- one frame fewer
abbrev pub taken_from : FlightsState → ℕ → FlightsState
taken_from s number = record {
  places = s.places;
  posted = s.posted;
  room = s.room;
  flying = without number s.flying;
}

-- room for two frames more
abbrev pub with_room : FlightsState → FlightsState
with_room s = record { places = s.places; posted = s.posted; room = 2; flying = s.flying }

-- the least number that passes, from a number on
pub record IsLeast (test : ℕ → Bool) (from number : ℕ) : Type 0 where
  pub not_before : from ≤ number
  pub passes : test number ≡ true
  pub least : (m : ℕ) → from ≤ m → test m ≡ true → number ≤ m

-- that number, if there is one
abbrev pub IsNext : (ℕ → Bool) → ℕ → Option ℕ → Type 0
IsNext test from None = (m : ℕ) → from ≤ m → test m ≡ false
IsNext test from (Some number) = IsLeast test from number

-- what is true of all frames in flight at any time
pub record AreInOrder (s : FlightsState) : Type 0 where
  pub rising : RisingBy (λ f. f.number) 0 s.flying s.posted
  pub there : All (λ f. f.to < s.places) s.flying
  pub at_most : s.room ≤ 2
  pub few : s.posted + s.room < 2 ^ 64

-- what a slot holds, if its frame was not taken
abbrev pub held : ℕ → ℕ → Option (Vec ℕ Global) → Option Flight
held number to None = None
held number to (Some bytes) = Some (record { number = number; to = to; bytes = bytes.items })

-- the frames by number, and for how many more there is room
pub record Tabled : Type 0 where
  pub posted : ℕ
  pub spare : ℕ
  pub flying : List Flight

-- the numbers of frames to one place, some of them perhaps taken, and for how many more there is room
pub record Queued : Type 0 where
  pub numbers : List ℕ
  pub spare : ℕ

-- what stands where there is no queue
abbrev pub nothing : Queued
nothing = record { numbers = []; spare = 0 }

-- the numbers in a place's queue, and for how many more it has room
abbrev pub numbers_at : List Queued → ℕ → List ℕ
numbers_at queues p = (slice_index_or queues p nothing).numbers

abbrev pub spare_at : List Queued → ℕ → ℕ
spare_at queues p = (slice_index_or queues p nothing).spare

-- a number is among some
abbrev pub Has : List ℕ → ℕ → Type 0
Has [] n = ⊥
Has (x ∷ xs) n = (x ≡ n) ⊎ Has xs n

-- the first of some numbers, if there is one, is that of a frame in flight to a place
abbrev pub FirstFlies : List Flight → ℕ → List ℕ → Type 0
FirstFlies flying p [] = Unit {0}
FirstFlies flying p (n ∷ ns) = flies_to flying p n ≡ true

-- whether there are any numbers
abbrev pub has_any : List ℕ → Bool
has_any [] = false
has_any (n ∷ ns) = true

-- how much room a place lacks that was posted to since room was made
abbrev pub lack : ℕ → ℕ → ℕ → ℕ
lack first second p = (if first == p then 1 else 0) + (if second == p then 1 else 0)

-- each frame in flight is in the queue of its place, each queue begins with one, and the places awaited are those whose
-- queues aren't empty; and there is room for as many more as is said: the queues of the
-- places that were not posted to since room was made have room for two
pub record AreFiled (queues : List Queued) (table : Tabled)
    (room first second awaited : ℕ) : Type 0 where
  pub numbered : RisingBy (λ f. f.number) 0 table.flying table.posted
  pub there : All (λ f. f.to < length queues) table.flying
  pub few : table.posted + room < 2 ^ 64
  pub places : length queues ≤ 64
  pub rising : (p : ℕ) → RisingBy (λ n. n) 0 (numbers_at queues p) table.posted
  pub filed : (p n : ℕ) → flies_to table.flying p n ≡ true → Has (numbers_at queues p) n
  pub begins : (p : ℕ) → FirstFlies table.flying p (numbers_at queues p)
  pub awaits : (p : ℕ) → has_place awaited p ≡ has_any (numbers_at queues p)
  pub room_is : room ≤ table.spare
  pub spare : (p : ℕ) → p < length queues → 2 ≤ spare_at queues p + lack first second p
  pub at_most : room ≤ 2
  pub second_is : 0 < room → second ≡ 65535
  pub first_is : 1 < room → first ≡ 65535
