-- What is counted of a run. Each number goes up to the greatest one of 64 bits.
use Rattle.std.specs.Prelude.{ℕ, zero, suc, ◌+◌, ◌-◌, ◌==◌, max, min, List, Option, Some, None, length, slice_get, if◌then◌else◌}
use Rattle.x10_flights.specs.Flights.{Flight, FlightsState, flight_of}
use Rattle.x10_place.specs.StandsFor.{PlaceState}
use Rattle.x10_world.specs.Living.{live_at}
use Rattle.x10_world.specs.StandsForWorld.{WorldState}
use Rattle.x10_world.specs.declared.done.Done.{Done}
use Rattle.x10_world.specs.declared.done.Done.TheVariants as done
use Rattle.x10_stats.specs.declared.stats.Stats.{Stats}
use Rattle.x10_stats.specs.declared.stats.Volume.{Volume}

abbrev pub sum : ℕ → ℕ → ℕ
sum n more = min (n + more) 18446744073709551615

-- how many stays there are at the first so many places
abbrev pub stays_at : List PlaceState → ℕ → ℕ
stays_at places zero = 0
stays_at places (suc n) = sum (stays_at places n) (live_at places n)

abbrev pub all_stays : WorldState → ℕ
all_stays x = stays_at x.places (length x.places)

abbrev pub no_frames : Volume
no_frames = record { frames = 0; bytes = 0 }

-- before the first event
abbrev pub at_first : WorldState → Stats
at_first x = record {
  steps = 0;
  idle = 0;
  deliveries = 0;
  stays = all_stays x;
  spawns = no_frames;
  shifts = no_frames;
  backs = no_frames;
  reports = no_frames;
}

-- ---- frames

-- a frame more, of so many bytes
abbrev pub with_bytes : Volume → ℕ → Volume
with_bytes v bytes = record { frames = sum v.frames 1; bytes = sum v.bytes bytes }

-- a frame of a type more: Spawn, Shift, Back or Report
abbrev pub with_type : Stats → ℕ → ℕ → Stats
with_type s type bytes =
    if type == 1 then record s { spawns = with_bytes s.spawns bytes }
    else (if type == 2 then record s { shifts = with_bytes s.shifts bytes }
    else (if type == 3 then record s { backs = with_bytes s.backs bytes }
    else (if type == 4 then record s { reports = with_bytes s.reports bytes }
    else s)))

abbrev pub with_any_type : Stats → Option ℕ → ℕ → Stats
with_any_type s None bytes = s
with_any_type s (Some type) bytes = with_type s type bytes

-- a frame with these bytes more, by its type, which is its second byte
abbrev pub with_frame : Stats → List ℕ → Stats
with_frame s bytes = with_any_type s (slice_get bytes 1) (length bytes)

abbrev pub with_flight : Stats → Option Flight → Stats
with_flight s None = s
with_flight s (Some f) = with_frame s f.bytes

-- the frames in flight among so many, numbered from one on
abbrev pub with_flights : FlightsState → ℕ → ℕ → Stats → Stats
with_flights flights first zero s = s
with_flights flights first (suc n) s =
    with_flights flights (first + 1) n (with_flight s (flight_of flights first))

-- the frames that were put out since there was one with the number
abbrev pub with_posted : WorldState → ℕ → Stats → Stats
with_posted x first s = with_flights x.flights first (x.flights.posted - first) s

-- ---- events

abbrev pub with_stays : Stats → WorldState → Stats
with_stays s x = record s { stays = max s.stays (all_stays x) }

abbrev pub with_step : Stats → Stats
with_step s = record s { steps = sum s.steps 1 }

-- what an event did more, in the world after it: one that did nothing is idle, and changes no place
abbrev pub counted : Stats → WorldState → Done → Stats
counted s x done.Idle = record s { idle = sum s.idle 1 }
counted s x (done.Moved function pc op first count) =
    with_stays (with_step (with_posted x first s)) x
counted s x (done.Taken to) = with_stays (record s { deliveries = sum s.deliveries 1 }) x

-- how many events were counted
abbrev pub all_events : Stats → ℕ
all_events s = s.steps + s.idle + s.deliveries
