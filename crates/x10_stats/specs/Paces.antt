-- Rounds. In a round places rise; at a place frames are taken in first, and then keys rise.
use Rattle.std.specs.Prelude.{ℕ, ◌==◌, nat_lt, Bool, true, false, Option, Some, None, if◌then◌else◌}
use Rattle.x10_model.specs.declared.event.Event.{Event}
use Rattle.x10_model.specs.declared.event.Event.TheVariants.{Step, Deliver}
use Rattle.x10_stats.specs.Stats.{sum}
use Rattle.x10_stats.specs.declared.pace.Pace.{Pace}

-- before the first event
abbrev pub pace_at_first : Pace
pace_at_first = record { rounds = 1; place = 0; key = None }

-- the key of a step; none of a delivery
abbrev pub key_of : Event → Option ℕ
key_of (Step place key) = Some key
key_of (Deliver number) = None

-- whether an event comes behind another one of its place
abbrev pub rises : (last key : Option ℕ) → Bool
rises None key = true
rises (Some last) None = false
rises (Some last) (Some key) = nat_lt last key

-- whether an event at a place comes behind the last one in its round
abbrev pub goes_on : Pace → ℕ → Option ℕ → Bool
goes_on p place key = if nat_lt p.place place then true
    else (if p.place == place then rises p.key key else false)

-- an event at a place more: one that doesn't come behind the last one begins a round
abbrev pub paced : Pace → ℕ → Event → Pace
paced p place event = record {
  rounds = if goes_on p place (key_of event) then p.rounds else sum p.rounds 1;
  place = place;
  key = key_of event;
}
