-- The lines that tell an event. One space stands between words, and a line feed ends each line.
use Rattle.std.specs.Prelude.{ℕ, zero, suc, ◌+◌, ◌-◌, ◌^◌, List, [], ◌∷◌, ◌++◌, Option, Some, None, codes, decimal, min}
use Rattle.hex.specs.Hex.{encode_lower}
use Rattle.x10_code.specs.declared.op.Op.{Op}
use Rattle.x10_code.specs.Table.{name_of}
use Rattle.x10_model.specs.declared.event.Event.{Event}
use Rattle.x10_model.specs.declared.event.Event.TheVariants.{Step, Deliver}
use Rattle.x10_world.specs.declared.done.Done.{Done}
use Rattle.x10_world.specs.declared.done.Done.TheVariants as done
use Rattle.x10_flights.specs.Flights.{Flight, FlightsState, flight_of}
use Rattle.x10_model.specs.Worlds.{World}
use Rattle.x10_world.specs.Happenings.{HasDone}
use Rattle.x10_world.specs.StandsForWorld.{WorldState, StandsForWorld, MakesEvent}

-- a step: its place and key, and the function, the instruction and the operation at which it was made
abbrev pub step_line : ℕ → ℕ → ℕ → ℕ → Op → List ℕ
step_line place key function pc op = codes "S " ++ (decimal place ++
    (codes " " ++ (decimal key ++ (codes " "
    ++ (decimal function ++ (codes " " ++ (decimal pc
    ++ (codes " " ++ (name_of op ++ 10 ∷ [])))))))))

-- a frame that was put out: its number, the place that it is from, the one that it is for, and its bytes
abbrev pub post_line : ℕ → ℕ → ℕ → List ℕ → List ℕ
post_line number from to bytes = codes "P "
    ++ (decimal number ++ (codes " " ++ (decimal from
    ++ (codes " " ++ (decimal to ++ (codes " " ++ (encode_lower bytes ++ 10 ∷ [])))))))

-- a frame that was taken in: its number and the place
abbrev pub delivery_line : ℕ → ℕ → List ℕ
delivery_line number to = codes "D " ++ (decimal number ++ (codes " " ++ (decimal to ++ 10 ∷ [])))

-- a step that found nothing to do
abbrev pub idle_step_line : ℕ → ℕ → List ℕ
idle_step_line place key = codes "- " ++ (decimal place ++ (codes " " ++ (decimal key ++ 10 ∷ [])))

-- a delivery of a frame that is not in flight
abbrev pub idle_delivery_line : ℕ → List ℕ
idle_delivery_line number = codes "- " ++ (decimal number ++ 10 ∷ [])

-- the line of a frame, if it is in flight
abbrev pub flight_line : ℕ → Option Flight → List ℕ
flight_line from None = []
flight_line from (Some f) = post_line f.number from f.to f.bytes

-- the lines of so many frames, numbered from one on
abbrev pub post_lines : FlightsState → ℕ → ℕ → ℕ → List ℕ
post_lines s from first zero = []
post_lines s from first (suc n) = flight_line from (flight_of s first)
    ++ post_lines s from (first + 1) n

-- how many of so many numbers from one on are below 2^64 - 1, as the numbers of all frames are
abbrev pub in_range : ℕ → ℕ → ℕ
in_range first count = min count (2 ^ 64 - 1 - first)

-- the line of a delivery
abbrev pub delivered_line : ℕ → Done → List ℕ
delivered_line number (done.Taken to) = delivery_line number to
delivered_line number _ = idle_delivery_line number

-- the lines of an event, in the world after it
abbrev pub trace_lines : WorldState → Event → Done → List ℕ
trace_lines x (Step place key) (done.Moved function pc op first count) =
    step_line place key function pc op
    ++ post_lines x.flights place first (in_range first count)
trace_lines x (Step place key) _ = idle_step_line place key
trace_lines x (Deliver number) did = delivered_line number did

-- These events, one after another, from one state of a world to another, and the lines that tell them: each is an event of
-- every world of the machine that the state before it stands for.
pub data Traced : WorldState → List Event → List ℕ → WorldState → Type 0 where
  begins : (x : WorldState) → Traced x [] [] x
  goes_on : (x y z : WorldState) (events : List Event) (text : List ℕ) (event : Event) (did : Done)
      → Traced x events text y → HasDone y event did z
      → ((w : World) → StandsForWorld y w → MakesEvent y w event z)
      → Traced x (events ++ event ∷ []) (text ++ trace_lines z event did) z
