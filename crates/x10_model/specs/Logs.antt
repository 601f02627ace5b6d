-- Logs of turns, the events that they stand for, and the history of one place.
use Rattle.std.specs.Prelude.{◌≡◌, ◌⊎◌, ℕ, true, List, [], ◌∷◌, ◌++◌, map, Option, Some, None}
use Rattle.std.specs.List.{flat_map}
use Rattle.x10_model.specs.declared.event.Event.{Event}
use Rattle.x10_model.specs.declared.event.Event.TheVariants.{Step, Deliver}
use Rattle.x10_model.specs.Places as places
use Rattle.x10_model.specs.Places.{Setting, Stay, IsFree, Message, Effect}
use Rattle.x10_model.specs.Moves.{Moves}
use Rattle.x10_model.specs.Deliveries.{Receives}
use Rattle.x10_model.specs.Worlds.{sent}

-- one turn of a place: the numbers of the messages that it took in, and then the keys that it stepped
pub record Turn : Type 0 where
  pub place : ℕ
  pub taken : List ℕ
  pub keys : List ℕ

-- a turn's messages are taken in one by one, and then each key is stepped once
abbrev pub events_of_turn : Turn → List Event
events_of_turn t = map Deliver t.taken ++ map (Step t.place) t.keys

-- the events that a log stands for, turn by turn
abbrev pub events_of : List Turn → List Event
events_of turns = flat_map events_of_turn turns

-- the messages that an effect puts out
abbrev pub as_messages : Option Message → List Message
as_messages None = []
as_messages (Some message) = message ∷ []

-- what a place does by itself: it steps a key, or takes in a message, or a report, which the machine doesn't have
pub data LocalEvent : Type 0 where
  Steps : (key : ℕ) → LocalEvent
  Takes : Message → LocalEvent
  TakesReport : LocalEvent

-- nothing is there under the key that could move, or another is inside an atomic region
abbrev pub CannotMove : places.Place → ℕ → Type 0
CannotMove p key = (stay : Stay) → p.stays key ≡ Some stay
    → (stay.away ≡ true) ⊎ (IsFree p.stays key → ⊥)

-- What one place does by itself, from its first state to its last, event by event, with the messages that it puts out.
pub data Local (setting : Setting) (here : ℕ) : places.Place → List LocalEvent → List Message
    → places.Place → Type 0 where
  nothing : (p : places.Place) → Local setting here p [] [] p
  stepped : (p q r : places.Place) (key : ℕ) (effect : Effect) (events : List LocalEvent)
      (put_out : List Message) → Moves setting here p key q effect
      → Local setting here q events put_out r
      → Local setting here p (Steps key ∷ events) (as_messages (sent effect) ++ put_out) r
  idle : (p r : places.Place) (key : ℕ) (events : List LocalEvent) (put_out : List Message)
      → CannotMove p key → Local setting here p events put_out r
      → Local setting here p (Steps key ∷ events) put_out r
  took : (p q r : places.Place) (key : ℕ) (message : Message) (events : List LocalEvent)
      (put_out : List Message) → Receives setting here p message key q
      → Local setting here q events put_out r
      → Local setting here p (Takes message ∷ events) put_out r
  took_report : (p r : places.Place) (events : List LocalEvent) (put_out : List Message)
      → Local setting here p events put_out r
      → Local setting here p (TakesReport ∷ events) put_out r
