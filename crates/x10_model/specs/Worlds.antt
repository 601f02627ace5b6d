-- The world: the net of places with the messages in flight, and the book of activities. Runs of it, event by event.
use Rattle.std.specs.Prelude.{◌≡◌, ◌≢◌, ℕ, ◌+◌, ◌<◌, ◌≤◌, ◌==◌, ◌&&◌, Bool, true, List, [], ◌∷◌, Option, Some, None, if◌then◌else◌, nat_lt, slice_get}
use Rattle.x10_model.specs.declared.event.Event.{Event}
use Rattle.x10_model.specs.declared.event.Event.TheVariants.{Step, Deliver}
use Rattle.x10_model.specs.Maps.{with_entry, with_pair}
use Rattle.x10_model.specs.Copies.{Snapshot}
use Rattle.x10_model.specs.Places as places
use Rattle.x10_model.specs.declared.finish.Finish.{Finish}
use Rattle.x10_model.specs.Places.{Setting, root, Stay, IsFree, Message, Spawn, Shift, Back, receiver, Effect, Waits, Works, Begins, Spawns, Shifts}
use Rattle.x10_model.specs.Places.{Opens, Closes, Ends}
use Rattle.x10_model.specs.Moves.{Moves, new_stay}
use Rattle.x10_model.specs.Deliveries.{Receives}
use Rattle.x10_model.specs.Wrong.{IsWrong, IsMisfit}

-- a number that a message may have: not used yet, in flight, or taken in
pub data Post : Type 0 where
  Unused : Post
  Flying : Message → Post
  Taken : Post

-- the places, the messages by number, and the finish in which each finish was opened
pub record Net : Type 0 where
  pub places : ℕ → Option places.Place
  pub posts : ℕ → Post
  pub enclosing : Finish → Option Finish

-- an activity: its first function, the finish that it was started under, the steps so far, and its stays by place and
-- key, the one that works last before those that wait for it
pub record Activity : Type 0 where
  pub function : ℕ
  pub under : Finish
  pub steps : ℕ
  pub stays : List (ℕ × ℕ)

-- the activities so far, and which of them each stay and each message belongs to
pub record Book : Type 0 where
  pub begun : ℕ
  pub activities : ℕ → Activity
  pub belongs : ℕ → ℕ → ℕ
  pub carries : ℕ → ℕ

pub record World : Type 0 where
  pub net : Net
  pub book : Book

-- ---- the net after a move

abbrev pub same_finish : Finish → Finish → Bool
same_finish f g = f.home == g.home && f.number == g.number

abbrev pub with_enclosing : (Finish → Option Finish) → Finish → Finish → Finish → Option Finish
with_enclosing enclosing f inside other =
    if same_finish other f then Some inside else enclosing other

-- the message that an effect puts out
abbrev pub sent : Effect → Option Message
sent (Spawns message function under) = Some message
sent (Shifts message under) = Some message
sent (Ends under back) = back
sent _ = None

abbrev pub posts_after : (ℕ → Post) → ℕ → Option Message → ℕ → Post
posts_after posts number None = posts
posts_after posts number (Some message) = with_entry posts number (Flying message)

abbrev pub enclosing_after : (Finish → Option Finish) → ℕ → Effect → Finish → Option Finish
enclosing_after enclosing here (Opens number inside) =
    with_enclosing enclosing (record { home = here; number = number }) inside
enclosing_after enclosing here _ = enclosing

abbrev pub net_after : Net → ℕ → places.Place → Effect → ℕ → Net
net_after net here new effect number = record {
  places = with_entry net.places here (Some new);
  posts = posts_after net.posts number (sent effect);
  enclosing = enclosing_after net.enclosing here effect;
}

-- ---- the book after a move

abbrev pub with_activity : Book → ℕ → Activity → Book
with_activity book a activity = record book { activities = with_entry book.activities a activity }

-- one step more of an activity
abbrev pub counted : Book → ℕ → Book
counted book a = let activity = book.activities a in
    with_activity book a (record activity { steps = activity.steps + 1 })

-- the next activity, which has made no step
abbrev pub started : Book → ℕ → Finish → List (ℕ × ℕ) → Book
started book function under stays = record book {
  begun = book.begun + 1;
  activities = with_entry book.activities book.begun
      (record { function = function; under = under; steps = 0; stays = stays });
}

abbrev pub owned : Book → ℕ → ℕ → ℕ → Book
owned book here key a = record book { belongs = with_pair book.belongs here key a }

abbrev pub carried : Book → ℕ → ℕ → Book
carried book number a = record book { carries = with_entry book.carries number a }

abbrev pub rest_of : List (ℕ × ℕ) → List (ℕ × ℕ)
rest_of [] = []
rest_of (stay ∷ stays) = stays

-- the activity's working stay has ended
abbrev pub left : Book → ℕ → Book
left book a = let activity = book.activities a in
    with_activity book a (record activity { stays = rest_of activity.stays })

-- the activity has a stay more, which works from now on
abbrev pub entered : Book → ℕ → ℕ → ℕ → Book
entered book a here key = let activity = book.activities a in
    owned (with_activity book a (record activity { stays = (here, key) ∷ activity.stays })) here key
    a

abbrev pub carried_if : Option Message → Book → ℕ → ℕ → Book
carried_if None book number a = book
carried_if (Some message) book number a = carried book number a

-- the book after a move of activity a, whose message, if there is one, has the number
abbrev pub book_after : Book → ℕ → ℕ → Effect → ℕ → Book
book_after book a here (Waits finish) number = book
book_after book a here Works number = counted book a
book_after book a here (Begins key function under) number =
    owned (started (counted book a) function under ((here, key) ∷ [])) here key book.begun
book_after book a here (Spawns message function under) number =
    carried (started (counted book a) function under []) number book.begun
book_after book a here (Shifts message under) number = carried (counted book a) number a
book_after book a here (Opens finish inside) number = counted book a
book_after book a here (Closes finish) number = counted book a
book_after book a here (Ends under back) number = carried_if back (left (counted book a) a) number a

-- the book after a message that carries activity a was taken in
abbrev pub book_with : Book → ℕ → ℕ → ℕ → Message → Book
book_with book a here key (Spawn from to under function graph) = entered book a here key
book_with book a here key (Shift from to waiting under function graph) = entered book a here key
book_with book a here key (Back from to waiting graph) = book

-- ---- finishes: what they govern, and when they may close

-- a finish and those that enclose it
pub data IsWithin (enclosing : Finish → Option Finish) (outer : Finish) : Finish → Type 0 where
  itself : IsWithin enclosing outer outer
  enclosed : (f g : Finish) → enclosing f ≡ Some g → IsWithin enclosing outer g
      → IsWithin enclosing outer f

-- a finish governs an activity that was started under it, or under a finish from which the enclosing ones lead to it
abbrev pub Governs : World → Finish → ℕ → Type 0
Governs w f a = IsWithin w.net.enclosing f (w.book.activities a).under

-- the message begins an activity
pub data IsSpawn : Message → Type 0 where
  spawns : (from to : ℕ) (under : Finish) (function : ℕ) (graph : Snapshot)
      → IsSpawn (Spawn from to under function graph)

-- an activity lives while it has a stay, or the message flies that begins it
pub data Lives (w : World) (a : ℕ) : Type 0 where
  stays : (stay : ℕ × ℕ) (rest : List (ℕ × ℕ)) → a < w.book.begun
      → (w.book.activities a).stays ≡ stay ∷ rest → Lives w a
  flies : (number : ℕ) (message : Message) → a < w.book.begun → w.net.posts number ≡ Flying message
      → IsSpawn message → w.book.carries number ≡ a → Lives w a

-- the message will begin a stay under the finish
abbrev pub IsUnder : Finish → Message → Type 0
IsUnder f (Spawn from to under function graph) = under ≡ f
IsUnder f (Shift from to waiting under function graph) = under ≡ f
IsUnder f (Back from to waiting graph) = ⊥

-- no stay inherited the finish, and no message flies that will begin one under it
pub record IsQuiet (net : Net) (f : Finish) : Type 0 where
  pub stays : (p key : ℕ) (place : places.Place) (stay : Stay) → net.places p ≡ Some place
      → place.stays key ≡ Some stay → stay.inherited ≢ f
  pub posts : (number : ℕ) (message : Message) → net.posts number ≡ Flying message
      → IsUnder f message → ⊥

-- no activity that the finish governs lives
abbrev pub HasEnded : World → Finish → Type 0
HasEnded w f = (a : ℕ) → Governs w f a → Lives w a → ⊥

-- When a finish may close: always, where it is quiet, or where all that it governs has ended. The second is what counting
-- messages can tell; the third is what a finish promises.
pub data Rule : Type 0 where
  Loose Quiet Ideal : Rule

abbrev pub MayClose : Rule → World → Finish → Type 0
MayClose Loose w f = Unit {0}
MayClose Quiet w f = IsQuiet w.net f
MayClose Ideal w f = HasEnded w f

abbrev pub Allows : Rule → World → ℕ → Effect → Type 0
Allows rule w here (Closes number) = MayClose rule w (record { home = here; number = number })
Allows rule w here _ = Unit {0}

-- ---- events and runs

-- the activity with a key at a place makes its move
pub record Steps (rule : Rule) (setting : Setting) (w : World) (here key : ℕ)
    (v : World) : Type 0 where
  pub old : places.Place
  pub new : places.Place
  pub effect : Effect
  pub number : ℕ
  pub place_is : w.net.places here ≡ Some old
  pub moves : Moves setting here old key new effect
  pub allowed : Allows rule w here effect
  pub unused : w.net.posts number ≡ Unused
  pub net_is : v.net ≡ net_after w.net here new effect number
  pub book_is : v.book ≡ book_after w.book (w.book.belongs here key) here effect number

-- the message with a number is taken in
pub record Delivers (setting : Setting) (w : World) (number : ℕ) (v : World) : Type 0 where
  pub message : Message
  pub here : ℕ
  pub key : ℕ
  pub old : places.Place
  pub new : places.Place
  pub flying : w.net.posts number ≡ Flying message
  pub place_is : w.net.places here ≡ Some old
  pub receives : Receives setting here old message key new
  pub net_is : v.net ≡ record {
    places = with_entry w.net.places here (Some new);
    posts = with_entry w.net.posts number Taken;
    enclosing = w.net.enclosing;
  }
  pub book_is : v.book ≡ book_with w.book (w.book.carries number) here key message

-- nothing is there that could move: no such place, no such activity, one that is away, or one that is kept out by another
-- that is inside an atomic region
pub data IsIdle (w : World) : Event → Type 0 where
  no_place : (here key : ℕ) → w.net.places here ≡ None → IsIdle w (Step here key)
  no_stay : (here key : ℕ) (place : places.Place) → w.net.places here ≡ Some place
      → place.stays key ≡ None → IsIdle w (Step here key)
  is_away : (here key : ℕ) (place : places.Place) (stay : Stay) → w.net.places here ≡ Some place
      → place.stays key ≡ Some stay → stay.away ≡ true
      → IsIdle w (Step here key)
  is_kept_out : (here key : ℕ) (place : places.Place) (stay : Stay) → w.net.places here ≡ Some place
      → place.stays key ≡ Some stay
      → (IsFree place.stays key → ⊥) → IsIdle w (Step here key)
  not_flying : (number : ℕ) → ((message : Message) → w.net.posts number ≡ Flying message → ⊥)
      → IsIdle w (Deliver number)

-- what an event does
pub data Happens (rule : Rule) (setting : Setting) (w : World) : Event → World → Type 0 where
  steps : (here key : ℕ) (v : World) → Steps rule setting w here key v
      → Happens rule setting w (Step here key) v
  delivers : (number : ℕ) (v : World) → Delivers setting w number v
      → Happens rule setting w (Deliver number) v
  idle : (event : Event) → IsIdle w event → Happens rule setting w event w

-- an event goes wrong: a move that goes wrong, or a message that doesn't fit the place that it is for
pub data GoesWrong (setting : Setting) (w : World) : Event → Type 0 where
  step : (here key : ℕ) (place : places.Place) → w.net.places here ≡ Some place
      → IsWrong setting here place key → GoesWrong setting w (Step here key)
  delivery : (number : ℕ) (message : Message) (place : places.Place)
      → w.net.posts number ≡ Flying message → w.net.places (receiver message) ≡ Some place
      → IsMisfit setting (receiver message) place message → GoesWrong setting w (Deliver number)
  nowhere : (number : ℕ) (message : Message) → w.net.posts number ≡ Flying message
      → w.net.places (receiver message) ≡ None
      → GoesWrong setting w (Deliver number)

-- Each event in its turn, from the first world to the last, and P holds of each world on the way.
pub data Run (rule : Rule) (setting : Setting) (P : World → Type 0) : World → List Event → World
    → Type 0 where
  done : (w : World) → P w → Run rule setting P w [] w
  then : (u v w : World) (event : Event) (events : List Event) → P u
      → (GoesWrong setting u event → ⊥) → Happens rule setting u event v
      → Run rule setting P v events w → Run rule setting P u (event ∷ events) w

-- no activity has made more steps than the bound of its first function
abbrev pub WithinBounds : List ℕ → World → Type 0
WithinBounds bounds w = (a bound : ℕ) → a < w.book.begun
    → slice_get bounds (w.book.activities a).function ≡ Some bound
    → (w.book.activities a).steps ≤ bound

-- ---- the opening

abbrev pub empty_place : ℕ → places.Place
empty_place opened = record {
  cells = λ r. None;
  exports = [];
  stays = λ k. None;
  opened = opened;
  lines = [];
}

-- place 0 with one activity, that of the entry function under the root finish
abbrev pub first_place : Setting → ℕ → places.Place
first_place setting key = let place = empty_place 1 in
    record place {
      stays = with_entry place.stays key
          (Some (new_stay setting.program.entry [] root None));
    }

abbrev pub opening_places : Setting → ℕ → ℕ → Option places.Place
opening_places setting key p = if nat_lt p setting.places then Some
    (if p == 0 then first_place setting key else empty_place 0) else None

-- the world at the beginning, main's key being the given one
abbrev pub opening : Setting → ℕ → World
opening setting key = record {
  net = record { places = opening_places setting key; posts = λ n. Unused; enclosing = λ f. None };
  book = record {
    begun = 1;
    activities = λ a. record {
      function = setting.program.entry;
      under = root;
      steps = 0;
      stays = (0, key) ∷ [];
    };
    belongs = λ p k. 0;
    carries = λ n. 0;
  };
}

-- no activity lives
abbrev pub IsOver : World → Type 0
IsOver w = (a : ℕ) → Lives w a → ⊥
