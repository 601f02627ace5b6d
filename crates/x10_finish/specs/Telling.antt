-- What the counts of a finish tell of the machine's net: how many stays inherited it at each place, and how many messages
-- fly that will begin one under it.
use Rattle.std.specs.Prelude.{◌≡◌, ℕ, ◌+◌, ◌<◌, ◌⊎◌, List, [], ◌∷◌, Option, Some, None, if◌then◌else◌}
use Rattle.x10_model.specs.Maps.{with_entry}
use Rattle.x10_model.specs.Places as machine
use Rattle.x10_model.specs.declared.finish.Finish.{Finish}
use Rattle.x10_model.specs.Places.{Setting, root, Stay, Message, Spawn, Shift, Back, receiver, Effect, Waits, Works, Begins, Spawns, Shifts}
use Rattle.x10_model.specs.Places.{Opens, Closes, Ends}
use Rattle.x10_model.specs.Moves.{Moves}
use Rattle.x10_model.specs.Deliveries.{Receives}
use Rattle.x10_model.specs.Totals.{Happening, Did, Took, totals_after, first_totals}
use Rattle.x10_model.specs.Worlds.{same_finish, Post, Unused, Flying, Taken, Net, sent, net_after, IsQuiet, opening}
use Rattle.x10_finish.specs.Detection as detection
use Rattle.x10_finish.specs.Detection.{Counting, start, after, AreAble, after_all, IsCounted, IsDone}
use Rattle.x10_finish.specs.Nesting.{stays_in, Stays, stays_of}

-- ---- how many numbers a property has

abbrev pub Among : ℕ → List ℕ → Type 0
Among k [] = ⊥
Among k (x ∷ xs) = (x ≡ k) ⊎ Among k xs

abbrev pub AreOnce : List ℕ → Type 0
AreOnce [] = Unit {0}
AreOnce (x ∷ xs) = (Among x xs → ⊥) × AreOnce xs

abbrev pub size_of : List ℕ → ℕ
size_of [] = 0
size_of (x ∷ xs) = size_of xs + 1

-- exactly so many: a list of them all, each once
pub record HowMany (P : ℕ → Type 0) (n : ℕ) : Type 0 where
  pub keys : List ℕ
  pub size : size_of keys ≡ n
  pub once : AreOnce keys
  pub all : (k : ℕ) → P k → Among k keys
  pub only : (k : ℕ) → Among k keys → P k

-- ---- what is counted

-- the stay at a place with a key inherited the finish
abbrev pub Inherits : Stays → Finish → ℕ → ℕ → Type 0
Inherits stays f p k = (s : Stay) × (stays p k ≡ Some s) × (s.inherited ≡ f)

-- the message goes from a place to another, and will begin a stay under the finish
abbrev pub IsBetween : Finish → ℕ → ℕ → Message → Type 0
IsBetween f p q (Spawn from to under function graph) = (from ≡ p) × (to ≡ q) × (under ≡ f)
IsBetween f p q (Shift from to waiting under function graph) = (from ≡ p) × (to ≡ q) × (under ≡ f)
IsBetween f p q (Back from to waiting graph) = ⊥

abbrev pub FliesBetween : (ℕ → Post) → Finish → ℕ → ℕ → ℕ → Type 0
FliesBetween posts f p q m = (message : Message) × (posts m ≡ Flying message)
    × IsBetween f p q message

-- live and flying are what is there
pub record Tells (stays : Stays) (posts : ℕ → Post) (f : Finish) (s : Counting) : Type 0 where
  pub live : (p : ℕ) → HowMany (Inherits stays f p) (s.totals p).live
  pub flying : (p q : ℕ) → HowMany (FliesBetween posts f p q) (s.flying p q)

-- stays are at places, and what flies under a finish goes from place to place
pub record IsInRange (places : ℕ) (stays : Stays) (posts : ℕ → Post) : Type 0 where
  pub stays_at : (p k : ℕ) (s : Stay) → stays p k ≡ Some s → p < places
  pub posts_at : (m p q : ℕ) (message : Message) (f : Finish) → posts m ≡ Flying message
      → IsBetween f p q message → (p < places) × (q < places)

-- where the counts that tell of a net let the home end its finish, it is quiet
abbrev pub DoneIsQuiet : Type 0
DoneIsQuiet = (places : ℕ) (net : Net) (f : Finish) (s : Counting) → f.home < places
    → IsInRange places (stays_of net) net.posts
    → Tells (stays_of net) net.posts f s → IsCounted places f.home s → IsDone places f.home s
    → IsQuiet net f

-- and where it is quiet and no report flies, they let it
abbrev pub QuietIsDone : Type 0
QuietIsDone = (places : ℕ) (net : Net) (f : Finish) (s : Counting) → f.home < places
    → Tells (stays_of net) net.posts f s → IsCounted places f.home s
    → IsQuiet net f → ((n : ℕ) → s.told n ≡ None) → IsDone places f.home s

-- ---- what the machine's events are for one finish

-- of a move at a place; a report that it sends has a number
abbrev pub counted_as : Finish → ℕ → ℕ → Effect → List detection.Event
counted_as f here report (Begins key function under) =
    if same_finish f under then detection.Begins here ∷ [] else []
counted_as f here report (Spawns message function under) =
    if same_finish f under then detection.PutsOut here (receiver message) ∷ [] else []
counted_as f here report (Shifts message under) =
    if same_finish f under then detection.PutsOut here (receiver message) ∷ [] else []
counted_as f here report (Ends under back) =
    if same_finish f under then detection.Ends here report ∷ [] else []
counted_as f here report _ = []

-- of a message that is taken in
abbrev pub counted_in : Finish → Message → List detection.Event
counted_in f (Spawn from to under function graph) =
    if same_finish f under then detection.Arrives from to ∷ [] else []
counted_in f (Shift from to waiting under function graph) =
    if same_finish f under then detection.Arrives from to ∷ [] else []
counted_in f (Back from to waiting graph) = []

-- what an effect sends goes to a place
abbrev pub GoesTo : ℕ → Option Message → Type 0
GoesTo places None = Unit {0}
GoesTo places (Some message) = receiver message < places

-- the events can happen, the counts afterwards tell of the net afterwards, and the totals change as a place's do
pub record FollowsOn (places : ℕ) (f : Finish) (s : Counting) (events : List detection.Event)
    (here : ℕ) (happening : Happening)
    (afterwards : Net) : Type 0 where
  pub able : AreAble places f.home s events
  pub tells : Tells (stays_of afterwards) afterwards.posts f (after_all f.home s events)
  pub here_is : (after_all f.home s events).totals here ≡ totals_after f (s.totals here) happening
  pub others : (p : ℕ) → (p ≡ here → ⊥) → (after_all f.home s events).totals p ≡ s.totals p

-- a move of the machine is such events for each finish
abbrev pub MovesAreCounted : Type 0
MovesAreCounted = (setting : Setting) (places : ℕ) (net : Net) (f : Finish) (s : Counting)
    (here key number report : ℕ) (old new : machine.Place)
    (effect : Effect) → Tells (stays_of net) net.posts f s → net.places here ≡ Some old
    → Moves setting here old key new effect → net.posts number ≡ Unused → here < places
    → GoesTo places (sent effect) → s.told report ≡ None
    → FollowsOn places f s (counted_as f here report effect) here (Did effect)
    (net_after net here new effect number)

-- and so is a delivery
abbrev pub DeliveriesAreCounted : Type 0
DeliveriesAreCounted = (setting : Setting) (places : ℕ) (net : Net) (f : Finish) (s : Counting)
    (here key number : ℕ) (old new : machine.Place)
    (message : Message) → Tells (stays_of net) net.posts f s
    → IsInRange places (stays_of net) net.posts → net.places here ≡ Some old
    → net.posts number ≡ Flying message → Receives setting here old message key new
    → FollowsOn places f s (counted_in f message) here (Took message)
    (record {
      places = with_entry net.places here (Some new);
      posts = with_entry net.posts number Taken;
      enclosing = net.enclosing;
    })

-- at the opening main's stay lives under the root at place 0
abbrev pub counting_at_opening : Finish → Counting
counting_at_opening f = if same_finish f root then after f.home start
    (detection.Begins 0) else start

abbrev pub OpeningIsCounted : Type 0
OpeningIsCounted = (setting : Setting) (key : ℕ) (f : Finish) → 0 < setting.places
    → Tells (stays_of (opening setting key).net)
    (opening setting key).net.posts f (counting_at_opening f)
    × IsCounted setting.places f.home (counting_at_opening f)
    × ((p : ℕ) → (counting_at_opening f).totals p ≡ first_totals p f)

-- ---- all is in range in every world

abbrev pub OpeningIsInRange : Type 0
OpeningIsInRange = (setting : Setting) (key : ℕ) → 0 < setting.places
    → IsInRange setting.places (stays_of (opening setting key).net) (opening setting key).net.posts

abbrev pub MovesStayInRange : Type 0
MovesStayInRange = (setting : Setting) (places : ℕ) (net : Net) (here key number : ℕ)
    (old new : machine.Place) (effect : Effect)
    → IsInRange places (stays_of net) net.posts → Moves setting here old key new effect
    → here < places → GoesTo places (sent effect)
    → IsInRange places (stays_of (net_after net here new effect number))
    (net_after net here new effect number).posts

abbrev pub DeliveriesStayInRange : Type 0
DeliveriesStayInRange = (places : ℕ) (net : Net) (here number : ℕ) (new : machine.Place)
    → IsInRange places (stays_of net) net.posts → here < places
    → IsInRange places (λ p. stays_in (with_entry net.places here (Some new) p))
    (with_entry net.posts number Taken)
