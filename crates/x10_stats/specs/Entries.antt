-- Which activities of the machine's book are counted, in what order, and what is counted of them.
use Rattle.std.specs.Prelude.{◌≡◌, ℕ, ◌+◌, ◌<◌, ◌==◌, max, true, List, [], ◌∷◌, Some, length, slice_get, if◌then◌else◌}
use Rattle.x10_model.specs.declared.event.Event.{Event}
use Rattle.x10_model.specs.Places.{Setting, Message, Spawn, Effect, Begins}
use Rattle.x10_model.specs.Worlds as machine
use Rattle.x10_model.specs.Worlds.{Post, Flying, Book, World, IsSpawn, Rule, Happens, steps, delivers, idle}
use Rattle.x10_finish.specs.Telling.{HowMany}
use Rattle.x10_stats.specs.Tallies.{TallyState}
use Rattle.x10_stats.specs.declared.activity.Activity.{Activity}
use Rattle.x10_stats.specs.declared.tally.Begun.{Begun}

-- An activity whose first stay has begun, by its number in the machine's book, and the place where that stay began. An entry's
-- position among the entries is the number under which its activity is counted.
pub record Entry : Type 0 where
  pub activity : ℕ
  pub place : ℕ

-- at the opening: main
abbrev pub first_entries : List Entry
first_entries = record { activity = 0; place = 0 } ∷ []

-- what a move adds: the activity that it begins at its own place
abbrev pub entries_by : Book → ℕ → Effect → List Entry
entries_by book here (Begins key function under) =
    record { activity = book.begun; place = here } ∷ []
entries_by book here _ = []

-- what a message that carries an activity adds where it is taken in: the activity, if it begins it
abbrev pub entries_with : (activity here : ℕ) → Message → List Entry
entries_with a here (Spawn from to under function graph) = record { activity = a; place = here } ∷ []
entries_with a here _ = []

-- what an event adds
abbrev pub entries_of : (rule : Rule) (setting : Setting) (w : World) (event : Event) (v : World)
    → Happens rule setting w event v → List Entry
entries_of rule setting w event v (steps here key u s) = entries_by w.book here s.effect
entries_of rule setting w event v (delivers number u d) =
    entries_with (w.book.carries number) d.here d.message
entries_of rule setting w event v (idle e i) = []

-- ---- what is counted

-- what the book says of an activity, as it is counted under a number and a place
abbrev pub told_as : machine.Activity → ℕ → ℕ → Activity
told_as a number place = record {
  number = number;
  place = place;
  function = a.function;
  steps = a.steps;
}

abbrev pub told_of : Book → ℕ → Entry → Activity
told_of book number e = told_as (book.activities e.activity) number e.place

-- one for an activity that began with a function
abbrev pub one_of : machine.Activity → ℕ → ℕ
one_of a f = if a.function == f then 1 else 0

-- how many of the entries began with a function
abbrev pub how_many : Book → ℕ → List Entry → ℕ
how_many book f [] = 0
how_many book f (e ∷ es) = one_of (book.activities e.activity) f + how_many book f es

-- the steps of an activity that began with a function
abbrev pub steps_of : machine.Activity → ℕ → ℕ
steps_of a f = if a.function == f then a.steps else 0

-- the most steps of one of the entries that began with a function
abbrev pub most_steps : Book → ℕ → List Entry → ℕ
most_steps book f [] = 0
most_steps book f (e ∷ es) = max (steps_of (book.activities e.activity) f) (most_steps book f es)

abbrev pub IsToldOf : Book → List Entry → ℕ → Begun → Type 0
IsToldOf book entries f g = (g.activities ≡ how_many book f entries)
    × (g.most ≡ most_steps book f entries)

-- What is counted is what the book says: as many activities as there are entries, of each function as many as began with it and
-- their most steps, and where all activities are kept, each with its function and its steps.
pub record IsTallyOf (book : Book) (entries : List Entry) (t : TallyState) : Type 0 where
  pub next : t.next ≡ length entries
  pub functions : (f : ℕ) (g : Begun) → slice_get t.functions f ≡ Some g
      → IsToldOf book entries f g
  pub all : t.kept ≡ true → (n : ℕ) (e : Entry) → slice_get entries n ≡ Some e
      → slice_get t.all n ≡ Some (told_of book n e)

-- a message with the number flies that will begin an activity
abbrev pub IsSpawnFlying : (ℕ → Post) → ℕ → Type 0
IsSpawnFlying posts number = (message : Message) × (posts number ≡ Flying message) × IsSpawn message

-- Each entry is of another activity of the book. They are all activities but those whose Spawn is in flight.
pub record AreEntries (posts : ℕ → Post) (book : Book) (entries : List Entry) : Type 0 where
  pub begun : (n : ℕ) (e : Entry) → slice_get entries n ≡ Some e → e.activity < book.begun
  pub once : (n m : ℕ) (e f : Entry) → slice_get entries n ≡ Some e → slice_get entries m ≡ Some f
      → e.activity ≡ f.activity → n ≡ m
  pub flying : ℕ
  pub spawns : HowMany (IsSpawnFlying posts) flying
  pub number : length entries + flying ≡ book.begun
