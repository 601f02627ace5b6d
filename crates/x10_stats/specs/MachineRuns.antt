-- Runs of the machine beside the events that are counted.
use Rattle.std.specs.Prelude.{◌≡◌, ℕ, ◌<◌, ◌+◌, ◌^◌, Bool, List, ◌++◌, length}
use Rattle.x10_model.specs.declared.event.Event.{Event}
use Rattle.x10_model.specs.Worlds.{World, Happens, Ideal, opening}
use Rattle.x10_verify.specs.Certified.{Certified}
use Rattle.x10_world.specs.Opening.{IsOpenedWorld}
use Rattle.x10_world.specs.StandsForWorld.{WorldState, StandsForWorld, setting_of_world}
use Rattle.x10_stats.specs.Counts.{Counted, CountsState, counts_at_first}
use Rattle.x10_stats.specs.Counts.Counted.{begins, goes_on}
use Rattle.x10_stats.specs.Entries.{AreEntries, Entry, IsTallyOf, entries_of, first_entries}

-- An event of the machine beside one that leads from a state to another: it happens in a world that the first state stands for,
-- and leads to one that the second stands for. The entries are those before it and those that it adds.
pub record GoesBeside (x : WorldState) (u : World) (event : Event) (y : WorldState) (v : World)
    (old new : List Entry) : Type 0 where
  pub before : StandsForWorld x u
  pub happens : Happens Ideal (setting_of_world x) u event v
  pub after : StandsForWorld y v
  pub entries : new ≡ old ++ entries_of Ideal (setting_of_world x) u event v happens

-- A run of the machine beside the events that are counted, from a world and its entries to a last world and its entries.
abbrev pub RunsBeside : (first : World) (entries : List Entry) (s : CountsState) (x : WorldState)
    (events : List Event) (t : CountsState) (y : WorldState) → Counted s x events t y
    → (last : World) (added : List Entry) → Type 0
RunsBeside first entries s x _ _ _ begins last added = (last ≡ first) × (added ≡ entries)
RunsBeside first entries s x _ _ _ (goes_on y z events t event did before seen done makes) last
    added = (u : World) × (old : List Entry)
    × RunsBeside first entries s x events t y before u old × GoesBeside y u event z last old added

-- such a run from the machine's opening, where main has key 0
abbrev pub RunsFromOpening : (c : Certified) (kept : Bool) (x : WorldState) (events : List Event)
    (s : CountsState) (y : WorldState) → Counted (counts_at_first c kept x) x events s y → World
    → List Entry → Type 0
RunsFromOpening c kept x events s y counts last entries =
    RunsBeside (opening (setting_of_world x) 0) first_entries (counts_at_first c kept x) x events s
    y counts last entries

-- beside all that is counted from the opening on there is such a run
abbrev pub MachineRunsBeside : Type 0
MachineRunsBeside = (c : Certified) (count : ℕ) (kept : Bool) (x y : WorldState)
    (events : List Event) (s : CountsState)
    (counts : Counted (counts_at_first c kept x) x events s y) → IsOpenedWorld c count x
    → (w : World) × (entries : List Entry) × RunsFromOpening c kept x events s y counts w entries

-- and whichever it is, what is counted of activities is what the machine's book says of them in the end
abbrev pub BookIsCounted : Type 0
BookIsCounted = (c : Certified) (count : ℕ) (kept : Bool) (x y : WorldState) (events : List Event)
    (s : CountsState) (counts : Counted (counts_at_first c kept x) x events s y)
    → IsOpenedWorld c count x → length events + 1 < 2 ^ 64
    → (w : World) (entries : List Entry) → RunsFromOpening c kept x events s y counts w entries
    → AreEntries w.net.posts w.book entries × IsTallyOf w.book entries s.tally
