-- What a run leaves whose events are counted.
use Rattle.std.specs.Prelude.{◌≡◌, ◌⊎◌, Bool, ℕ, List, Option, Some, None}
use Rattle.std.specs.Io.KnownBytes.{Appends, Keeps}
use Rattle.x10_verify.specs.Certified.{Certified}
use Rattle.x10_world.specs.declared.rounds.Unfinished.{Unfinished}
use Rattle.x10_world.specs.Endings.{IsImageOf, lines_at}
use Rattle.x10_world.specs.Opening.{IsOpenedWorld}
use Rattle.x10_world.specs.Rounds.{NoneIsLeft, RunsTo}
use Rattle.x10_world.specs.StandsForWorld.{WorldState}
use Rattle.x10_stats.specs.Counts.{CountsState, HasCounted, IsCut, counts_at_first}
use Rattle.x10_stats.specs.Lines.{stats_lines}
use Rattle.x10_cli.specs.declared.fault.Fault.{Fault}
use Rattle.x10_cli.specs.declared.fault.Fault.TheVariants as fault
use Rattle.x10_cli.specs.Answers.{of_halt, places_for}
use Rattle.x10_cli.specs.Lines.{all_lines}
use Rattle.x10_cli.specs.Telling.{SaysFault}

-- how a run went from its first state: what was counted, and its last state
abbrev pub Course : Type 1
Course = WorldState → CountsState → WorldState → Type 0

-- at most so many events of a module were made and counted, each activity was kept or none, and none lives
abbrev pub CountsAll : ℕ → (kept : Bool) → Certified → Course
CountsAll limit kept c x s y = HasCounted (counts_at_first c kept x) x limit s y × NoneIsLeft y

-- the fault tells why no more of them were made
abbrev pub CountsSome : ℕ → (kept : Bool) → Fault → Certified → Course
CountsSome limit kept f c x s y = (why : Unfinished) × (f ≡ of_halt why)
    × IsCut (counts_at_first c kept x) x limit s y why

-- a run of a module from a state of a world went so, the lines of its places were appended, and the text tells what was counted,
-- beside the bounds of its functions, and what is in the heaps of its last state
pub record PrintsCounts (c : Certified) (first : WorldState) (Went : Course) (json : Bool)
    (text old new : Option (List ℕ)) : Type 0 where
  pub last : WorldState
  pub counts : CountsState
  pub runs : RunsTo first last
  pub went : Went first counts last
  pub printed : Appends old new (all_lines json 0 (lines_at last.places))
  pub told : text ≡ Some (stats_lines c counts last.places)

-- a run of the module from its beginning
abbrev pub LeavesCounts : Option ℕ → List ℕ → (Certified → Course) → Bool → Option (List ℕ)
    → Option (List ℕ) → Option (List ℕ) → Type 0
LeavesCounts asked bytes Went json text old new = (c : Certified) × (first : WorldState)
    × IsImageOf bytes c × IsOpenedWorld c (places_for asked c) first
    × PrintsCounts c first (Went c) json text old new

-- what a run that stopped leaves: nothing, where memory is lacking; or the lines and the counts of its events until then
abbrev pub LeavesSomeCounts : Option ℕ → List ℕ → ℕ → Bool → Fault → Bool → Option (List ℕ)
    → Option (List ℕ) → Option (List ℕ) → Type 0
LeavesSomeCounts asked bytes limit kept f json text old new =
    ((f ≡ fault.Memory) × (text ≡ None) × Keeps old new)
    ⊎ LeavesCounts asked bytes (CountsSome limit kept f) json text old new

-- the same, with the line of the fault, and perhaps what explains it
abbrev pub LeavesStoppedCounts : Option ℕ → List ℕ → ℕ → (kept json explain : Bool)
    → Option (List ℕ) → (old new told_old told_new : Option (List ℕ)) → Type 0
LeavesStoppedCounts asked bytes limit kept json explain text old new told_old told_new = (f : Fault)
    × LeavesSomeCounts asked bytes limit kept f json text old new
    × SaysFault explain f told_old told_new
