-- What the reports of a run tell that failed.
use Rattle.std.specs.Prelude.{◌≡◌, ◌≢◌, ◌⊎◌, ℕ, ◌<◌, ◌==◌, List, [], ◌++◌, length, map, Some, slice_get, if◌then◌else◌}
use Rattle.std.specs.List.{flat_map}
use Rattle.x10_kinds.specs.declared.stop.Stop.TheVariants as stop
use Rattle.x10_model.specs.Places.{Line}
use Rattle.x10_place.specs.StandsFor.{line_as}
use Rattle.x10_hall.specs.declared.turn.Turn.{Turn}
use Rattle.x10_world.specs.Endings.{lines_in}
use Rattle.x10_workers.specs.declared.halt.Halt.{Halt}
use Rattle.x10_workers.specs.declared.halt.Halt.TheVariants as halt
use Rattle.x10_workers.specs.declared.halt.WorkFault.{WorkFault}
use Rattle.x10_workers.specs.declared.jobs.Failure.{Failure}
use Rattle.x10_workers.specs.declared.jobs.Failure.TheVariants as failure
use Rattle.x10_workers.specs.declared.report.RunReport.{RunReport}
use Rattle.x10_workers.specs.declared.halt.WorkFault.TheVariants as fault

-- the lines that a turn printed, if it is one of the place
abbrev pub lines_in_turn : ℕ → Turn → List Line
lines_in_turn place t = if t.place == place then map line_as t.lines.items else []

-- the lines of a place in a log, turn after turn
abbrev pub lines_of : ℕ → List Turn → List Line
lines_of place log = flat_map (lines_in_turn place) log

-- for each of so many places its lines in a log
pub record AreLinesBy (count : ℕ) (log : List Turn) (outputs : List (List Line)) : Type 0 where
  pub count_is : length outputs ≡ count
  pub each : (place : ℕ) → place < count → slice_get outputs place ≡ Some (lines_of place log)

-- the lines of one turn more
pub record AddsTurn (t : Turn) (old new : List (List Line)) : Type 0 where
  pub count : length new ≡ length old
  pub each : (place : ℕ) (lines : List Line) → slice_get old place ≡ Some lines
      → slice_get new place ≡ Some (lines ++ lines_in_turn place t)

-- what failed is no worker
abbrev pub IsOfRun : Failure → Type 0
IsOfRun (failure.Worker place why) = ⊥
IsOfRun f = Unit {0}

-- The fault that is told of a worker that stopped; or memory for the report was refused. Where the log doesn't lead to a limit of
-- the place, or the place refused a frame, the log differs from what the worker did.
abbrev pub TellsHalt : ℕ → Halt → WorkFault → Type 0
TellsHalt place (halt.Stop why) told = (told ≡ fault.Memory)
    ⊎ (((report : RunReport) × (told ≡ fault.Stop place why report))
    ⊎ ((why ≢ stop.Memory) × ((number : ℕ) × (told ≡ fault.Differs number))))
TellsHalt place halt.Turns told = (told ≡ fault.Memory) ⊎ ((report : RunReport)
    × ((told ≡ fault.Turns report) ⊎ (told ≡ fault.Differs (length report.log.items))))
TellsHalt place (halt.Refused why) told = (told ≡ fault.Memory) ⊎ ((report : RunReport)
    × (told ≡ fault.Differs (length report.log.items)))
TellsHalt place halt.Ended told = (told ≡ fault.Memory) ⊎ (told ≡ fault.Thread)

-- the fault that is told of what failed
abbrev pub TellsFailure : Failure → WorkFault → Type 0
TellsFailure failure.Memory told = told ≡ fault.Memory
TellsFailure failure.Thread told = told ≡ fault.Thread
TellsFailure (failure.Worker place halted) told = TellsHalt place halted.why told

-- what a fault tells of a run: its report has the lines of its log; at the limit of turns the log has so many
abbrev pub IsTold : ℕ → ℕ → WorkFault → Type 0
IsTold places turns (fault.Stop place why report) =
    AreLinesBy places report.log.items (lines_in report.outputs.items)
IsTold places turns (fault.Turns report) =
    AreLinesBy places report.log.items (lines_in report.outputs.items)
    × (length report.log.items ≡ turns)
IsTold places turns why = Unit {0}
