-- What the program's answers say of a file, of a module and of a run.
use Rattle.std.specs.List.{starts_with}
use Rattle.std.specs.Prelude.{◌≡◌, ◌⊎◌, Bool, true, false, ◌==◌, ℕ, List, [], ◌∷◌, ◌++◌, length, Option, Some, None, Ok, Err, slice_get, codes, decimal}
use Rattle.std.specs.Io.KnownBytes.{Appends, Keeps}
use Rattle.x10_model.specs.Modules.{Module, FitsImage}
use Rattle.x10_model.specs.Images.{spelling}
use Rattle.x10_model.specs.declared.event.Event.{Event}
use Rattle.x10_model.specs.Structure.{bounds_of}
use Rattle.x10_model.specs.Places as machine
use Rattle.x10_model.specs.Worlds.{World, Ideal, Run, WithinBounds, IsOver, opening}
use Rattle.x10_asm.specs.Comments.{said}
use Rattle.x10_asm.specs.Listing.{listing}
use Rattle.x10_asm.specs.Reading.{module_of}
use Rattle.x10_explain.specs.Verdicts as verdict
use Rattle.x10_explain.specs.declared.check.CheckFault.{CheckFault}
use Rattle.x10_explain.specs.declared.check.CheckFault.TheVariants as refusal
use Rattle.x10_image.specs.Faults as images
use Rattle.x10_image.specs.Faults.{IsFault}
use Rattle.x10_model.specs.ReadingImages.{module_at}
use Rattle.x10_bounds.specs.Faults as bounds
use Rattle.x10_bounds.specs.Faults.{IsFaultOrMemory}
use Rattle.x10_verify.specs.Certified.{Certified}
use Rattle.x10_verify.specs.Faults.{HasBounds, Refutes}
use Rattle.x10_hall.specs.declared.turn.Turn.{Turn}
use Rattle.x10_workers.specs.Reports.{AreLinesBy}
use Rattle.x10_workers.specs.declared.halt.WorkFault.{WorkFault}
use Rattle.x10_workers.specs.declared.halt.WorkFault.TheVariants as work
use Rattle.x10_world.specs.Endings.{IsImageOf, AreLinesOf, lines_in}
use Rattle.x10_world.specs.Opening.{IsForbidden}
use Rattle.x10_world.specs.declared.rounds.Unfinished.{Unfinished}
use Rattle.x10_world.specs.declared.rounds.Unfinished.TheVariants as halt
use Rattle.x10_findings.specs.Findings.{FindingsState}
use Rattle.x10_frame.specs.declared.fault.FrameFault.{FrameFault}
use Rattle.x10_frame.specs.declared.fault.FrameFault.TheVariants as frame
use Rattle.x10_cli.specs.Events.{HasShown, HasShownSome}
use Rattle.x10_cli.specs.Lines.{bound_lines, all_lines}
use Rattle.x10_cli.specs.Runs.{FoundIn, findings_text}
use Rattle.x10_cli.specs.Frames.{IsFrame, TellsFrame, IsFrameFault}
use Rattle.x10_kinds.specs.declared.stop.Stop.{Stop}
use Rattle.x10_kinds.specs.declared.stop.Stop.TheVariants as stop
use Rattle.x10_image.specs.declared.fault.ImageFault.{ImageFault}
use Rattle.x10_image.specs.declared.fault.ImageFault.TheVariants as image
use Rattle.x10_asm.specs.declared.fault.AsmCause.{AsmCause}
use Rattle.x10_asm.specs.declared.fault.AsmCause.TheVariants as asm
use Rattle.x10_asm.specs.declared.fault.AsmFault.{AsmFault}
use Rattle.x10_bounds.specs.declared.fault.BoundCause.{BoundCause}
use Rattle.x10_bounds.specs.declared.fault.BoundCause.TheVariants as bound
use Rattle.x10_bounds.specs.declared.fault.BoundFault.{BoundFault}
use Rattle.x10_verify.specs.declared.fault.VerifyCause.{VerifyCause}
use Rattle.x10_verify.specs.declared.fault.VerifyCause.TheVariants as verify
use Rattle.x10_verify.specs.declared.fault.VerifyFault.{VerifyFault}
use Rattle.x10_world.specs.declared.fault.OpenFault.{OpenFault}
use Rattle.x10_world.specs.declared.fault.OpenFault.TheVariants as opened
use Rattle.x10_workers.specs.declared.fault.AuditFault.{AuditFault}
use Rattle.x10_workers.specs.declared.fault.AuditFault.TheVariants as audit
use Rattle.x10_log.specs.declared.fault.LogCause.{LogCause}
use Rattle.x10_log.specs.declared.fault.LogCause.TheVariants as log
use Rattle.x10_log.specs.declared.fault.LogFault.{LogFault}
use Rattle.x10_task.specs.declared.task.Verb.{Verb}
use Rattle.x10_task.specs.declared.task.Verb.TheVariants as verb
use Rattle.x10_task.specs.declared.task.Window.{Window}
use Rattle.x10_cli.specs.declared.fault.Fault.{Fault}
use Rattle.x10_cli.specs.declared.fault.Fault.TheVariants as fault

-- the bytes are the image of a module that the verifier accepts
abbrev pub IsVerifiedImage : List ℕ → Type 0
IsVerifiedImage bytes = (c : Certified) × IsImageOf bytes c

-- the bytes are the module's image
pub record IsImage (bytes : List ℕ) (m : Module) : Type 0 where
  pub fits : FitsImage m
  pub spelled : bytes ≡ spelling m

-- how many places are asked for; left out, the module's least number
abbrev pub places_for : Option ℕ → Certified → ℕ
places_for None c = c.program.least_places
places_for (Some places) c = places

-- whether a file is taken as an image: by its first four bytes, "X10P"
abbrev pub begins_as_image : List ℕ → Bool
begins_as_image bytes = starts_with (λ x y. x == y) bytes (codes "X10P")

-- why a file isn't one of a verified module
abbrev pub RefusesFile : Bool → List ℕ → CheckFault → Type 0
RefusesFile true bytes r = verdict.RefusesImage bytes r
RefusesFile false bytes r = verdict.RefusesText bytes r

abbrev pub is_good_file : Bool → List ℕ → Type 0
is_good_file true bytes = verdict.IsVerifiedImage bytes
is_good_file false bytes = verdict.IsVerifiedText bytes

-- the file is the image of a verified module, or a text that spells one
abbrev pub IsChecked : List ℕ → Type 0
IsChecked bytes = is_good_file (begins_as_image bytes) bytes

-- The file's bytes, and of a run and a frame the number of places, are such that the command can be done. An audit can't with one file
-- alone: it has a log too.
abbrev pub CanBeDone : Verb → Option ℕ → List ℕ → Type 0
CanBeDone verb.Asm places bytes = (m : Module) × (module_of bytes ≡ Ok m)
CanBeDone verb.List places bytes = (m : Module) × IsImage bytes m
CanBeDone verb.ListVerbose places bytes = (m : Module) × IsImage bytes m
CanBeDone verb.Check places bytes = IsChecked bytes
CanBeDone verb.Verify places bytes = IsVerifiedImage bytes
CanBeDone verb.Bounds places bytes = (m : Module) × IsImage bytes m × HasBounds m
CanBeDone verb.Run places bytes = (c : Certified) × IsImageOf bytes c
    × (IsForbidden c (places_for places c) → ⊥)
CanBeDone verb.Runs places bytes = (c : Certified) × IsImageOf bytes c
    × (IsForbidden c (places_for places c) → ⊥)
CanBeDone verb.Trace places bytes = (c : Certified) × IsImageOf bytes c
    × (IsForbidden c (places_for places c) → ⊥)
CanBeDone verb.TraceVerbose places bytes = (c : Certified) × IsImageOf bytes c
    × (IsForbidden c (places_for places c) → ⊥)
CanBeDone verb.Draw places bytes = (c : Certified) × IsImageOf bytes c
    × (IsForbidden c (places_for places c) → ⊥)
CanBeDone verb.DrawPage places bytes = (c : Certified) × IsImageOf bytes c
    × (IsForbidden c (places_for places c) → ⊥)
CanBeDone verb.Audit places bytes = ⊥
CanBeDone verb.Frame places bytes = IsFrame places bytes
CanBeDone verb.Explain places bytes = Unit {0}

-- how many functions a verified module has, and the bound of its entry function
abbrev pub verdict_line : ℕ → ℕ → List ℕ
verdict_line functions bound = codes "verified "
    ++ (decimal functions ++ (codes " functions, entry bound " ++ (decimal bound ++ 10 ∷ [])))

-- the lines of a run of the module that has ended: from the machine's opening at so many places, with no event that goes
-- wrong and no activity that takes more steps than its bound, to a world in which no activity lives
pub record HasRun (c : Certified) (places : ℕ) (outputs : List (List machine.Line)) : Type 0 where
  pub events : List Event
  pub last : World
  pub run : Run Ideal (record { program = c.program; places = places }) (WithinBounds c.bounds)
      (opening (record { program = c.program; places = places }) 0) events last
  pub over : IsOver last
  pub count : length outputs ≡ places
  pub lines : AreLinesOf outputs last

-- what so many runs of the module printed was appended
abbrev pub PrintsRuns : Option ℕ → ℕ → ℕ → List ℕ → Option (List ℕ) → Option (List ℕ) → Type 0
PrintsRuns asked limit runs bytes old new =
    (c : Certified) × (s : FindingsState) × IsImageOf bytes c
    × FoundIn c (places_for asked c) limit runs s × Appends old new (findings_text runs s)

-- what a command shows of a run of the module at as many places as were asked for, of the events that a window has, was appended
abbrev pub PrintsShown : Verb → Window → Option ℕ → List ℕ → Option (List ℕ) → Option (List ℕ) → Type 0
PrintsShown v w asked bytes old new = (c : Certified) × IsImageOf bytes c
    × HasShown v w c (places_for asked c) old new

-- the same, where a command shows a run's events
abbrev pub ShowsAsked : Verb → Window → Option ℕ → List ℕ → Option (List ℕ) → Option (List ℕ) → Type 0
ShowsAsked verb.Trace w asked bytes old new = PrintsShown verb.Trace w asked bytes old new
ShowsAsked verb.TraceVerbose w asked bytes old new = PrintsShown verb.TraceVerbose w asked bytes old new
ShowsAsked verb.Draw w asked bytes old new = PrintsShown verb.Draw w asked bytes old new
ShowsAsked verb.DrawPage w asked bytes old new = PrintsShown verb.DrawPage w asked bytes old new
ShowsAsked _ w asked bytes old new = Unit {0}

-- the canonical listing of a module; of what JSON has of it nothing is said
abbrev pub IsListing : Bool → Module → List ℕ → Type 0
IsListing false m text = text ≡ listing m
IsListing true m text = Unit {0}

-- what is appended to what is known to be written: the image of the text's module, the listing of the image's or what JSON has of it, perhaps
-- with comments between, which is read as the module again, the verdict, the bounds of its functions, the lines of a run that has ended, or those of its events, also with notes, or its
-- picture or page, at as many places as were asked for; what a frame says; or what is known of a cause
abbrev pub Prints : Verb → Bool → Option ℕ → List ℕ → Option (List ℕ) → Option (List ℕ) → Type 0
Prints verb.Asm json asked bytes old new = (m : Module) × (module_of bytes ≡ Ok m)
    × Appends old new (spelling m)
Prints verb.List json asked bytes old new = (m : Module) × (text : List ℕ) × IsImage bytes m
    × IsListing json m text × Appends old new text
Prints verb.ListVerbose json asked bytes old new = (m : Module) × (text : List ℕ) × IsImage bytes m
    × (said text ≡ said (listing m)) × (module_of text ≡ Ok m) × Appends old new text
Prints verb.Check json asked bytes old new = (text : List ℕ) × IsChecked bytes
    × Appends old new text
Prints verb.Verify json asked bytes old new = (c : Certified) × (bound : ℕ) × IsImageOf bytes c
    × (slice_get c.bounds c.program.entry ≡ Some bound)
    × Appends old new (verdict_line (length c.program.functions) bound)
Prints verb.Bounds json asked bytes old new = (m : Module) × (bounds : List ℕ) × IsImage bytes m
    × (bounds_of m ≡ Ok bounds) × Appends old new (bound_lines 0 bounds)
Prints verb.Runs json asked bytes old new = (limit runs : ℕ)
    × PrintsRuns asked limit runs bytes old new
Prints verb.Trace json asked bytes old new = (w : Window)
    × PrintsShown verb.Trace w asked bytes old new
Prints verb.TraceVerbose json asked bytes old new = (w : Window)
    × PrintsShown verb.TraceVerbose w asked bytes old new
Prints verb.Draw json asked bytes old new = (w : Window)
    × PrintsShown verb.Draw w asked bytes old new
Prints verb.DrawPage json asked bytes old new = (w : Window)
    × PrintsShown verb.DrawPage w asked bytes old new
Prints verb.Audit json asked bytes old new = ⊥
Prints verb.Frame json asked bytes old new = (text : List ℕ) × TellsFrame asked bytes text
    × Appends old new text
Prints verb.Explain json asked bytes old new = (text : List ℕ) × Appends old new text
Prints verb.Run json asked bytes old new = (c : Certified) × (outputs : List (List machine.Line))
    × IsImageOf bytes c × HasRun c (places_for asked c) outputs
    × Appends old new (all_lines json 0 outputs)

-- ---- where a command isn't done

-- the lines of a run of the module, as far as it went: from the machine's opening at so many places, with no event that goes
-- wrong and no activity that takes more steps than its bound
pub record HasBegun (c : Certified) (places : ℕ) (outputs : List (List machine.Line)) : Type 0 where
  pub events : List Event
  pub last : World
  pub run : Run Ideal (record { program = c.program; places = places }) (WithinBounds c.bounds)
      (opening (record { program = c.program; places = places }) 0) events last
  pub count : length outputs ≡ places
  pub lines : AreLinesOf outputs last

-- what a refused command appends: for a check its report, for the others nothing
abbrev pub LeavesRefused : Verb → Option (List ℕ) → Option (List ℕ) → Type 0
LeavesRefused verb.Check old new = (text : List ℕ) × Appends old new text
LeavesRefused _ old new = Keeps old new

-- what a run leaves that stopped, if it began: the lines of its places; with threads those of a log
abbrev pub LeavesRun : Bool → Bool → Option ℕ → List ℕ → Option (List ℕ) → Option (List ℕ) → Type 0
LeavesRun json false asked bytes old new = (c : Certified) × (outputs : List (List machine.Line))
    × IsImageOf bytes c × HasBegun c (places_for asked c) outputs
    × Appends old new (all_lines json 0 outputs)
LeavesRun json true asked bytes old new = (c : Certified) × (log : List Turn)
    × (outputs : List (List machine.Line)) × IsImageOf bytes c
    × AreLinesBy (places_for asked c) log outputs × Appends old new (all_lines json 0 outputs)

-- what a command left that shows the events of a run which stopped: nothing, or what it shows of those until then
abbrev pub LeavesShown : Verb → Window → Option ℕ → List ℕ → Option (List ℕ) → Option (List ℕ) → Type 0
LeavesShown v w asked bytes old new = Keeps old new
    ⊎ ((c : Certified) × IsImageOf bytes c × HasShownSome v w c (places_for asked c) old new)

-- the same, where a command shows a run's events
abbrev pub LeavesAsked : Verb → Window → Option ℕ → List ℕ → Option (List ℕ) → Option (List ℕ) → Type 0
LeavesAsked verb.Trace w asked bytes old new = LeavesShown verb.Trace w asked bytes old new
LeavesAsked verb.TraceVerbose w asked bytes old new = LeavesShown verb.TraceVerbose w asked bytes old new
LeavesAsked verb.Draw w asked bytes old new = LeavesShown verb.Draw w asked bytes old new
LeavesAsked verb.DrawPage w asked bytes old new = LeavesShown verb.DrawPage w asked bytes old new
LeavesAsked _ w asked bytes old new = Unit {0}

-- what a command that stopped appends: nothing, or what a run left until then; a check a report, which may be empty
abbrev pub LeavesStopped : Verb → Bool → Bool → Option ℕ → List ℕ → Option (List ℕ)
    → Option (List ℕ) → Type 0
LeavesStopped verb.Run json threads asked bytes old new = Keeps old new
    ⊎ LeavesRun json threads asked bytes old new
LeavesStopped verb.Trace json threads asked bytes old new = (w : Window)
    × LeavesShown verb.Trace w asked bytes old new
LeavesStopped verb.TraceVerbose json threads asked bytes old new = (w : Window)
    × LeavesShown verb.TraceVerbose w asked bytes old new
LeavesStopped verb.Draw json threads asked bytes old new = (w : Window)
    × LeavesShown verb.Draw w asked bytes old new
LeavesStopped verb.DrawPage json threads asked bytes old new = (w : Window)
    × LeavesShown verb.DrawPage w asked bytes old new
LeavesStopped verb.Check json threads asked bytes old new = (text : List ℕ) × Appends old new text
LeavesStopped _ json threads asked bytes old new = Keeps old new

-- the module of a file: the one whose image it is, or that it spells as a text
abbrev pub IsModuleOf : List ℕ → Module → Type 0
IsModuleOf bytes m = IsImage bytes m ⊎ ((begins_as_image bytes ≡ false) × (module_of bytes ≡ Ok m))

-- a refusal is the one that is due: that of reading the text or the image, of the verifier, of the bounds, of the number of
-- places that was asked for, or of reading a frame; never that of a log, which only an audit has
abbrev pub IsDue : Option ℕ → List ℕ → Fault → Type 0
IsDue asked bytes (fault.Asm f) = module_of bytes ≡ Err f
IsDue asked bytes (fault.Image f) = IsFault (images.named f) (module_at bytes)
IsDue asked bytes (fault.Verify f) = (m : Module) × IsModuleOf bytes m × Refutes m f
IsDue asked bytes (fault.Bounds f) = (m : Module) × IsImage bytes m
    × IsFaultOrMemory (bounds.named f.cause) f (bounds_of m)
IsDue asked bytes fault.Places = (c : Certified) × IsImageOf bytes c
    × IsForbidden c (places_for asked c)
IsDue asked bytes (fault.Frame f) = IsFrameFault asked bytes f
IsDue asked bytes (fault.Log f) = ⊥
IsDue asked bytes fault.LogImage = ⊥
IsDue asked bytes (fault.LogDiffers turn) = ⊥
IsDue asked bytes fault.LogOpen = ⊥
IsDue asked bytes _ = Unit {0}

-- a fault of reading an image or of its module
abbrev pub IsOfModule : Fault → Type 0
IsOfModule (fault.Image f) = Unit {0}
IsOfModule (fault.Verify f) = Unit {0}
IsOfModule fault.Memory = Unit {0}
IsOfModule _ = ⊥

-- the commands that ask the verifier
abbrev pub IsVerifying : Verb → Type 0
IsVerifying verb.Verify = Unit {0}
IsVerifying verb.Run = Unit {0}
IsVerifying verb.Runs = Unit {0}
IsVerifying verb.Trace = Unit {0}
IsVerifying verb.TraceVerbose = Unit {0}
IsVerifying verb.Draw = Unit {0}
IsVerifying verb.DrawPage = Unit {0}
IsVerifying _ = ⊥

-- the exit status of a fault
abbrev pub status_of : Fault → ℕ
status_of (fault.Asm f) = 1
status_of (fault.Image f) = 1
status_of (fault.Verify f) = 1
status_of (fault.Bounds f) = 1
status_of fault.Places = 1
status_of (fault.Frame f) = 1
status_of (fault.Log f) = 1
status_of fault.LogImage = 1
status_of (fault.LogDiffers turn) = 1
status_of fault.LogOpen = 1
status_of fault.Memory = 2
status_of fault.StopMemory = 2
status_of (fault.StopLimit limit) = 2
status_of fault.Limit = 2
status_of fault.Turns = 2
status_of (fault.Refused place) = 2
status_of (fault.Differs turn) = 2
status_of fault.Thread = 2
status_of fault.File = 4

-- the exit status of something done, or of a fault
abbrev pub IsStatus : ℕ → Type 0
IsStatus n = (n ≡ 0) ⊎ ((f : Fault) × (n ≡ status_of f))

-- ---- faults of the parts, as the program tells them

abbrev pub of_image : ImageFault → Fault
of_image image.Memory = fault.Memory
of_image f = fault.Image f

abbrev pub of_frame : FrameFault → Fault
of_frame frame.Memory = fault.Memory
of_frame f = fault.Frame f

abbrev pub of_asm : AsmCause → AsmFault → Fault
of_asm asm.Memory f = fault.Memory
of_asm _ f = fault.Asm f

abbrev pub of_verify : VerifyCause → VerifyFault → Fault
of_verify verify.Memory f = fault.Memory
of_verify _ f = fault.Verify f

abbrev pub of_bounds : BoundCause → BoundFault → Fault
of_bounds bound.Memory f = fault.Memory
of_bounds _ f = fault.Bounds f

abbrev pub of_refusal : CheckFault → Fault
of_refusal (refusal.Asm f) = of_asm f.cause f
of_refusal (refusal.Image f) = of_image f
of_refusal (refusal.Verify f) = of_verify f.cause f

abbrev pub of_open : OpenFault → Fault
of_open opened.Places = fault.Places
of_open opened.Memory = fault.Memory

abbrev pub of_stop : Stop → Fault
of_stop (stop.Limit limit) = fault.StopLimit limit
of_stop _ = fault.StopMemory

abbrev pub of_log : LogCause → LogFault → Fault
of_log log.Memory f = fault.Memory
of_log _ f = fault.Log f

abbrev pub of_audit : AuditFault → Fault
of_audit (audit.Differs turn) = fault.LogDiffers turn
of_audit audit.Open = fault.LogOpen
of_audit (audit.Stop why) = of_stop why

abbrev pub of_halt : Unfinished → Fault
of_halt (halt.Stop why) = of_stop why
of_halt halt.Limit = fault.Limit
of_halt halt.Memory = fault.Memory

abbrev pub of_work : WorkFault → Fault
of_work (work.Stop place why report) = of_stop why
of_work (work.Turns report) = fault.Turns
of_work (work.Refused place why) = fault.Refused place
of_work (work.Differs turn) = fault.Differs turn
of_work work.Memory = fault.Memory
of_work work.Places = fault.Places
of_work work.Thread = fault.Thread

-- the lines of each place that a fault's report has; none where it has no report
abbrev pub lines_told : WorkFault → List (List machine.Line)
lines_told (work.Stop place why report) = lines_in report.outputs.items
lines_told (work.Turns report) = lines_in report.outputs.items
lines_told _ = []
