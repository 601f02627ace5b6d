-- What the program's answers say of the log of a run with threads.
use Rattle.std.specs.Prelude.{◌≡◌, Bool, ℕ, List, Option, Some, None}
use Rattle.std.specs.Io.KnownBytes.{Appends, Keeps}
use Rattle.x10_kinds.specs.declared.stop.Stop.{Stop}
use Rattle.x10_kinds.specs.declared.stop.Stop.TheVariants as stop
use Rattle.x10_model.specs.Places as machine
use Rattle.x10_verify.specs.Certified.{Certified}
use Rattle.x10_hall.specs.declared.turn.Turn.{Turn}
use Rattle.x10_world.specs.Endings.{IsImageOf}
use Rattle.x10_world.specs.Opening.{IsForbidden}
use Rattle.x10_workers.specs.Audits.{IsNotPlayed}
use Rattle.x10_workers.specs.Plays.{IsPlayed}
use Rattle.x10_workers.specs.Reports.{AreLinesBy}
use Rattle.x10_workers.specs.declared.fault.AuditFault.{AuditFault}
use Rattle.x10_workers.specs.declared.fault.AuditFault.TheVariants as audit
use Rattle.x10_workers.specs.declared.halt.WorkFault.{WorkFault}
use Rattle.x10_workers.specs.declared.halt.WorkFault.TheVariants as work
use Rattle.x10_log.specs.Logs.{LogValue, log_value, spelled, value_of}
use Rattle.x10_log.specs.Limits.{FitsLog, IsLimited}
use Rattle.x10_log.specs.declared.log.Log.{Log}
use Rattle.x10_digest.specs.Digests.{IsDigest}
use Rattle.x10_cli.specs.declared.fault.Fault.{Fault}
use Rattle.x10_cli.specs.declared.fault.Fault.TheVariants as fault
use Rattle.x10_cli.specs.Answers.{IsDue, of_stop, places_for, status_of}
use Rattle.x10_cli.specs.Lines.{all_lines}
use Rattle.x10_cli.specs.Telling.{SaysFault}

-- the text is the log of some turns at so many places, with the digest of an image
pub record IsLogText (bytes text : List ℕ) (places : ℕ) (turns : List Turn) : Type 0 where
  pub digest : List ℕ
  pub is_digest : IsDigest bytes digest
  pub is_text : text ≡ spelled (value_of digest places turns)

-- there is such a text
abbrev pub HasLogText : List ℕ → Option (List ℕ) → ℕ → List Turn → Type 0
HasLogText bytes None places turns = ⊥
HasLogText bytes (Some text) places turns = IsLogText bytes text places turns

-- the text is the log of a run of the module that has ended, and the lines of its places were appended
pub record HasReplayed (bytes text : List ℕ) (json : Bool) (c : Certified) (places : ℕ)
    (old new : Option (List ℕ)) : Type 0 where
  pub image : IsImageOf bytes c
  pub turns : List Turn
  pub log : IsLogText bytes text places turns
  pub outputs : List (List machine.Line)
  pub plays : IsPlayed c places turns outputs
  pub printed : Appends old new (all_lines json 0 outputs)

-- the text is the log of a run of the module that was stopped, and the lines of its turns were appended
pub record HasLoggedSome (bytes text : List ℕ) (json : Bool) (c : Certified) (places : ℕ)
    (old new : Option (List ℕ)) : Type 0 where
  pub image : IsImageOf bytes c
  pub turns : List Turn
  pub log : IsLogText bytes text places turns
  pub outputs : List (List machine.Line)
  pub lines : AreLinesBy places turns outputs
  pub printed : Appends old new (all_lines json 0 outputs)

-- what a run that has ended leaves at as many places as were asked for: its log, which is within the limits of logs, and the
-- lines of its places
abbrev pub LeavesEnded : Option ℕ → Bool → List ℕ → Option (List ℕ) → Option (List ℕ)
    → Option (List ℕ) → Type 0
LeavesEnded asked json bytes None old new = ⊥
LeavesEnded asked json bytes (Some text) old new = (c : Certified)
    × (h : HasReplayed bytes text json c (places_for asked c) old new)
    × IsLimited (value_of h.log.digest (places_for asked c) h.turns)

-- what a run leaves that stopped: no log, and nothing is printed; or the log of its turns, and their lines
abbrev pub LeavesLog : Option ℕ → Bool → List ℕ → Option (List ℕ) → Option (List ℕ)
    → Option (List ℕ) → Type 0
LeavesLog asked json bytes None old new = Keeps old new
LeavesLog asked json bytes (Some text) old new = (c : Certified)
    × HasLoggedSome bytes text json c (places_for asked c) old new

-- the log of a fault's report; none where it has no report
abbrev pub HasLogTold : List ℕ → Option (List ℕ) → ℕ → WorkFault → Type 0
HasLogTold bytes text places (work.Stop place why report) =
    HasLogText bytes text places report.log.items
HasLogTold bytes text places (work.Turns report) = HasLogText bytes text places report.log.items
HasLogTold bytes text places _ = text ≡ None

-- ---- an audit

-- the log that a text spells, which is one of an image
pub record ReadsLog (bytes text : List ℕ) (log : Log) : Type 0 where
  pub is_digest : IsDigest bytes log.digest
  pub is_text : text ≡ spelled (log_value log)

-- the text is the log of a run of a module that has ended, and the lines of its places were appended
abbrev pub HasAudited : Bool → List ℕ → List ℕ → Option (List ℕ) → Option (List ℕ) → Type 0
HasAudited json bytes text old new = (c : Certified) × (places : ℕ)
    × HasReplayed bytes text json c places old new

-- the text is a log of the image, which isn't played to an end in a world of the module, and why
pub record IsUnplayed (bytes text : List ℕ) (why : AuditFault) : Type 0 where
  pub c : Certified
  pub log : Log
  pub image : IsImageOf bytes c
  pub reads : ReadsLog bytes text log
  pub reason : IsNotPlayed c log.places log.turns.items why

-- the text is a log of the image at a number of places that the module, or the machine, doesn't permit
pub record HasOtherPlaces (bytes text : List ℕ) : Type 0 where
  pub c : Certified
  pub log : Log
  pub image : IsImageOf bytes c
  pub reads : ReadsLog bytes text log
  pub forbidden : IsForbidden c log.places

-- the text is a log of another image
pub record IsOfAnother (bytes text : List ℕ) : Type 0 where
  pub log : Log
  pub is_text : text ≡ spelled (log_value log)
  pub other : IsDigest bytes log.digest → ⊥

-- no log within the limits is spelled by the text
abbrev pub IsNoLog : List ℕ → Type 0
IsNoLog text = (l : LogValue) → IsLimited l → FitsLog l → text ≡ spelled l → ⊥

-- the fault of an audit is the one that is due: that of the image or of its module, of the log's text, or of its turns
abbrev pub IsAuditDue : List ℕ → List ℕ → Fault → Type 0
IsAuditDue bytes text (fault.Image f) = IsDue None bytes (fault.Image f)
IsAuditDue bytes text (fault.Verify f) = IsDue None bytes (fault.Verify f)
IsAuditDue bytes text (fault.Log f) = IsNoLog text
IsAuditDue bytes text fault.LogImage = IsOfAnother bytes text
IsAuditDue bytes text fault.Places = HasOtherPlaces bytes text
IsAuditDue bytes text (fault.LogDiffers turn) = IsUnplayed bytes text (audit.Differs turn)
IsAuditDue bytes text fault.LogOpen = IsUnplayed bytes text audit.Open
IsAuditDue bytes text (fault.StopLimit limit) =
    IsUnplayed bytes text (audit.Stop (stop.Limit limit))
IsAuditDue bytes text fault.StopMemory = (why : Stop) × (of_stop why ≡ fault.StopMemory)
    × IsUnplayed bytes text (audit.Stop why)
IsAuditDue bytes text fault.Memory = Unit {0}
IsAuditDue bytes text fault.File = Unit {0}
IsAuditDue bytes text _ = ⊥

-- the line of a fault with this status that is due, and perhaps what explains it
abbrev pub TellsAudit : Bool → List ℕ → List ℕ → ℕ → Option (List ℕ) → Option (List ℕ) → Type 0
TellsAudit explain bytes text status old new = (f : Fault) × (status ≡ status_of f)
    × IsAuditDue bytes text f × SaysFault explain f old new
