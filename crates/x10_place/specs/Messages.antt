-- The frames between places: which messages and reports they carry.
use Rattle.std.specs.Prelude.{◌≡◌, ℕ, List, Option, Some, None, true, false}
use Rattle.x10_model.specs.Modules.{Module}
use Rattle.x10_model.specs.declared.finish.Finish.{Finish}
use Rattle.x10_model.specs.Places.{Message, Effect, receiver}
use Rattle.x10_model.specs.Deliveries.{FitsClasses}
use Rattle.x10_model.specs.Wrong.{graph_of}
use Rattle.x10_model.specs.Frames as frames
use Rattle.x10_model.specs.declared.version.FrameVersion.TheVariants.{Wide}
use Rattle.x10_model.specs.Frames.{Frame, FitsFrame, spelling}
use Rattle.x10_model.specs.Marshalling.{message_of}
use Rattle.x10_model.specs.Totals.{Did, Report, entry_of, reported, is_reported}
use Rattle.x10_model.specs.Worlds.{sent}
use Rattle.x10_heap.specs.Words.{Context}
use Rattle.x10_copy.specs.References.{AreNamed}
use Rattle.x10_place.specs.declared.sent.Outgoing.{Outgoing}
use Rattle.x10_place.specs.declared.sent.Sent.{Sent}
use Rattle.x10_place.specs.Stays.{StoreState, totals_in}

-- The bytes spell a frame of version 2 that carries the message, one of so many places. The objects in it have the fields of their
-- classes.
pub record Carries (program : Module) (places : ℕ) (bytes : List ℕ)
    (message : Message) : Type 0 where
  pub frame : Frame
  pub fits : FitsFrame Wide places frame
  pub spelled : bytes ≡ spelling Wide frame
  pub message_is : message_of frame ≡ Some message
  pub classes : FitsClasses program (graph_of message)

-- the frame of a report for the home of its finish
abbrev pub report_frame : ℕ → Report → Frame
report_frame home r = frames.Report r.place home r.number r.sent r.received

-- the bytes spell the frame of a report that goes to a place, in version 2
pub record CarriesReport (places : ℕ) (bytes : List ℕ) (to : ℕ) (report : Report) : Type 0 where
  pub fits : FitsFrame Wide places (report_frame to report)
  pub spelled : bytes ≡ spelling Wide (report_frame to report)

-- ---- what a step puts out

-- nothing
abbrev pub no_sent : Sent
no_sent = record { message = None; report = None }

-- the message that a move sends, in a frame for its receiver; each global reference in it names an object
pub record IsMessageSent (program : Module) (x : Context) (o : Outgoing)
    (message : Message) : Type 0 where
  pub to_is : o.to ≡ receiver message
  pub carries : Carries program x.places o.bytes.items message
  pub named : AreNamed x (graph_of message)

abbrev pub SendsMessage : Module → Context → Option Outgoing → Option Message → Type 0
SendsMessage program x None sent = sent ≡ None
SendsMessage program x (Some o) sent = (message : Message) × (sent ≡ Some message)
    × IsMessageSent program x o message

-- what a place has counted of a finish, in a frame for the finish's home
pub record IsReportSent (s : StoreState) (f : Finish) (o : Outgoing) : Type 0 where
  pub report : Report
  pub to_is : o.to ≡ f.home
  pub place_is : report.place ≡ s.here
  pub number_is : report.number ≡ f.number
  pub entry_is : reported report ≡ entry_of (totals_in s f)
  pub carries : CarriesReport s.places o.bytes.items f.home report

-- the report that is due after a move, or none
abbrev pub SendsReport : StoreState → Effect → Option Outgoing → Type 0
SendsReport s effect None = (f : Finish) → is_reported s.here f (totals_in s f) (Did effect) ≡ false
SendsReport s effect (Some o) = (f : Finish)
    × (is_reported s.here f (totals_in s f) (Did effect) ≡ true) × IsReportSent s f o

-- what a move with an effect puts out
pub record PutsOut (program : Module) (x : Context) (s : StoreState) (effect : Effect)
    (out : Sent) : Type 0 where
  pub message : SendsMessage program x out.message (sent effect)
  pub report : SendsReport s effect out.report
