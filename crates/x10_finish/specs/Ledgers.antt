-- What callers see of a tally: the totals of each finish.
use Rattle.std.specs.Prelude.{◌≡◌, ℕ, Bool, true, false, List, Option, Some, None, if◌then◌else◌, length, is_some}
use Rattle.std.specs.Map.{lookup}
use Rattle.x10_kinds.specs.declared.limit.Limit.TheVariants as limits
use Rattle.x10_kinds.specs.declared.stop.Stop.{Stop}
use Rattle.x10_kinds.specs.declared.stop.Stop.TheVariants as stop
use Rattle.x10_model.specs.Worlds.{same_finish}
use Rattle.x10_model.specs.Totals as totals
use Rattle.x10_model.specs.Totals.{Totals, Entry, nothing, if_same, is_last, entry_of, reported}
use Rattle.x10_frame.specs.declared.report.Report.{Report}
use Rattle.x10_model.specs.declared.finish.Finish.{Finish}
use Rattle.x10_finish.specs.declared.count.Count.{Count}
use Rattle.x10_finish.specs.Counts.{counted, IsWhole}

-- the count of a finish
abbrev pub count_of : List (Finish × Count) → Finish → Option Count
count_of counts f = lookup (same_finish f) counts

abbrev pub counted_or_nothing : Option Count → Totals
counted_or_nothing None = nothing
counted_or_nothing (Some c) = counted c

-- which place counts, of how many, and what it counted of each finish that it met
pub record Ledger : Type 0 where
  pub place : ℕ
  pub places : ℕ
  pub counts : List (Finish × Count)

-- the totals of a finish: nothing where the place has not met it
abbrev pub totals_of : Ledger → Finish → Totals
totals_of l f = counted_or_nothing (count_of l.counts f)

-- the place has met the finish
abbrev pub is_met : Ledger → Finish → Bool
is_met l f = is_some (count_of l.counts f)

abbrev pub AreWhole : ℕ → List (Finish × Count) → Type 0
AreWhole places counts = (f : Finish) (c : Count) → count_of counts f ≡ Some c → IsWhole places c

-- the totals of one finish change, and it is met now; all else stays
pub record Counts (old : Ledger) (f : Finish) (change : Totals → Totals)
    (new : Ledger) : Type 0 where
  pub place : new.place ≡ old.place
  pub places : new.places ≡ old.places
  pub totals : (g : Finish) → totals_of new g
      ≡ if_same g f (change (totals_of old g)) (totals_of old g)
  pub met : (g : Finish) → is_met new g ≡ (if same_finish g f then true else is_met old g)

-- what was counted of one finish is gone, and it isn't met any more; all else stays
pub record Forgets (old : Ledger) (f : Finish) (new : Ledger) : Type 0 where
  pub place : new.place ≡ old.place
  pub places : new.places ≡ old.places
  pub totals : (g : Finish) → totals_of new g ≡ if_same g f nothing (totals_of old g)
  pub met : (g : Finish) → is_met new g ≡ (if same_finish g f then false else is_met old g)

-- why something is not counted: a growth was refused, which only a finish that was not met asks for, or a count that
-- would have grown has its largest value
abbrev pub Refuses : Bool → Type 0 → Stop → Type 0
Refuses met full stop.Memory = met ≡ false
Refuses met full (stop.Limit limit) = full × (limit ≡ limits.Activities)
Refuses met full stop.Stopped = ⊥

-- a report as the machine has it
abbrev pub report_of : Report → totals.Report
report_of r = record {
  place = r.place;
  number = r.number;
  sent = r.sent.items;
  received = r.received.items;
}

-- a report is due where the last activity of a finish ends away from its home
abbrev pub gives_report : Ledger → Finish → Bool
gives_report l f = is_last f.home l.place (totals_of l f)

-- the place's totals of the finish, one number for each place
pub record AreDue (l : Ledger) (f : Finish) (sent received : List ℕ) : Type 0 where
  pub entry : reported (record {
    place = l.place;
    number = f.number;
    sent = sent;
    received = received;
  }) ≡ entry_of (totals_of l f)
  pub sent_is : length sent ≡ l.places
  pub received_is : length received ≡ l.places

-- the place's report of its totals of the finish, one number for each place
pub record IsReportDue (l : Ledger) (f : Finish) (r : Report) : Type 0 where
  pub place : r.place ≡ l.place
  pub number : r.number ≡ f.number
  pub entry : reported (report_of r) ≡ entry_of (totals_of l f)
  pub sent : length r.sent.items ≡ l.places
  pub received : length r.received.items ≡ l.places

-- the report that is due, or none
abbrev pub IsAnswer : Ledger → Finish → Option Report → Type 0
IsAnswer l f None = gives_report l f ≡ false
IsAnswer l f (Some r) = (gives_report l f ≡ true) × IsReportDue l f r
