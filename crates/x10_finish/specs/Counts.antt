-- What one place counts of one finish.
use Rattle.std.specs.Prelude.{◌≡◌, ℕ, ◌+◌, ◌<◌, ◌^◌, ◌⊎◌, length, slice_index}
use Rattle.x10_model.specs.Totals.{Totals, begins_one, sends_to, receives_from}
use Rattle.x10_finish.specs.declared.count.Count.{Count}
use Rattle.x10_finish.specs.declared.count.Change.{Change}
use Rattle.x10_finish.specs.declared.count.Change.TheVariants.{Begins, Sends, Receives}

-- the totals that a count holds
abbrev pub counted : Count → Totals
counted c = record {
  live = c.live;
  sent = slice_index c.sent.items;
  received = slice_index c.received.items;
}

-- one number for each place
pub record IsWhole (places : ℕ) (c : Count) : Type 0 where
  pub sent : length c.sent.items ≡ places
  pub received : length c.received.items ≡ places

-- the place that it names is one of so many
abbrev pub Fits : Change → ℕ → Type 0
Fits Begins places = Unit {0}
Fits (Sends to) places = to < places
Fits (Receives from) places = from < places

-- the totals after it
abbrev pub changed : Change → Totals → Totals
changed Begins t = begins_one t
changed (Sends to) t = sends_to t to
changed (Receives from) t = receives_from t from

-- no count is larger than 2^32 - 1
abbrev pub IsLargest : ℕ → Type 0
IsLargest n = n + 1 ≡ 2 ^ 32

-- a count that would grow is as large as a count can be
abbrev pub IsFull : Change → Totals → Type 0
IsFull Begins t = IsLargest t.live
IsFull (Sends to) t = IsLargest (t.sent to)
IsFull (Receives from) t = IsLargest (t.received from) ⊎ IsLargest t.live
