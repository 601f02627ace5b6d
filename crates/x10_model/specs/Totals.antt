-- Counting what a finish waits for: totals at each place, reports of them, and when they balance. The counting family of
-- termination detection (Mattern, 1987).
use Rattle.std.specs.Prelude.{◌≡◌, ℕ, zero, suc, ◌+◌, ◌-◌, ◌<◌, max, Bool, true, false, ◌==◌, ◌&&◌, not, List, [], ◌∷◌, if◌then◌else◌, slice_index}
use Rattle.x10_model.specs.Maps.{with_entry}
use Rattle.x10_model.specs.declared.finish.Finish.{Finish}
use Rattle.x10_model.specs.Places.{root, Message, Spawn, Shift, Back, Effect, Begins, Spawns, Shifts, Ends, receiver}
use Rattle.x10_model.specs.Worlds.{same_finish}

-- what one place has counted for one finish: the stays that inherited it and live, what was sent to each place under it,
-- and what came from each place
pub record Totals : Type 0 where
  pub live : ℕ
  pub sent : ℕ → ℕ
  pub received : ℕ → ℕ

-- what happens at a place that is counted: a move has an effect, or a message comes
pub data Happening : Type 0 where
  Did : Effect → Happening
  Took : Message → Happening

abbrev pub nothing : Totals
nothing = record { live = 0; sent = λ p. 0; received = λ p. 0 }

-- the totals at the beginning: main's stay is live under the root at place 0
abbrev pub first_totals : ℕ → Finish → Totals
first_totals here f = if same_finish f root && (here == 0) then record nothing
    { live = 1 } else nothing

abbrev pub sends_to : Totals → ℕ → Totals
sends_to t p = record t { sent = with_entry t.sent p (t.sent p + 1) }

abbrev pub begins_one : Totals → Totals
begins_one t = record t { live = t.live + 1 }

abbrev pub ends_one : Totals → Totals
ends_one t = record t { live = t.live - 1 }

abbrev pub receives_from : Totals → ℕ → Totals
receives_from t p = record t {
  live = t.live + 1;
  received = with_entry t.received p (t.received p + 1);
}

abbrev pub if_same : Finish → Finish → Totals → Totals → Totals
if_same f g changed t = if same_finish f g then changed else t

-- An activity or a shift that is put out under the finish counts as sent, its arrival as received and live; an activity
-- that begins here is live; the end of a stay ends one. Results and reports don't count.
abbrev pub totals_after : Finish → Totals → Happening → Totals
totals_after f t (Did (Begins key function under)) = if_same f under (begins_one t) t
totals_after f t (Did (Spawns message function under)) =
    if_same f under (sends_to t (receiver message)) t
totals_after f t (Did (Shifts message under)) = if_same f under (sends_to t (receiver message)) t
totals_after f t (Did (Ends under back)) = if_same f under (ends_one t) t
totals_after f t (Did _) = t
totals_after f t (Took (Spawn from to under function graph)) =
    if_same f under (receives_from t from) t
totals_after f t (Took (Shift from to waiting under function graph)) =
    if_same f under (receives_from t from) t
totals_after f t (Took (Back from to waiting graph)) = t

-- the totals of a finish after what happened so far, the first first
abbrev pub totals_from : Finish → Totals → List Happening → Totals
totals_from f t [] = t
totals_from f t (h ∷ hs) = totals_from f (totals_after f t h) hs

-- the last stay under a finish ends at a place, away from the finish's home: then a report goes there
abbrev pub is_last : (home here : ℕ) → Totals → Bool
is_last home here t = not (home == here) && (t.live - 1 == 0)

-- a report is due after what happens
abbrev pub is_reported : ℕ → Finish → Totals → Happening → Bool
is_reported here f t (Did (Ends under back)) = same_finish f under && is_last f.home here t
is_reported here f t _ = false

-- ---- reports, and what the home keeps of them

-- the totals that a place sends to the home of its finish with a number, place by place
pub record Report : Type 0 where
  pub place : ℕ
  pub number : ℕ
  pub sent : List ℕ
  pub received : List ℕ

-- one place's share of a cut
pub record Entry : Type 0 where
  pub sent : ℕ → ℕ
  pub received : ℕ → ℕ

-- an entry for each place
abbrev pub Cut : Type 0
Cut = ℕ → Entry

abbrev pub zeros : Entry
zeros = record { sent = λ p. 0; received = λ p. 0 }

abbrev pub entry_of : Totals → Entry
entry_of t = record { sent = t.sent; received = t.received }

abbrev pub reported : Report → Entry
reported r = record { sent = slice_index r.sent; received = slice_index r.received }

-- the larger of each number
abbrev pub larger : Entry → Entry → Entry
larger e f = record {
  sent = λ p. max (e.sent p) (f.sent p);
  received = λ p. max (e.received p) (f.received p);
}

-- the home takes in a report: it keeps the larger of each number
abbrev pub merged : Cut → Report → Cut
merged kept r = with_entry kept r.place (larger (kept r.place) (reported r))

-- what each place says that it sent to another is what the other says that it received from it
abbrev pub IsBalanced : ℕ → Cut → Type 0
IsBalanced places cut = (p q : ℕ) → p < places → q < places → (cut p).sent q ≡ (cut q).received p

-- the same as a test
abbrev pub all_below : (ℕ → Bool) → ℕ → Bool
all_below test zero = true
all_below test (suc n) = all_below test n && test n

abbrev pub is_balanced : ℕ → Cut → Bool
is_balanced places cut = all_below (λ p.
    all_below (λ q. (cut p).sent q == (cut q).received p) places) places

-- what the home looks at: its own totals as they are now, and of each other place what it kept
abbrev pub seen_from : ℕ → Entry → Cut → Cut
seen_from home own kept = with_entry kept home own

-- the home lets its finish end: nothing under it lives there, and what it sees balances
abbrev pub IsDoneAt : ℕ → ℕ → Totals → Cut → Type 0
IsDoneAt places home own kept = (own.live ≡ 0)
    × IsBalanced places (seen_from home (entry_of own) kept)
