-- Termination detection for one finish: what happens under it at all places, and what its home may conclude. The counting
-- family of Mattern (1987), with reports that come late and in any order.
use Rattle.std.specs.Prelude.{◌≡◌, ℕ, ◌+◌, ◌-◌, ◌<◌, ◌≤◌, ◌⊎◌, List, [], ◌∷◌, Option, Some, None, if◌then◌else◌}
use Rattle.x10_model.specs.Maps.{with_entry, with_pair}
use Rattle.x10_model.specs.Totals.{Totals, Entry, Cut, nothing, zeros, entry_of, larger, sends_to, begins_one, ends_one, receives_from, is_last, IsDoneAt}

-- a report in flight: what its place had sent and received
pub record Told : Type 0 where
  pub place : ℕ
  pub entry : Entry

-- what each place has counted, how many activities and shifts are in flight from one place to another, the reports in
-- flight by number, and what the home keeps of each place
pub record Counting : Type 0 where
  pub totals : ℕ → Totals
  pub flying : ℕ → ℕ → ℕ
  pub told : ℕ → Option Told
  pub kept : Cut

-- an activity is put out or shifts from a place to another; one begins where it was put out; one ends, and a report that it
-- sends has a number; one arrives from a place at another; the home takes in a report
pub data Event : Type 0 where
  PutsOut : (from to : ℕ) → Event
  Begins : (place : ℕ) → Event
  Ends : (place number : ℕ) → Event
  Arrives : (from to : ℕ) → Event
  TakesIn : (number : ℕ) → Event

-- at the beginning nothing is counted
abbrev pub start : Counting
start = record { totals = λ p. nothing; flying = λ p q. 0; told = λ n. None; kept = λ p. zeros }

abbrev pub told_of : ℕ → Totals → Told
told_of place t = record { place = place; entry = entry_of t }

abbrev pub taken : Cut → Option Told → Cut
taken kept None = kept
taken kept (Some t) = with_entry kept t.place (larger (kept t.place) t.entry)

-- what an event changes
abbrev pub after : ℕ → Counting → Event → Counting
after home s (PutsOut from to) = record s {
  totals = with_entry s.totals from (sends_to (s.totals from) to);
  flying = with_pair s.flying from to (s.flying from to + 1);
}
after home s (Begins place) = record s {
  totals = with_entry s.totals place
      (begins_one (s.totals place));
}
after home s (Ends place number) = record s {
  totals = with_entry s.totals place (ends_one (s.totals place));
  told = if is_last home place (s.totals place) then with_entry s.told number
      (Some (told_of place (s.totals place))) else s.told;
}
after home s (Arrives from to) = record s {
  totals = with_entry s.totals to (receives_from (s.totals to) from);
  flying = with_pair s.flying from to (s.flying from to - 1);
}
after home s (TakesIn number) = record s
    { told = with_entry s.told number None; kept = taken s.kept (s.told number) }

-- at a place something under the finish can act: an activity that lives there, or at the home the owner
abbrev pub IsAtWork : ℕ → Counting → ℕ → Type 0
IsAtWork home s place = (0 < (s.totals place).live) ⊎ (place ≡ home)

-- what can happen: activities are put out and begun where something is at work, one that lives ends, one in flight
-- arrives, a report in flight is taken in
abbrev pub IsAble : ℕ → ℕ → Counting → Event → Type 0
IsAble places home s (PutsOut from to) = (from < places) × (to < places) × IsAtWork home s from
IsAble places home s (Begins place) = IsAtWork home s place
IsAble places home s (Ends place number) = (0 < (s.totals place).live) × (s.told number ≡ None)
IsAble places home s (Arrives from to) = (from < places) × (to < places) × (0 < s.flying from to)
IsAble places home s (TakesIn number) = (t : Told) × (s.told number ≡ Some t)

-- each event in its turn
abbrev pub AreAble : ℕ → ℕ → Counting → List Event → Type 0
AreAble places home s [] = Unit {0}
AreAble places home s (e ∷ es) = IsAble places home s e × AreAble places home (after home s e) es

abbrev pub after_all : ℕ → Counting → List Event → Counting
after_all home s [] = s
after_all home s (e ∷ es) = after_all home (after home s e) es

-- no activity under the finish lives anywhere, and none is in flight
pub record IsAtRest (places : ℕ) (s : Counting) : Type 0 where
  pub live : (p : ℕ) → p < places → (s.totals p).live ≡ 0
  pub flying : (p q : ℕ) → p < places → q < places → s.flying p q ≡ 0

abbrev pub IsDone : ℕ → ℕ → Counting → Type 0
IsDone places home s = IsDoneAt places home (s.totals home) s.kept

-- where the home lets the finish end, nothing under it lives or is in flight
abbrev pub DoneIsAtRest : Type 0
DoneIsAtRest = (places home : ℕ) (events : List Event) → home < places
    → AreAble places home start events → IsDone places home (after_all home start events)
    → IsAtRest places (after_all home start events)

-- and where nothing lives or is in flight, no report either, the home lets it end
abbrev pub AtRestIsDone : Type 0
AtRestIsDone = (places home : ℕ) (events : List Event) → home < places
    → AreAble places home start events → IsAtRest places (after_all home start events)
    → ((n : ℕ) → (after_all home start events).told n ≡ None)
    → IsDone places home (after_all home start events)

-- ---- the invariant

-- what a place told earlier: a report of it in flight, what is kept of it, or nothing yet
pub data IsEarlierOf (told : ℕ → Option Told) (kept : Cut) (place : ℕ) : Entry → Type 0 where
  in_flight : (number : ℕ) (t : Told) → told number ≡ Some t → t.place ≡ place
      → IsEarlierOf told kept place t.entry
  is_kept : IsEarlierOf told kept place (kept place)
  is_nothing : IsEarlierOf told kept place zeros

-- no number is larger
pub record IsBelow (e f : Entry) : Type 0 where
  pub sent : (q : ℕ) → e.sent q ≤ f.sent q
  pub received : (q : ℕ) → e.received q ≤ f.received q

-- a cut has for each place something that it told earlier, or none for its totals now; for the home always now
pub record IsCutOf (home : ℕ) (told : ℕ → Option Told) (kept : Cut)
    (cut : ℕ → Option Entry) : Type 0 where
  pub now : cut home ≡ None
  pub earlier : (p : ℕ) (e : Entry) → cut p ≡ Some e → IsEarlierOf told kept p e

abbrev pub entry_or : Entry → Option Entry → Entry
entry_or now None = now
entry_or now (Some e) = e

abbrev pub entry_in : (ℕ → Totals) → (ℕ → Option Entry) → Cut
entry_in totals cut p = entry_or (entry_of (totals p)) (cut p)

-- nothing happened there since
pub record IsStill (e : Entry) (t : Totals) : Type 0 where
  pub live : t.live ≡ 0
  pub same : e ≡ entry_of t

-- nothing happened since at any place with something earlier
abbrev pub AreStill : (ℕ → Totals) → (ℕ → Option Entry) → Type 0
AreStill totals cut = (p : ℕ) (e : Entry) → cut p ≡ Some e → IsStill e (totals p)

-- a place with something earlier lacks an arrival from a place that says it sent more
pub record Lacks (places : ℕ) (totals : ℕ → Totals) (cut : ℕ → Option Entry) : Type 0 where
  pub to : ℕ
  pub from : ℕ
  pub entry : Entry
  pub is_there : cut to ≡ Some entry
  pub to_place : to < places
  pub from_place : from < places
  pub less : entry.received from < (entry_in totals cut from).sent to

-- the place's last word has come or is on its way
abbrev pub IsToldNow : Counting → ℕ → Type 0
IsToldNow s p = (s.kept p ≡ entry_of (s.totals p))
    ⊎ ((number : ℕ) × (t : Told) × (s.told number ≡ Some t) × (t.place ≡ p)
    × (t.entry ≡ entry_of (s.totals p)))

-- what holds of each world: what was sent was received or is in flight; what was told earlier is no larger than now, and
-- of one place in one line; a cut either shows all that happened or lacks an arrival; and a place at which nothing is at
-- work has told its last word
pub record IsCounted (places home : ℕ) (s : Counting) : Type 0 where
  pub conserved : (p q : ℕ) → p < places → q < places
      → (s.totals p).sent q ≡ (s.totals q).received p + s.flying p q
  pub earlier : (p : ℕ) (e : Entry) → IsEarlierOf s.told s.kept p e
      → IsBelow e (entry_of (s.totals p))
  pub in_line : (p : ℕ) (e f : Entry) → IsEarlierOf s.told s.kept p e
      → IsEarlierOf s.told s.kept p f → IsBelow e f ⊎ IsBelow f e
  pub cuts : (cut : ℕ → Option Entry) → IsCutOf home s.told s.kept cut
      → AreStill s.totals cut ⊎ Lacks places s.totals cut
  pub last : (p : ℕ) → IsAtWork home s p ⊎ IsToldNow s p
