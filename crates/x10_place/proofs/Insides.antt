-- Which stay of a place is inside an atomic region, what that keeps out, and what keeps it so.
use Rattle.std.proofs.Common.{◌≡◌, ◌≢◌, ℕ, Bool, true, false, Option, Some, None, Result, Ok, Err, refl, sym, ap, subst, ◌∙◌, inl, inr}
use Rattle.std.specs.Prelude.{OnOk, OnErr, IfOk}
use Rattle.std.proofs.lemmas.Bool.{cases_eq}
use Rattle.std.proofs.lemmas.Option.{same_Some}
use Rattle.slab.specs.Slab.{Slab, get, Updates, with_value}
use Rattle.x10_kinds.specs.declared.stop.Stop.{Stop}
use Rattle.x10_model.specs.Frames.{Frame}
use Rattle.x10_model.specs.Modules.{Module}
use Rattle.x10_model.specs.Places as machine
use Rattle.x10_model.specs.Places.{Stay, IsFree}
use Rattle.x10_model.proofs.Lists.{none_some}
use Rattle.x10_place.specs.declared.launching.Launch.{Launch}
use Rattle.x10_place.specs.declared.outcome.Departure.{Departure}
use Rattle.x10_place.specs.declared.outcome.Departure.TheVariants as departure
use Rattle.x10_place.specs.declared.sent.Sent.{Sent}
use Rattle.x10_place.specs.Arrivals.{Launches, ComesBack}
use Rattle.x10_place.specs.Parting.{DepartsBy, DepartsAt, LeavesAt}
use Rattle.x10_place.specs.Stays.{StayState, StoreState}
use Rattle.x10_place.specs.StandsFor.{PlaceState, Far, StandsFor, is_inside, inside_at, AreOutside, IsInsider}
use Rattle.x10_place.specs.Stretches.{BeginsAt, IsUntouched, SameInside, insider_of}
use Rattle.x10_place.proofs.KeptStays.{written}

true_false : (b : Bool) → b ≡ true → b ≡ false → ⊥
true_false b t f = cc

not_true : (b : Bool) → (b ≡ true → ⊥) → b ≡ false
not_true true never = absurd (never refl)
not_true false never = refl

-- ---- the machine

-- where no other is inside here, none is at the machine's place
pub free_of : (far : Far) (p : PlaceState) (m : machine.Place) (key : ℕ) → StandsFor far p m → AreOutside p.stays key → IsFree m.stays key
free_of far p m key stands outside other s there inside = by (get p.stays other) refl
  where
    by : (o : Option StayState) → get p.stays other ≡ o → other ≡ key
    by None e = absurd (none_some (m.stays other) s (stands.none other e) there)
    by (Some a) e =
        let found = stands.some other a e in
        let same : found.0 ≡ s = same_Some found.0 s (sym found.1 ∙ there) in
        outside other (ap is_inside e ∙ sym found.2.inside ∙ ap (λ (t : Stay). t.inside) same ∙ inside)

-- and where another is, it keeps out there too
pub kept_out_of : (far : Far) (p : PlaceState) (m : machine.Place) (key other : ℕ) → StandsFor far p m → inside_at p.stays other ≡ true → other ≢ key
    → IsFree m.stays key → ⊥
kept_out_of far p m key other stands inside apart free = by (get p.stays other) refl
  where
    by : (o : Option StayState) → get p.stays other ≡ o → ⊥
    by None e = true_false (inside_at p.stays other) inside (ap is_inside e)
    by (Some a) e = let found = stands.some other a e in apart (free other found.0 found.1 (found.2.inside ∙ sym (ap is_inside e) ∙ inside))

-- ---- one stay changes

pub outside_after : (old new : Slab StayState) (key : ℕ) (o : Option StayState) → Updates old new key o → AreOutside old key → AreOutside new key
outside_after old new key o up outside other inside = elim (cases_eq other key)
    [ inl same ↦ same | inr apart ↦ outside other (sym (ap is_inside (up.others other apart)) ∙ inside) ]

pub insider_after : (old new : Slab StayState) (key : ℕ) (b : StayState) → Updates old new key (Some b) → AreOutside old key
    → IsInsider new (insider_of b.inside key)
insider_after old new key b up outside = by b.inside refl
  where
    by : (inside : Bool) → b.inside ≡ inside → IsInsider new (insider_of inside key)
    by true e = (ap is_inside up.changed ∙ e, outside_after old new key (Some b) up outside)
    by false e = λ k. elim (cases_eq k key) [
      | inl same ↦ ap (inside_at new) same ∙ ap is_inside up.changed ∙ e
      | inr apart ↦ not_true (inside_at new k) (λ inside. apart (outside_after old new key (Some b) up outside k inside))
    ]

-- a key of which nobody keeps out the stay
pub outside_by : (slab : Slab StayState) (key : ℕ) → ((other : ℕ) → inside_at slab other ≡ true → other ≢ key → ⊥) → AreOutside slab key
outside_by slab key never other inside = elim (cases_eq other key) [ inl same ↦ same | inr apart ↦ absurd (never other inside apart) ]

-- ---- the same stays are inside

pub same_insider : (old new : Slab StayState) (inside : Option ℕ) → SameInside old new → IsInsider old inside → IsInsider new inside
same_insider old new None same h = λ k. same k ∙ h k
same_insider old new (Some key) same h = (same key ∙ h.0, (λ k inside. h.1 k (sym (same k) ∙ inside)))

pub same_untouched : (old new : Slab StayState) (s t : StoreState) → IsUntouched old s new t → SameInside old new
same_untouched old new s t h k = ap (λ (slab : Slab StayState). inside_at slab k) h.stays

same_updated : (old new : Slab StayState) (key : ℕ) (o : Option StayState) → Updates old new key o → is_inside o ≡ inside_at old key
    → SameInside old new
same_updated old new key o up e k = elim (cases_eq k key) [
  | inl same ↦ subst (λ n. inside_at new n ≡ inside_at old n) (sym same) (ap is_inside up.changed ∙ e)
  | inr apart ↦ ap is_inside (up.others k apart)
]

-- an activity begins
same_begun : (program : Module) (old : Slab StayState) (s : StoreState) (key : ℕ) (new : Slab StayState) (t : StoreState)
    → BeginsAt program old s key new t → SameInside old new
same_begun program old s key new t h k = elim (cases_eq k key) [
  | inl same ↦ subst (λ n. inside_at new n ≡ inside_at old n) (sym same)
      (ap is_inside h.now_next ∙ ap (λ (a : StayState). a.inside) h.rest ∙ sym (ap is_inside h.is_there))
  | inr apart ↦ elim (cases_eq k h.other) [
    | inl same ↦ subst (λ n. inside_at new n ≡ inside_at old n) (sym same) (ap is_inside h.now_child ∙ h.begun.inside ∙ sym (ap is_inside h.free))
    | inr off ↦ ap is_inside (h.others k apart off)
  ]
]

-- as it does where it is refused, when nothing has changed
same_either : {A E P : Type 0} (result : Result A E) (old new : Slab StayState) (s t : StoreState) → (P → SameInside old new) → OnOk result P
    → OnErr result (IsUntouched old s new t) → SameInside old new
same_either (Ok done) old new s t same ok err = same ok
same_either (Err why) old new s t same ok err = same_untouched old new s t err

pub begun_inside : (result : Result Sent Stop) (program : Module) (old : Slab StayState) (s : StoreState) (key : ℕ) (new : Slab StayState)
    (t : StoreState) → OnOk result (BeginsAt program old s key new t) → OnErr result (IsUntouched old s new t) → SameInside old new
begun_inside result program old s key new t ok err = same_either result old new s t (same_begun program old s key new t) ok err

-- one is sent, or goes elsewhere
same_departed : (program : Module) (old : Slab StayState) (s : StoreState) (key : ℕ) (sent : Sent) (new : Slab StayState) (t : StoreState)
    → DepartsAt program old s key sent new t → SameInside old new
same_departed program old s key sent new t h =
    same_updated old new key (Some h.next) h.updates (by h.departure h.departs ∙ sym (ap is_inside h.is_there))
  where
    by : (w : Departure) → DepartsBy w h.stay h.next → h.next.inside ≡ h.stay.inside
    by departure.At d = ap (λ (a : StayState). a.inside) d
    by departure.Ata d = ap (λ (a : StayState). a.inside) d.1

pub departed_inside : (result : Result Sent Stop) (program : Module) (old : Slab StayState) (s : StoreState) (key : ℕ) (new : Slab StayState)
    (t : StoreState) → IfOk result (λ sent. DepartsAt program old s key sent new t) → OnErr result (IsUntouched old s new t) → SameInside old new
departed_inside (Ok sent) program old s key new t ok err = same_departed program old s key sent new t ok
departed_inside (Err why) program old s key new t ok err = same_untouched old new s t err

-- one ends that is inside none
pub left_inside : (result : Result Sent Stop) (program : Module) (old : Slab StayState) (s : StoreState) (key : ℕ) (a : StayState)
    (new : Slab StayState) (t : StoreState) → get old key ≡ Some a → a.inside ≡ false → IfOk result (λ sent. LeavesAt program old s key sent new t)
    → OnErr result (IsUntouched old s new t) → SameInside old new
left_inside (Ok sent) program old s key a new t there outside ok err = same_updated old new key None ok.updates (sym (ap is_inside there ∙ outside))
left_inside (Err why) program old s key a new t there outside ok err = same_untouched old new s t err

-- one comes in
same_launched : (program : Module) (old : Slab StayState) (s : StoreState) (f : Frame) (l : Launch) (new : Slab StayState) (t : StoreState)
    → Launches program old s f l new t → SameInside old new
same_launched program old s f l new t h = same_updated old new h.key (Some h.child) h.added (h.launched.inside ∙ sym (ap is_inside h.free))

pub launched_inside : {A E : Type 0} (result : Result A E) (program : Module) (old : Slab StayState) (s : StoreState) (f : Frame) (l : Launch)
    (new : Slab StayState) (t : StoreState) → OnOk result (Launches program old s f l new t) → OnErr result (IsUntouched old s new t)
    → SameInside old new
launched_inside result program old s f l new t ok err = same_either result old new s t (same_launched program old s f l new t) ok err

-- one comes back
same_back : (program : Module) (old : Slab StayState) (s : StoreState) (f : Frame) (from key : ℕ) (new : Slab StayState) (t : StoreState)
    → ComesBack program old s f from key new t → SameInside old new
same_back program old s f from key new t h = same_updated old new key (Some h.next) h.changed
    (ap (λ (a : StayState). a.inside) h.goes.rest ∙ sym (ap is_inside h.is_there))

pub back_inside : {A E : Type 0} (result : Result A E) (program : Module) (old : Slab StayState) (s : StoreState) (f : Frame) (from key : ℕ)
    (new : Slab StayState) (t : StoreState) → OnOk result (ComesBack program old s f from key new t) → OnErr result (IsUntouched old s new t)
    → SameInside old new
back_inside result program old s f from key new t ok err = same_either result old new s t (same_back program old s f from key new t) ok err

-- ---- a step

-- after a step of the stay with a key
pub insider_written : (slab : Slab StayState) (key : ℕ) (a b : StayState) (inside : Option ℕ) → get slab key ≡ Some a → AreOutside slab key
    → inside ≡ insider_of b.inside key → IsInsider (with_value slab key b) inside
insider_written slab key a b inside there outside is = subst (IsInsider (with_value slab key b)) (sym is)
    (insider_after slab (with_value slab key b) key b (written slab key a b there) outside)
