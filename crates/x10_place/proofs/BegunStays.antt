-- An activity that begins at a place: the stay that begins it goes on, and what may refuse it.
use Rattle.std.proofs.Common.{◌≡◌, ℕ, ◌<◌, true, false, inl, inr, Some, refl, sym, ap, subst, ◌∙◌, arith}
use Rattle.std.specs.Prelude.{IsSome}
use Rattle.std.proofs.lemmas.Option.{same_Some}
use Rattle.x10_kinds.specs.declared.limit.Limit.{Limit}
use Rattle.slab.specs.Slab.{Slab, get, Updates, with_value}
use Rattle.slab.proofs.SlabLemmas.{Updates-with_value}
use Rattle.x10_verify.specs.Certified.{Certified}
use Rattle.x10_place.specs.Parting.{DepartsBy}
use Rattle.x10_place.specs.declared.outcome.Departure.{Departure}
use Rattle.x10_place.specs.declared.outcome.Departure.TheVariants as departure
use Rattle.x10_place.specs.declared.call_frame.CallFrame.{CallFrame}
use Rattle.x10_place.specs.StandsFor.{place_of, OverfillsBegin}
use Rattle.x10_place.specs.Stays.{StayState, StoreState, GoesNext, totals_in, innermost_at}

abbrev pub stepped_on : StayState → CallFrame → StayState
stepped_on a f = record a { top = f }

-- the stay with a key went on, and nothing else changed
pub went_on : (slab : Slab StayState) (key : ℕ) (a b : StayState) (f : CallFrame) → get slab key ≡ Some a → GoesNext a.top f → get slab key ≡ Some b
    → (c : StayState) × GoesNext b.top c.top × (c ≡ record b { top = c.top }) × Updates slab (with_value slab key (stepped_on a f)) key (Some c)
went_on slab key a b f there next e =
    let same : a ≡ b = same_Some a b (sym there ∙ e) in (
      stepped_on a f,
      subst (λ (x : StayState). GoesNext x.top f) same next,
      ap (λ x. stepped_on x f) same,
      Updates-with_value slab key (stepped_on a f) (subst (λ o. IsSome o) (sym there) refl),
    )

-- there is a key for one activity more, and room under its finish
pub has_room : (verified : Certified) (slab : Slab StayState) (s : StoreState) (key : ℕ) (limit : Limit) (vacant live : ℕ) (a b : StayState)
    → vacant ≡ slab.vacant_key → vacant < 4294967296 → get slab key ≡ Some a → live ≡ (totals_in s (innermost_at s.here a)).live
    → (live ≡ 4294967295 → ⊥)
    → get slab key ≡ Some b → OverfillsBegin (place_of verified slab s false) b limit → ⊥
has_room verified slab s key limit vacant live a b is few there counted less e (inl (ten, many)) = absurd (omega (arith, is, few, many))
has_room verified slab s key limit vacant live a b is few there counted less e (inr (six, fits, full)) =
    let same : a ≡ b = same_Some a b (sym there ∙ e) in
    let at : live ≡ (totals_in s (innermost_at s.here b)).live = counted ∙ ap (λ x. (totals_in s (innermost_at s.here x)).live) same in
    less (omega (arith, at, full))

-- ---- an activity is sent, or goes on elsewhere

-- the stay with a key waits
pub parts_away : (slab : Slab StayState) (key : ℕ) (a b : StayState) (w : Departure) → w ≡ departure.At → get slab key ≡ Some a
    → get slab key ≡ Some b → (c : StayState) × DepartsBy w b c × Updates slab (with_value slab key (record a { away = true })) key (Some c)
parts_away slab key a b w is there e = (
  record a { away = true },
  subst (λ q. DepartsBy q b (record a { away = true })) (sym is)
      (ap (λ (x : StayState). let y : StayState = record x { away = true } in y) (same_Some a b (sym there ∙ e))),
  Updates-with_value slab key (record a { away = true }) (subst (λ q. IsSome q) (sym there) refl),
)

-- the stay with a key goes on
pub parts_on : (slab : Slab StayState) (key : ℕ) (a b : StayState) (w : Departure) (f : CallFrame) → w ≡ departure.Ata → get slab key ≡ Some a
    → GoesNext a.top f → get slab key ≡ Some b → (c : StayState) × DepartsBy w b c × Updates slab (with_value slab key (stepped_on a f)) key (Some c)
parts_on slab key a b w f is there goes e = let on = went_on slab key a b f there goes e in
    (on.0, subst (λ q. DepartsBy q b on.0) (sym is) (on.1, on.2), on.3)
