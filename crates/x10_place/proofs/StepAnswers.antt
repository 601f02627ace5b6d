-- Steps of a place, as its own functions answer them.
use Rattle.std.proofs.Common.{◌≡◌, ◌≢◌, ◌⊎◌, ℕ, ◌<◌, Bool, true, false, Some, Result, Ok, Err, sym, ap, ap₂, subst, ◌∙◌}
use Rattle.std.specs.Prelude.{IfOk, MatchResult, is_err}
use Rattle.slab.specs.Slab.{Slab, get}
use Rattle.x10_kinds.specs.declared.limit.Limit.{Limit}
use Rattle.x10_kinds.specs.declared.stop.Stop.{Stop}
use Rattle.x10_kinds.specs.declared.stop.Stop.TheVariants as stop
use Rattle.x10_verify.specs.Certified.{Certified}
use Rattle.x10_place.specs.declared.place.Stepped.{Stepped}
use Rattle.x10_place.specs.declared.place.Stepped.TheVariants as stepped
use Rattle.x10_place.specs.declared.sent.Sent.{Sent}
use Rattle.x10_place.specs.Messages.{no_sent}
use Rattle.x10_place.specs.Stays.{StayState, StoreState}
use Rattle.x10_place.specs.StandsFor.{PlaceState, place_of, IsStanding, LeadsAll, IsIdleAt, IsOverfull, IsHindered, inside_at, AreOutside, kept_out}
use Rattle.x10_place.specs.Stretches.{IsUntouched, IsAdvanced, IsRun, Strides, StridesTo, BeginsLast, at_once}
use Rattle.x10_place.proofs.StepsOfPlace.{stopped_standing, same_stopped}

-- a place where nothing has changed, whether it has stopped or not
same_place : (v : Certified) (old new : Slab StayState) (s t : StoreState) (b c : Bool) → IsUntouched old s new t → c ≡ b
    → place_of v new t c ≡ place_of v old s b
same_place v old new s t b c same e =
    ap (λ (slab : Slab StayState). record (place_of v new t c) { stays = slab }) same.stays ∙ ap₂ (λ u d. place_of v old u d) same.store e

-- ---- a step that is kept out

module _ (w : PlaceState) (key : ℕ) (out : (other : ℕ) × (inside_at w.stays other ≡ true) × (other ≢ key)) where
  pub out_idle : IsIdleAt w key
  out_idle = kept_out out.0 out.1 out.2

  pub out_not : AreOutside w.stays key → ⊥
  out_not outside = out.2 (outside out.0 out.1)

-- ---- one step

module _ (v u : Certified) (kept : u ≡ v) (old new : Slab StayState) (s t : StoreState) (key : ℕ) (b c : Bool) (w : PlaceState)
    (seen : place_of v old s b ≡ w) where
  pub step_idle : (result : Result Stepped Stop) → IsAdvanced v old s key result new t → b ≡ false → c ≡ is_err result → IsIdleAt w key
      → (result ≡ Ok stepped.Idle) × (place_of u new t c ≡ w)
  step_idle result h off flag idle =
      let at = h.idle b (subst (λ p. IsIdleAt p key) (sym seen) idle) in
      (at.0, ap (λ x. place_of x new t c) kept ∙ same_place v old new s t b c at.1 (flag ∙ ap is_err at.0 ∙ sym off) ∙ seen)

  pub step_only : (result : Result Stepped Stop) → IsAdvanced v old s key result new t → result ≡ Ok stepped.Idle → IsIdleAt w key
  step_only result h e = subst (λ p. IsIdleAt p key) seen (h.only b e)

  pub step_some : (result : Result Stepped Stop) → IsAdvanced v old s key result new t → b ≡ false → c ≡ is_err result → (a : StayState)
      → get w.stays key ≡ Some a → a.away ≡ false → IfOk result (λ answer. LeadsAll w key answer (place_of u new t c))
  step_some (Ok answer) h off flag a e ready =
      subst (λ p. LeadsAll p key answer (place_of u new t c)) seen
      (subst (λ x. LeadsAll (place_of v old s b) key answer (place_of x new t c)) (sym kept)
      (subst (λ d. LeadsAll (place_of v old s b) key answer (place_of v new t d)) (off ∙ sym flag)
      (h.some b a (subst (λ (p : PlaceState). get p.stays key ≡ Some a) (sym seen) e) ready)))
  step_some (Err why) h off flag a e ready = tt

  pub step_full : (result : Result Stepped Stop) → IsAdvanced v old s key result new t → (limit : Limit) → IsOverfull w key limit
      → result ≡ Err (stop.Limit limit)
  step_full result h limit over = h.full b limit (subst (λ p. IsOverfull p key limit) (sym seen) over)

  -- ---- steps at a stretch

  pub run_ran : (most n : ℕ) (result : Result Sent Stop) → IsRun v old s key most n result new t → b ≡ false → c ≡ is_err result
      → MatchResult result (λ sent. StridesTo key w n sent (place_of u new t c))
      (λ x. (p : PlaceState) × Strides key w n p × (place_of u new t c ≡ record p { stopped = true }) × (w.stopped ≢ true → IsHindered p key x))
  run_ran most n (Ok sent) h off flag = subst (λ p. StridesTo key p n sent (place_of u new t c)) seen
      (subst (λ x. StridesTo key (place_of v old s b) n sent (place_of x new t c)) (sym kept)
      (subst (λ d. StridesTo key (place_of v old s b) n sent (place_of v new t d)) (off ∙ sym flag) (h.ran b)))
  run_ran most n (Err x) h off flag = (
    place_of v new t b,
    subst (λ p. Strides key p n (place_of v new t b)) seen (h.ran b),
    ap (λ x. place_of x new t c) kept ∙ ap (λ d. place_of v new t d) flag,
    (λ on. h.refused b),
  )

  pub run_all : (most n : ℕ) (result : Result Sent Stop) → IsRun v old s key most n result new t → b ≡ false → c ≡ is_err result
      → IfOk result (λ sent. n < most → IsIdleAt (place_of u new t c) key ⊎ BeginsLast key w n (place_of u new t c) ⊎ (sent ≢ no_sent))
  run_all most n (Ok sent) h off flag = λ less.
      subst (λ p. IsIdleAt (place_of u new t c) key ⊎ BeginsLast key p n (place_of u new t c) ⊎ (sent ≢ no_sent)) seen
      (subst (λ x. IsIdleAt (place_of x new t c) key ⊎ BeginsLast key (place_of v old s b) n (place_of x new t c) ⊎ (sent ≢ no_sent)) (sym kept)
      (subst (λ d. IsIdleAt (place_of v new t d) key ⊎ BeginsLast key (place_of v old s b) n (place_of v new t d) ⊎ (sent ≢ no_sent))
      (off ∙ sym flag) (h.all less b)))
  run_all most n (Err x) h off flag = tt

-- a place that had stopped makes no step
pub run_stopped : (w : PlaceState) (key : ℕ) → w.stopped ≡ true
    → (p : PlaceState) × Strides key w 0 p × (w ≡ record p { stopped = true }) × (w.stopped ≢ true → IsHindered p key stop.Stopped)
run_stopped w key e = (w, at_once, same_stopped w e, (λ on. absurd (on e)))

pub flagged : (v u : Certified) → u ≡ v → (slab : Slab StayState) (t : StoreState) (c : Bool) → IsStanding (place_of v slab t false)
    → IsStanding (place_of u slab t c)
flagged v u kept slab t c h = subst (λ x. IsStanding (place_of x slab t c)) (sym kept) (stopped_standing (place_of v slab t false) c h)
