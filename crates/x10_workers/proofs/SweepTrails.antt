-- Steps of a sweep, as the turn of a worker tells them.
use Rattle.std.proofs.Common.{◌≡◌, ℕ, ◌+◌, Bool, false, ◌||◌, nat_lt, List, [], ◌∷◌, ◌++◌, Some, true, refl, sym, ap, subst, ◌∙◌, inl, inr, arith}
use Rattle.std.specs.Prelude.{take, slice_get}
use Rattle.std.proofs.lemmas.Bool.Decides.{nat_tests}
use Rattle.std.proofs.lemmas.Option.{slice_get_within, get_or_from_slice_get}
use Rattle.std.proofs.lemmas.List.{take_more}
use Rattle.x10_place.specs.declared.place.Stepped.{Stepped}
use Rattle.x10_place.specs.declared.place.Stepped.TheVariants as stepped
use Rattle.x10_place.specs.declared.sent.Sent.{Sent}
use Rattle.x10_place.specs.StandsFor.{PlaceState}
use Rattle.x10_place.specs.Sweeps.{IsPace, IsQuiet, moves_in, Sweeps, unswept, swept, SweepsTo, quietly, loudly}
use Rattle.x10_workers.specs.Trails.{frames_out, frames_sent, StepsBy, by_step, StepsEach}
use Rattle.x10_workers.proofs.WorkLemmas.{steps_more, step_alone}

paced : (p q : PlaceState) (key : ℕ) (answer : Stepped) → IsPace key p answer q → StepsBy p key answer q
paced p q key answer pace =
    by_step answer q (record { idle = pace.idle; only = pace.only; some = pace.some; goes = pace.goes }) pace.kept

quiet_frames : (answer : Stepped) → IsQuiet answer → frames_out answer ≡ []
quiet_frames answer (inl e) = subst (λ a. frames_out a ≡ []) (sym e) refl
quiet_frames answer (inr e) = subst (λ a. frames_out a ≡ []) (sym e) refl

one_more : (keys : List ℕ) (n key : ℕ) → slice_get keys n ≡ Some key → take (n + 1) keys ≡ take n keys ++ key ∷ []
one_more keys n key at = take_more keys n key (slice_get_within keys n key at)
    ∙ ap (λ k. take n keys ++ k ∷ []) (get_or_from_slice_get keys n key key at)

-- steps that put nothing out
sweeps_each : (keys : List ℕ) (p : PlaceState) (n m : ℕ) (q : PlaceState) → Sweeps keys p n m q → StepsEach p (take n keys) [] q
sweeps_each keys p n m q (unswept) = (refl, refl)
sweeps_each keys p n m q (swept k i j key r s before at goes) =
    subst (λ ks. StepsEach p ks [] s) (sym (one_more keys k key at))
    (steps_more p r s (take k keys) (key ∷ []) [] [] (sweeps_each keys p k i r before)
    (subst (λ fs. StepsEach r (key ∷ []) fs s) (quiet_frames goes.answer goes.quiet)
    (step_alone r s key goes.answer (paced r s key goes.answer goes.pace))))

-- and of which the last one may
pub sweeps_to_each : (keys : List ℕ) (p : PlaceState) (n m : ℕ) (sent : Sent) (q : PlaceState) → SweepsTo keys p n m sent q
    → StepsEach p (take n keys) (frames_sent sent) q
sweeps_to_each keys p n m sent q (quietly k i r far) = sweeps_each keys p k i r far
sweeps_to_each keys p n m sent q (loudly k i j key o r s before at ends) =
    subst (λ ks. StepsEach p ks (frames_sent o) s) (sym (one_more keys k key at))
    (steps_more p r s (take k keys) (key ∷ []) [] (frames_sent o) (sweeps_each keys p k i r before)
    (step_alone r s key (stepped.Moved o) (paced r s key (stepped.Moved o) ends.pace)))

is_idle : (answer : Stepped) → moves_in answer ≡ 0 → answer ≡ stepped.Idle
is_idle stepped.Idle e = refl
is_idle (stepped.Moved sent) e = absurd (omega (arith, e))

-- where none moved, the place is as it was
sweeps_still : (keys : List ℕ) (p : PlaceState) (n m : ℕ) (q : PlaceState) → Sweeps keys p n m q → m ≡ 0 → q ≡ p
sweeps_still keys p n m q (unswept) e = refl
sweeps_still keys p n m q (swept k i j key r s before at goes) e =
    let none : i ≡ 0 = omega (arith, e, goes.count) in
    let idle : moves_in goes.answer ≡ 0 = omega (arith, e, goes.count) in
    (goes.pace.idle (goes.pace.only (is_idle goes.answer idle))).1 ∙ sweeps_still keys p k i r before none

pub swept_still : (keys : List ℕ) (p : PlaceState) (n m : ℕ) (sent : Sent) (q : PlaceState) → SweepsTo keys p n m sent q → m ≡ 0 → q ≡ p
swept_still keys p n m sent q (quietly k i r far) e = sweeps_still keys p k i r far e
swept_still keys p n m sent q (loudly k i j key o r s before at ends) e = absurd (omega (arith, e, ends.count))

-- nothing had moved, and nothing has
none_moved : (moved : ℕ) → nat_lt 0 moved ≡ false → moved ≡ 0
none_moved moved e = grind (arith, nat_tests, e)

pub none_or : (before : Bool) (moved : ℕ) → (before || nat_lt 0 moved) ≡ false → (before ≡ false) × (moved ≡ 0)
none_or true moved e = absurd cc
none_or false moved e = (refl, none_moved moved e)
