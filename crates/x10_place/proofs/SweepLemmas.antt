-- One step of a sweep.
use Rattle.std.proofs.Common.{◌≡◌, ◌≢◌, ℕ, ◌+◌, ◌≤◌, true, false, List, Option, Some, None, Result, Ok, Err, refl, sym, ap, subst, ◌∙◌, inl, inr, arith}
use Rattle.std.specs.Prelude.{IsSome, IfNone, IfSome}
use Rattle.slab.specs.Slab.{get, slab_len, ContainsKey}
use Rattle.x10_kinds.specs.declared.stop.Stop.{Stop}
use Rattle.x10_kinds.specs.declared.stop.Stop.TheVariants as stop
use Rattle.x10_place.specs.declared.place.Stepped.{Stepped}
use Rattle.x10_place.specs.declared.place.Stepped.TheVariants as stepped
use Rattle.x10_place.specs.declared.sent.Sent.{Sent}
use Rattle.x10_place.specs.Messages.{no_sent}
use Rattle.x10_place.specs.Stays.{StayState}
use Rattle.x10_place.specs.StandsFor.{PlaceState, Keeps, LeadsAll, AreOutside, IsIdleAt}
use Rattle.x10_place.specs.Sweeps.{IsPace, moves_in, GoesOn, EndsSweep, Sweeps, SweepsTo, quietly}

answer_is : (answer other : Stepped) → ◌≡◌ {A = Result Stepped Stop} (Ok answer) (Ok other) → answer ≡ other
answer_is answer other e = cc

refused_not : (answer : Stepped) (why : Stop) → ◌≡◌ {A = Result Stepped Stop} (Ok answer) (Err why) → ⊥
refused_not answer why e = absurd cc

some_of : {A : Type 0} (o : Option A) → IsSome o → (a : A) × (o ≡ Some a)
some_of None h = absurd cc
some_of (Some a) h = (a, refl)

none_of : {A : Type 0} (o : Option A) → (IsSome o → ⊥) → o ≡ None
none_of None free = refl
none_of (Some a) free = absurd (free refl)

-- a step that was answered, as a sweep counts it
module _ (key m : ℕ) (p q : PlaceState) (answer : Stepped)
    (idle : p.stopped ≢ true → IsIdleAt p key → ◌≡◌ {A = Result Stepped Stop} (Ok answer) (Ok stepped.Idle) × (q ≡ p))
    (only : p.stopped ≢ true → ◌≡◌ {A = Result Stepped Stop} (Ok answer) (Ok stepped.Idle) → IsIdleAt p key)
    (some : (a : StayState) → get p.stays key ≡ Some a → a.away ≡ false → AreOutside p.stays key → LeadsAll p key answer q)
    (stopped : p.stopped ≡ true → ◌≡◌ {A = Result Stepped Stop} (Ok answer) (Err stop.Stopped)) (goes : q.stopped ≢ true) (kept : Keeps p q) where
  on : p.stopped ≢ true
  on e = refused_not answer stop.Stopped (stopped e)

  pace : IsPace key p answer q
  pace = record {
    on = on;
    idle = λ i. (answer_is answer stepped.Idle (idle on i).0, (idle on i).1);
    only = λ e. only on (ap Ok e);
    some = some;
    goes = goes;
    kept = kept;
  }

  pace_as : (other : Stepped) → answer ≡ other → IsPace key p other q
  pace_as other e = subst (λ a. IsPace key p a q) e pace

  pub idle_goes_on : (vacant : ℕ) → vacant ≡ p.stays.vacant_key → get p.stays vacant ≡ None → answer ≡ stepped.Idle → GoesOn key m p m q
  idle_goes_on vacant is free e =
      let same : q ≡ p = (pace.idle (pace.only e)).1 in
      record {
        answer = stepped.Idle;
        quiet = inl refl;
        pace = pace_as stepped.Idle e;
        none_begun = ap (λ (x : PlaceState). get x.stays p.stays.vacant_key) same ∙ subst (λ k. get p.stays k ≡ None) is free;
        none_ended = ap (λ (x : PlaceState). slab_len x.stays) same;
        count = omega arith;
      }

  pub moved_goes_on : (sent : Sent) (vacant : ℕ) → vacant ≡ p.stays.vacant_key → (ContainsKey q.stays vacant → ⊥) → answer ≡ stepped.Moved sent
      → sent ≡ no_sent → slab_len q.stays ≡ slab_len p.stays → GoesOn key m p (m + 1) q
  moved_goes_on sent vacant is free e nothing same = record {
    answer = stepped.Moved no_sent;
    quiet = inr refl;
    pace = subst (λ s. IsPace key p (stepped.Moved s) q) nothing (pace_as (stepped.Moved sent) e);
    none_begun = subst (λ k. get q.stays k ≡ None) is (none_of (get q.stays vacant) free);
    none_ended = same;
    count = refl;
  }

  pub ends_by_sent : (sent : Sent) → answer ≡ stepped.Moved sent → sent ≢ no_sent → EndsSweep key m p sent (m + 1) q
  ends_by_sent sent e some = record { pace = pace_as (stepped.Moved sent) e; parts = inl some; count = refl }

  pub ends_by_begun : (sent : Sent) → answer ≡ stepped.Moved sent → (vacant : ℕ) → vacant ≡ p.stays.vacant_key → get p.stays vacant ≡ None
      → ContainsKey q.stays vacant → EndsSweep key m p sent (m + 1) q
  ends_by_begun sent e vacant is free begun = record {
    pace = pace_as (stepped.Moved sent) e;
    parts = inr (inl (record {
      free = subst (λ k. get p.stays k ≡ None) is free;
      begun = subst (λ k. (a : StayState) × (get q.stays k ≡ Some a)) is (some_of (get q.stays vacant) begun);
    }));
    count = refl;
  }

  pub ends_by_end : (sent : Sent) → answer ≡ stepped.Moved sent → slab_len q.stays ≢ slab_len p.stays → EndsSweep key m p sent (m + 1) q
  ends_by_end sent e other = record { pace = pace_as (stepped.Moved sent) e; parts = inr (inr other); count = refl }

-- ---- a sweep

moves_few : (answer : Stepped) → moves_in answer ≤ 1
moves_few stepped.Idle = omega arith
moves_few (stepped.Moved sent) = omega arith

pub counted : (key m n at : ℕ) (p q : PlaceState) → GoesOn key m p n q → m ≤ at → n ≤ at + 1
counted key m n at p q g few = let one = moves_few g.answer in
    omega (arith, g.count, one, few)

pub goes_on_as : (key m n : ℕ) (p q : PlaceState) (o : Option Sent) → IfNone o (GoesOn key m p n q) → o ≡ None → GoesOn key m p n q
goes_on_as key m n p q o h e = subst (λ x. IfNone x (GoesOn key m p n q)) e h

pub ends_as : (key m n : ℕ) (p q : PlaceState) (o : Option Sent) (sent : Sent) → IfSome o (λ x. EndsSweep key m p x n q) → o ≡ Some sent
    → EndsSweep key m p sent n q
ends_as key m n p q o sent h e = subst (λ x. IfSome x (λ y. EndsSweep key m p y n q)) e h

-- a place that had stopped makes no step
pub never_on : (old p q : PlaceState) (at : ℕ) (o : Option Sent) → (old.stopped ≡ true → (at ≡ 0) × (p ≡ old))
    → (p.stopped ≡ true → ◌≡◌ {A = Result (Option Sent) Stop} (Ok o) (Err stop.Stopped)) → old.stopped ≡ true → (at + 1 ≡ 0) × (q ≡ old)
never_on old p q at o first refused e = absurd (not_ok (refused (ap (λ (x : PlaceState). x.stopped) (first e).1 ∙ e)))
  where
    not_ok : ◌≡◌ {A = Result (Option Sent) Stop} (Ok o) (Err stop.Stopped) → ⊥
    not_ok e = absurd cc

pub sweeps_as : (keys : List ℕ) (p q : PlaceState) (n m k : ℕ) → k ≡ m → Sweeps keys p n m q → Sweeps keys p n k q
sweeps_as keys p q n m k e h = subst (λ x. Sweeps keys p n x q) (sym e) h

pub all_quiet : (keys : List ℕ) (p q : PlaceState) (n all m : ℕ) (sent : Sent) → n ≡ all → sent ≡ no_sent → Sweeps keys p n m q
    → SweepsTo keys p all m sent q
all_quiet keys p q n all m sent e nothing h = subst (λ s. SweepsTo keys p all m s q) (sym nothing)
    (quietly all m q (subst (λ k. Sweeps keys p k m q) e h))
