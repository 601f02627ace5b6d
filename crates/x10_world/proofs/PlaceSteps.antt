-- A step of one place of a list.
use Rattle.std.proofs.Common.{◌≡◌, ◌≢◌, ℕ, ◌≤◌, true, false, List, length, Some, Result, Ok, Err, refl, sym, ap, subst, ◌∙◌}
use Rattle.std.specs.Prelude.{IfOk, IfErr, slice_get, slice_set}
use Rattle.std.proofs.lemmas.Option.{same_Some, slice_get_past}
use Rattle.slab.specs.Slab.{get}
use Rattle.x10_kinds.specs.declared.stop.Stop.{Stop}
use Rattle.x10_kinds.specs.declared.stop.Stop.TheVariants as stop
use Rattle.x10_model.proofs.Lists.{none_some}
use Rattle.x10_place.specs.declared.place.Stepped.{Stepped}
use Rattle.x10_place.specs.declared.place.Stepped.TheVariants as stepped
use Rattle.x10_place.specs.Stays.{StayState}
use Rattle.x10_place.specs.StandsFor.{PlaceState, LeadsAll, Keeps, IsIdleAt, IsHindered, AreOutside}
use Rattle.x10_world.specs.StandsForWorld.{IsStepped, StepsOne}

-- no such place
pub none_there : (old : List PlaceState) (id key : ℕ) → length old ≤ id → StepsOne old old id key (Ok stepped.Idle)
none_there old id key le = record { gone = λ e. (refl, refl); there = λ p e. absurd (none_some (slice_get old id) p (slice_get_past old id le) e) }

refused_not : (answer : Stepped) (why : Stop) → Ok answer ≡ Err why → ⊥
refused_not answer why e = absurd cc

-- what a place's step answers
pub record Answered (p q : PlaceState) (key : ℕ) (result : Result Stepped Stop) : Type 0 where
  pub idle : p.stopped ≢ true → IsIdleAt p key → (result ≡ Ok stepped.Idle) × (q ≡ p)
  pub only : p.stopped ≢ true → result ≡ Ok stepped.Idle → IsIdleAt p key
  pub some : (a : StayState) → get p.stays key ≡ Some a → a.away ≡ false → AreOutside p.stays key → IfOk result (λ answer. LeadsAll p key answer q)
  pub stopped : p.stopped ≡ true → result ≡ Err stop.Stopped
  pub refused : p.stopped ≢ true → IfErr result (IsHindered p key)
  pub stop : IfErr result (λ why. q ≡ record p { stopped = true })
  pub goes : IfOk result (λ answer. q.stopped ≢ true)
  pub kept : Keeps p q

answer_is : (answer : Stepped) → ◌≡◌ {A = Result Stepped Stop} (Ok answer) (Ok stepped.Idle) → answer ≡ stepped.Idle
answer_is answer e = cc

stepped_is : (p q : PlaceState) (key : ℕ) (result : Result Stepped Stop) → Answered p q key result → IsStepped p q key result
stepped_is p q key (Ok answer) a =
    let on : p.stopped ≢ true = λ e. refused_not answer stop.Stopped (a.stopped e) in
    record {
      kept = a.kept;
      made = record {
        idle = λ i. let found = a.idle on i in
            (answer_is answer found.0, found.1);
        only = λ e. a.only on (ap Ok e);
        some = a.some;
        goes = a.goes;
      };
      hindered = λ e. tt;
      stop = tt;
    }
stepped_is p q key (Err why) a = record { kept = a.kept; made = tt; hindered = a.refused; stop = a.stop }

-- the place has made its step, or not
pub one_there : (old : List PlaceState) (id key : ℕ) (p q : PlaceState) (result : Result Stepped Stop) → slice_get old id ≡ Some p
    → Answered p q key result → StepsOne old (slice_set old id q) id key result
one_there old id key p q result is answered = record {
  gone = λ e. absurd (none_some (slice_get old id) p e is);
  there = λ r e. (q, refl, subst (λ x. IsStepped x q key result) (same_Some p r (sym is ∙ e)) (stepped_is p q key result answered));
}
