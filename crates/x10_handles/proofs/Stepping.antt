-- A step of a place behind a handle is one of the place.
use Rattle.std.proofs.Common.{◌≡◌, ℕ, Bool, true, false, Some, Result, Ok, Err, refl, sym, ap}
use Rattle.std.proofs.lemmas.Bool.{false≢true}
use Rattle.std.specs.Prelude.{◌≢◌, IfOk, IfErr, is_ok}
use Rattle.slab.specs.Slab.{get}
use Rattle.x10_kinds.specs.declared.limit.Limit.{Limit}
use Rattle.x10_kinds.specs.declared.stop.Stop.{Stop}
use Rattle.x10_kinds.specs.declared.stop.Stop.TheVariants as stop
use Rattle.x10_place.specs.declared.place.Stepped.{Stepped}
use Rattle.x10_place.specs.declared.place.Stepped.TheVariants as stepped
use Rattle.x10_place.specs.declared.sent.Sent.{Sent}
use Rattle.x10_place.specs.Messages.{no_sent}
use Rattle.x10_place.specs.Stays.{StayState}
use Rattle.x10_place.specs.StandsFor.{PlaceState, LeadsAll, Keeps, IsIdleAt, IsOverfull, IsHindered, AreOutside}
use Rattle.x10_handles.specs.declared.station.Station.{Station}
use Rattle.x10_handles.specs.Stations.{IsStepped}

-- what a place ensures of its step
pub record Made (p : PlaceState) (key : ℕ) (r : Result Stepped Stop) (q : PlaceState) : Type 0 where
  pub idle : p.stopped ≢ true → IsIdleAt p key → (r ≡ Ok stepped.Idle) × (q ≡ p)
  pub only : p.stopped ≢ true → r ≡ Ok stepped.Idle → IsIdleAt p key
  pub some : (a : StayState) → get p.stays key ≡ Some a → a.away ≡ false → AreOutside p.stays key → IfOk r (λ s. LeadsAll p key s q)
  pub stopped : p.stopped ≡ true → r ≡ Err stop.Stopped
  pub refused : p.stopped ≢ true → IfErr r (IsHindered p key)
  pub full : p.stopped ≢ true → (limit : Limit) → IsOverfull p key limit → r ≡ Err (stop.Limit limit)
  pub stop : IfErr r (λ why. q ≡ record p { stopped = true })
  pub goes : IfOk r (λ s. q.stopped ≢ true)
  pub kept : Keeps p q

ok_is_no_err : {X E : Type 0} (x : X) (e : E) → Ok x ≡ Err e → ⊥
ok_is_no_err x e is = false≢true (ap is_ok (sym is))

-- whether a step moved, or why it was not made
as_told : Result Stepped Stop → Result Bool Stop
as_told (Ok stepped.Idle) = Ok false
as_told (Ok (stepped.Moved out)) = Ok true
as_told (Err why) = Err why

has_moved : Result Bool Stop → Bool
has_moved (Ok b) = b
has_moved (Err why) = false

module _ (old : Station) (key : ℕ) (q : PlaceState) where
  pub idled : Made old.place key (Ok stepped.Idle) q → IsStepped old key (Ok false) (record { place = q; sent = no_sent })
  idled m = record {
    idle = λ on i. (refl, (m.idle on i).1);
    only = λ on e. m.only on refl;
    some = m.some;
    stopped = λ e. absurd (ok_is_no_err stepped.Idle stop.Stopped (m.stopped e));
    refused = λ on. tt;
    full = λ on limit over. absurd (ok_is_no_err stepped.Idle (stop.Limit limit) (m.full on limit over));
    stop = tt;
    goes = m.goes;
    kept = m.kept;
    silent = λ e. refl;
  }

  pub moved : (out : Sent) → Made old.place key (Ok (stepped.Moved out)) q → IsStepped old key (Ok true) (record { place = q; sent = out })
  unfolding has_moved as_told
  moved out m = record {
    idle = λ on i. absurd (false≢true (ap has_moved (ap as_told (sym (m.idle on i).0))));
    only = λ on e. absurd (false≢true (ap has_moved (sym e)));
    some = m.some;
    stopped = λ e. absurd (ok_is_no_err (stepped.Moved out) stop.Stopped (m.stopped e));
    refused = λ on. tt;
    full = λ on limit over. absurd (ok_is_no_err (stepped.Moved out) (stop.Limit limit) (m.full on limit over));
    stop = tt;
    goes = m.goes;
    kept = m.kept;
    silent = λ e. absurd (e refl);
  }

  pub halted : (why : Stop) → Made old.place key (Err why) q → IsStepped old key (Err why) (record { place = q; sent = no_sent })
  unfolding as_told
  halted why m = record {
    idle = λ on i. absurd (ok_is_no_err stepped.Idle why (sym (m.idle on i).0));
    only = λ on e. absurd (ok_is_no_err false why (sym e));
    some = λ a there ready out. tt;
    stopped = λ e. ap as_told (m.stopped e);
    refused = m.refused;
    full = λ on limit over. ap as_told (m.full on limit over);
    stop = m.stop;
    goes = tt;
    kept = m.kept;
    silent = λ e. refl;
  }
