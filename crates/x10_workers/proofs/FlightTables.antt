-- The frames in flight, by their numbers.
use Rattle.std.proofs.Common.{◌≡◌, ℕ, zero, suc, ◌+◌, ◌<◌, ◌==◌, not, List, [], ◌∷◌, ◌++◌, Option, Some, None, length, refl, sym, ap, subst, ◌∙◌, arith}
use Rattle.std.specs.Prelude.{slice_get, slice_set}
use Rattle.std.proofs.lemmas.Bool.{cond-true, cond-false, ne_eqb, eq-eqb, not_from_true, not_from_false}
use Rattle.std.proofs.lemmas.List.{length-set, length-append, append-nil, append_assoc, map-append}
use Rattle.x10_place.specs.declared.sent.Outgoing.{Outgoing}
use Rattle.x10_place.specs.declared.sent.Sent.{Sent}
use Rattle.x10_place.specs.declared.place.Stepped.{Stepped}
use Rattle.x10_place.specs.declared.place.Stepped.TheVariants as stepped
use Rattle.x10_hall.specs.Halls.{PostedFrame}
use Rattle.x10_flights.specs.Flights.{Flight, FlightsState, flight_among, flight_of, without, taken_from, with_room}
use Rattle.x10_world.specs.StandsForWorld.{with_posted, with_sent, after_step}
use Rattle.x10_workers.specs.Trails.{frame_sent, frames_out}
use Rattle.x10_workers.specs.Weaves.{all_flying}

-- a frame as it flies under a number
abbrev pub flight_with : ℕ → PostedFrame → Flight
flight_with number f = record { number = number; to = f.to; bytes = f.bytes }

-- what flies, numbered from a number on
abbrev pub flights_from : ℕ → List (Option PostedFrame) → List Flight
flights_from number [] = []
flights_from number (None ∷ fs) = flights_from (suc number) fs
flights_from number (Some f ∷ fs) = flight_with number f ∷ flights_from (suc number) fs

-- what is found under a number
abbrev pub flight_at : ℕ → Option (Option PostedFrame) → Option Flight
flight_at number None = None
flight_at number (Some None) = None
flight_at number (Some (Some f)) = Some (flight_with number f)

absent : (n m : ℕ) (fs : List (Option PostedFrame)) → m < n → flight_among (flights_from n fs) m ≡ None
absent n m [] lt = refl
absent n m (None ∷ fs) lt = absent (suc n) m fs (omega (arith, lt))
absent n m (Some f ∷ fs) lt = cond-false (n == m) _ _ (ne_eqb n m (λ e. omega (arith, e, lt))) ∙ absent (suc n) m fs (omega (arith, lt))

found : (n m i : ℕ) (fs : List (Option PostedFrame)) → m ≡ n + i → flight_among (flights_from n fs) m ≡ flight_at m (slice_get fs i)
found n m i [] e = refl
found n m zero (None ∷ fs) e = absent (suc n) m fs (omega (arith, e))
found n m zero (Some f ∷ fs) e = let same : n ≡ m = omega (arith, e) in
    cond-true (n == m) _ _ (eq-eqb n m same) ∙ ap (λ k. Some (flight_with k f)) same
found n m (suc i) (None ∷ fs) e = found (suc n) m i fs (omega (arith, e))
found n m (suc i) (Some f ∷ fs) e = cond-false (n == m) _ _ (ne_eqb n m (λ s. omega (arith, s, e))) ∙ found (suc n) m i fs (omega (arith, e))

kept_all : (n m : ℕ) (fs : List (Option PostedFrame)) → m < n → without m (flights_from n fs) ≡ flights_from n fs
kept_all n m [] lt = refl
kept_all n m (None ∷ fs) lt = kept_all (suc n) m fs (omega (arith, lt))
kept_all n m (Some f ∷ fs) lt = cond-true (not (n == m)) _ _ (not_from_false _ (ne_eqb n m (λ e. omega (arith, e, lt))))
    ∙ ap (λ gs. flight_with n f ∷ gs) (kept_all (suc n) m fs (omega (arith, lt)))

removed : (n m i : ℕ) (fs : List (Option PostedFrame)) → m ≡ n + i → without m (flights_from n fs) ≡ flights_from n (slice_set fs i None)
removed n m i [] e = refl
removed n m zero (None ∷ fs) e = kept_all (suc n) m fs (omega (arith, e))
removed n m zero (Some f ∷ fs) e = cond-false (not (n == m)) _ _ (not_from_true _ (eq-eqb n m (omega (arith, e))))
    ∙ kept_all (suc n) m fs (omega (arith, e))
removed n m (suc i) (None ∷ fs) e = removed (suc n) m i fs (omega (arith, e))
removed n m (suc i) (Some f ∷ fs) e = cond-true (not (n == m)) _ _ (not_from_false _ (ne_eqb n m (λ s. omega (arith, s, e))))
    ∙ ap (λ gs. flight_with n f ∷ gs) (removed (suc n) m i fs (omega (arith, e)))

appended : (n : ℕ) (fs : List (Option PostedFrame)) (f : PostedFrame)
    → flights_from n (fs ++ Some f ∷ []) ≡ flights_from n fs ++ flight_with (n + length fs) f ∷ []
appended n [] f = let same : n ≡ n + 0 = omega arith in ap (λ k. flight_with k f ∷ []) same
appended n (None ∷ fs) f = let same : suc n + length fs ≡ n + suc (length fs) = omega arith in
    appended (suc n) fs f ∙ ap (λ k. flights_from (suc n) fs ++ flight_with k f ∷ []) same
appended n (Some g ∷ fs) f =
    let same : suc n + length fs ≡ n + suc (length fs) = omega arith in
    ap (λ gs. flight_with n g ∷ gs) (appended (suc n) fs f ∙ ap (λ k. flights_from (suc n) fs ++ flight_with k f ∷ []) same)

-- ---- tables

-- the frames of a table are those in flight, and as many were posted
pub record IsTable (table : List (Option PostedFrame)) (s : FlightsState) : Type 0 where
  pub posted : s.posted ≡ length table
  pub flying : s.flying ≡ flights_from 0 table

pub table_flight : (table : List (Option PostedFrame)) (s : FlightsState) (number : ℕ) (f : PostedFrame) → IsTable table s
    → slice_get table number ≡ Some (Some f) → flight_of s number ≡ Some (flight_with number f)
table_flight table s number f t is = ap (λ fs. flight_among fs number) t.flying ∙ found 0 number number table (omega arith)
    ∙ ap (λ o. flight_at number o) is

pub table_taken : (table : List (Option PostedFrame)) (s : FlightsState) (number : ℕ) → IsTable table s
    → IsTable (slice_set table number None) (taken_from s number)
table_taken table s number t = record {
  posted = t.posted ∙ sym (length-set table number None);
  flying = ap (λ fs. without number fs) t.flying ∙ removed 0 number number table (omega arith);
}

pub table_roomy : (table : List (Option PostedFrame)) (s : FlightsState) → IsTable table s → IsTable table (with_room s)
table_roomy table s t = record { posted = t.posted; flying = t.flying }

table_posted : (table : List (Option PostedFrame)) (s : FlightsState) (o : Option Outgoing) → IsTable table s
    → IsTable (table ++ all_flying (frame_sent o)) (with_posted s o)
table_posted table s None t = subst (λ ts. IsTable ts s) (sym (append-nil table)) t
table_posted table s (Some o) t = record {
  posted = (let long = length-append table (Some (record { to = o.to; bytes = o.bytes.items }) ∷ []) in let was = t.posted in
      omega (arith, long, was));
  flying = ap (λ fs. fs ++ flight_with s.posted (record { to = o.to; bytes = o.bytes.items }) ∷ []) t.flying
      ∙ ap (λ n. flights_from 0 table ++ flight_with n (record { to = o.to; bytes = o.bytes.items }) ∷ [])
      (let was = t.posted in let all : s.posted ≡ 0 + length table = omega (arith, was) in all)
      ∙ sym (appended 0 table (record { to = o.to; bytes = o.bytes.items }));
}

table_sent : (table : List (Option PostedFrame)) (s : FlightsState) (out : Sent) → IsTable table s
    → IsTable (table ++ all_flying (frame_sent out.message ++ frame_sent out.report)) (with_sent s out)
table_sent table s out t =
    subst (λ ts. IsTable ts (with_sent s out))
    (append_assoc table (all_flying (frame_sent out.message)) (all_flying (frame_sent out.report))
    ∙ ap (λ ts. table ++ ts) (sym (map-append (λ f. Some f) (frame_sent out.message) (frame_sent out.report))))
    (table_posted (table ++ all_flying (frame_sent out.message)) (with_posted s out.message) out.report (table_posted table s out.message t))

-- what a step puts out stands behind
pub table_stepped : (table : List (Option PostedFrame)) (s : FlightsState) (answer : Stepped) → IsTable table s
    → IsTable (table ++ all_flying (frames_out answer)) (after_step (with_room s) answer)
table_stepped table s stepped.Idle t = subst (λ ts. IsTable ts (with_room s)) (sym (append-nil table)) (table_roomy table s t)
table_stepped table s (stepped.Moved out) t = table_sent table (with_room s) out (table_roomy table s t)
