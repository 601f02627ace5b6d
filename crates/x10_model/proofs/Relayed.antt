-- The worked run over three places, event by event.
use Rattle.std.proofs.Common.{◌≡◌, ℕ, zero, suc, ◌≤◌, List, [], ◌∷◌, Option, Some, None, refl, subst, arith, lit≤}
use Rattle.std.specs.Prelude.{slice_get, drop}
use Rattle.x10_model.specs.declared.event.Event.{Event}
use Rattle.x10_model.specs.declared.event.Event.TheVariants.{Step, Deliver}
use Rattle.x10_model.specs.Places as places
use Rattle.x10_model.specs.Places.{Origin, Effect, with_stay}
use Rattle.x10_model.specs.Worlds.{Unused, World, Allows, Ideal, Steps, Delivers, steps, delivers, Run, done, then, WithinBounds}
use Rattle.x10_model.specs.Relay.{relaying, relay_bounds, relay_events, RelayRuns}
use Rattle.x10_model.specs.Modules.{Function}
use Rattle.x10_model.specs.Ranges.{function_at}
use Rattle.x10_model.specs.Copies.{IsOfKindIn}
use Rattle.x10_model.specs.Signatures.{FitSlots}
use Rattle.x10_model.specs.Moves.{Moves, new_stay}
use Rattle.x10_model.specs.Deliveries.{Begins}
use Rattle.x10_model.proofs.Events.{happens_right}
use Rattle.x10_model.proofs.RelayMoves.{nothing, arrived, nothing_fits, inner, main3, home3, home4, home8, middle0, middle1, middle4, last0, last1, last4, goes_there, begins_other, comes_back, move1, move2, move3, move5, move6, move7, move9, move11, move12, move13, move14, move15, move16, move17}
use Rattle.x10_model.proofs.RelayWorlds.{moved, w0, w1, w2, w3, w4, w5, w6, w7, w8, w9, w10, w11, w12, w13, w14, w15, w16, w17}
use Rattle.x10_model.proofs.RelayEnds.{inner_ended}
use Rattle.std.proofs.lemmas.Option.{same_Some}

-- ---- the bounds

abbrev InBounds : World → Type 0
InBounds w = WithinBounds relay_bounds w

alone : (w : World) (n : ℕ) → w.book.begun ≡ 1 → (w.book.activities 0).function ≡ 2 → (w.book.activities 0).steps ≡ n → n ≤ 10 → InBounds w
alone w n begun function made le zero bound lt e =
    let is : 10 ≡ bound = same_Some 10 bound (subst (λ f. slice_get relay_bounds f ≡ Some bound) function e) in
    omega arith
alone w n begun function made le (suc a) bound lt e = absurd (omega arith)

both : (w : World) (m n : ℕ) → w.book.begun ≡ 2 → (w.book.activities 0).function ≡ 2 → (w.book.activities 0).steps ≡ m → m ≤ 10
    → (w.book.activities 1).function ≡ 0 → (w.book.activities 1).steps ≡ n → n ≤ 3 → InBounds w
both w m n begun f0 s0 l0 f1 s1 l1 zero bound lt e =
    let is : 10 ≡ bound = same_Some 10 bound (subst (λ f. slice_get relay_bounds f ≡ Some bound) f0 e) in
    omega arith
both w m n begun f0 s0 l0 f1 s1 l1 (suc zero) bound lt e =
    let is : 3 ≡ bound = same_Some 3 bound (subst (λ f. slice_get relay_bounds f ≡ Some bound) f1 e) in
    omega arith
both w m n begun f0 s0 l0 f1 s1 l1 (suc (suc a)) bound lt e = absurd (omega arith)

-- ---- the run

abbrev Goes : World → List Event → Type 0
Goes w events = Run Ideal relaying (WithinBounds relay_bounds) w events w17

step_on : (u v : World) (here : ℕ) (rest : List Event) → InBounds u → Steps Ideal relaying u here 0 v → Goes v rest → Goes u (Step here 0 ∷ rest)
step_on u v here rest bound s more = then u v w17 (Step here 0) rest bound (happens_right Ideal relaying u v (Step here 0) (steps here 0 v s))
    (steps here 0 v s) more

take_on : (u v : World) (number : ℕ) (rest : List Event) → InBounds u → Delivers relaying u number v → Goes v rest → Goes u (Deliver number ∷ rest)
take_on u v number rest bound d more = then u v w17 (Deliver number) rest bound
    (happens_right Ideal relaying u v (Deliver number) (delivers number v d)) (delivers number v d) more

step_by : (w : World) (here number : ℕ) (old new : places.Place) (effect : Effect) → w.net.places here ≡ Some old
    → Moves relaying here old 0 new effect → Allows Ideal w here effect → w.net.posts number ≡ Unused
    → Steps Ideal relaying w here 0 (moved w here new effect number)
step_by w here number old new effect place_is moves allowed unused = record {
  old = old;
  new = new;
  effect = effect;
  number = number;
  place_is = place_is;
  moves = moves;
  allowed = allowed;
  unused = unused;
  net_is = refl;
  book_is = refl;
}

step1 : Steps Ideal relaying w0 0 0 w1
step1 = step_by w0 0 9 _ _ _ refl move1 tt refl

step2 : Steps Ideal relaying w1 0 0 w2
step2 = step_by w1 0 9 _ _ _ refl move2 tt refl

step3 : Steps Ideal relaying w2 0 0 w3
step3 = step_by w2 0 0 _ _ _ refl move3 tt refl

step5 : Steps Ideal relaying w4 1 0 w5
step5 = step_by w4 1 9 _ _ _ refl move5 tt refl

step6 : Steps Ideal relaying w5 1 0 w6
step6 = step_by w5 1 1 _ _ _ refl move6 tt refl

step7 : Steps Ideal relaying w6 1 0 w7
step7 = step_by w6 1 2 _ _ _ refl move7 tt refl

step9 : Steps Ideal relaying w8 0 0 w9
step9 = step_by w8 0 9 _ _ _ refl move9 tt refl

step11 : Steps Ideal relaying w10 2 0 w11
step11 = step_by w10 2 9 _ _ _ refl move11 tt refl

step12 : Steps Ideal relaying w11 2 0 w12
step12 = step_by w11 2 9 _ _ _ refl move12 tt refl

step13 : Steps Ideal relaying w12 2 0 w13
step13 = step_by w12 2 9 _ _ _ refl move13 tt refl

step14 : Steps Ideal relaying w13 0 0 w14
step14 = step_by w13 0 9 _ _ _ refl move14 inner_ended refl

step15 : Steps Ideal relaying w14 0 0 w15
step15 = step_by w14 0 9 _ _ _ refl move15 tt refl

step16 : Steps Ideal relaying w15 0 0 w16
step16 = step_by w15 0 9 _ _ _ refl move16 tt refl

step17 : Steps Ideal relaying w16 0 0 w17
step17 = step_by w16 0 9 _ _ _ refl move17 tt refl

-- a stay begins where nothing is passed
begins : (here : ℕ) (old new : places.Place) (function : ℕ) (callee : Function) (back : Option Origin)
    → function_at relaying.program function ≡ Some callee → FitSlots (IsOfKindIn nothing) here [] callee.parameters
    → (back ≡ None → callee.result ≡ None) → old.stays 0 ≡ None
    → new ≡ with_stay (record old { cells = old.cells }) 0 (Some (new_stay function [] inner back))
    → Begins relaying here old function nothing inner back 0 new
begins here old new function callee back callee_is arguments no_result free new_is = record {
  callee = callee;
  fits_function = record { callee_is = callee_is; arguments = arguments };
  no_result = no_result;
  fits_place = nothing_fits _ _;
  arguments = [];
  cells = _;
  arrives = arrived _;
  free = free;
  new_is = new_is;
}

take4 : Delivers relaying w3 0 w4
take4 = record {
  message = goes_there;
  here = 1;
  key = 0;
  old = middle0;
  new = middle1;
  flying = refl;
  place_is = refl;
  receives = (refl, begins _ _ _ _ _ _ refl tt (λ e. refl) refl refl);
  net_is = refl;
  book_is = refl;
}

take8 : Delivers relaying w7 2 w8
take8 = record {
  message = comes_back;
  here = 0;
  key = 0;
  old = home3;
  new = home4;
  flying = refl;
  place_is = refl;
  receives = (
    refl,
    refl,
    record {
      stay = main3;
      call = _;
      callee = _;
      waits = record { is_there = refl; is_away = refl; call_is = refl; is_at = refl; is_from = refl; callee_is = refl };
      fits_result = tt;
      fits_place = nothing_fits _ _;
      result = [];
      cells = _;
      arrives = arrived _;
      new_is = refl;
    },
  );
  net_is = refl;
  book_is = refl;
}

take10 : Delivers relaying w9 1 w10
take10 = record {
  message = begins_other;
  here = 2;
  key = 0;
  old = last0;
  new = last1;
  flying = refl;
  place_is = refl;
  receives = (refl, begins _ _ _ _ _ _ refl tt (λ e. refl) refl refl);
  net_is = refl;
  book_is = refl;
}

-- the events that are left after so many
abbrev after : ℕ → List Event
after n = drop n relay_events

goes17 : Goes w16 (after 16)
goes17 = step_on w16 w17 0 (after 17) (both w16 9 3 refl refl refl (lit≤ tt) refl refl (lit≤ tt)) step17
    (done w17 (both w17 10 3 refl refl refl (lit≤ tt) refl refl (lit≤ tt)))

goes16 : Goes w15 (after 15)
goes16 = step_on w15 w16 0 (after 16) (both w15 8 3 refl refl refl (lit≤ tt) refl refl (lit≤ tt)) step16 goes17

goes15 : Goes w14 (after 14)
goes15 = step_on w14 w15 0 (after 15) (both w14 7 3 refl refl refl (lit≤ tt) refl refl (lit≤ tt)) step15 goes16

goes14 : Goes w13 (after 13)
goes14 = step_on w13 w14 0 (after 14) (both w13 6 3 refl refl refl (lit≤ tt) refl refl (lit≤ tt)) step14 goes15

goes13 : Goes w12 (after 12)
goes13 = step_on w12 w13 2 (after 13) (both w12 6 2 refl refl refl (lit≤ tt) refl refl (lit≤ tt)) step13 goes14

goes12 : Goes w11 (after 11)
goes12 = step_on w11 w12 2 (after 12) (both w11 6 1 refl refl refl (lit≤ tt) refl refl (lit≤ tt)) step12 goes13

goes11 : Goes w10 (after 10)
goes11 = step_on w10 w11 2 (after 11) (both w10 6 0 refl refl refl (lit≤ tt) refl refl (lit≤ tt)) step11 goes12

goes10 : Goes w9 (after 9)
goes10 = take_on w9 w10 1 (after 10) (both w9 6 0 refl refl refl (lit≤ tt) refl refl (lit≤ tt)) take10 goes11

goes9 : Goes w8 (after 8)
goes9 = step_on w8 w9 0 (after 9) (both w8 6 0 refl refl refl (lit≤ tt) refl refl (lit≤ tt)) step9 goes10

goes8 : Goes w7 (after 7)
goes8 = take_on w7 w8 2 (after 8) (both w7 6 0 refl refl refl (lit≤ tt) refl refl (lit≤ tt)) take8 goes9

goes7 : Goes w6 (after 6)
goes7 = step_on w6 w7 1 (after 7) (both w6 5 0 refl refl refl (lit≤ tt) refl refl (lit≤ tt)) step7 goes8

goes6 : Goes w5 (after 5)
goes6 = step_on w5 w6 1 (after 6) (alone w5 4 refl refl refl (lit≤ tt)) step6 goes7

goes5 : Goes w4 (after 4)
goes5 = step_on w4 w5 1 (after 5) (alone w4 3 refl refl refl (lit≤ tt)) step5 goes6

goes4 : Goes w3 (after 3)
goes4 = take_on w3 w4 0 (after 4) (alone w3 3 refl refl refl (lit≤ tt)) take4 goes5

goes3 : Goes w2 (after 2)
goes3 = step_on w2 w3 0 (after 3) (alone w2 2 refl refl refl (lit≤ tt)) step3 goes4

goes2 : Goes w1 (after 1)
goes2 = step_on w1 w2 0 (after 2) (alone w1 1 refl refl refl (lit≤ tt)) step2 goes3

goes1 : Goes w0 (after 0)
goes1 = step_on w0 w1 0 (after 1) (alone w0 0 refl refl refl (lit≤ tt)) step1 goes2

pub relay_runs : RelayRuns
relay_runs = (w17, goes1, (home8, refl, refl, refl), (middle4, refl, refl, refl), (last4, refl, refl, refl))
