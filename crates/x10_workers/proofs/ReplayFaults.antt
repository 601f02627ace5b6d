-- What follows where a log's turn is made again, and something in it differs or is refused.
use Rattle.std.proofs.Common.{◌≡◌, ℕ, zero, suc, ◌<◌, Bool, true, false, List, [], ◌∷◌, ◌++◌, Some, length, map, refl, sym, ap, subst, ◌∙◌, inl, inr, arith}
use Rattle.std.specs.Prelude.{Result, Ok, Err, IfOk, IfErr, drop, take, slice_get}
use Rattle.std.proofs.lemmas.Bool.{cases_lt}
use Rattle.std.proofs.Math.Seq.{take-append_seam}
use Rattle.std.proofs.lemmas.List.{take-append-le, length-append}
use Rattle.std.proofs.lemmas.Option.{same_Some, slice_get_within}
use Rattle.x10_verify.specs.Certified.{Certified}
use Rattle.x10_place.specs.StandsFor.{PlaceState, line_as}
use Rattle.x10_hall.specs.declared.turn.Turn.{Turn}
use Rattle.x10_flights.specs.Flights.{Flight, flight_among, without}
use Rattle.x10_world.specs.Opening.{IsOpenedWorld}
use Rattle.x10_world.specs.Queries.{HasPlace}
use Rattle.x10_world.specs.StandsForWorld.{WorldState}
use Rattle.x10_workers.specs.declared.fault.AuditFault.{AuditFault}
use Rattle.x10_workers.specs.declared.fault.AuditFault.TheVariants as fault
use Rattle.x10_workers.specs.Audits.{IsNotFor, HasPrinted, IsOther, otherwise, BreaksOff, HasNotEnded, IsNotPlayed}
use Rattle.x10_workers.specs.Plays.{TakesFrames, takes_none, takes_more, StepsAll, PutsOutFrames, PrintsLines, PlaysTurn, Plays}

pub true_false : (b : Bool) → b ≡ true → b ≡ false → ⊥
true_false b t f = cc

-- ---- lists

pub front : {X : Type 0} (xs ys : List X) (i : ℕ) → i < length xs → slice_get (xs ++ ys) i ≡ slice_get xs i
front [] ys i lt = absurd (omega (arith, lt))
front (x ∷ xs) ys zero lt = refl
front (x ∷ xs) ys (suc i) lt = front xs ys i (omega (arith, lt))

pub behind : {X : Type 0} (xs : List X) (x : X) (i : ℕ) → i ≡ length xs → slice_get (xs ++ x ∷ []) i ≡ Some x
behind [] x i e = ap (λ k. slice_get (x ∷ []) k) e
behind (y ∷ xs) x zero e = absurd (omega (arith, e))
behind (y ∷ xs) x (suc i) e = behind xs x i (omega (arith, e))

-- ---- frames

-- the frames in flight, after those with some numbers were taken in
after : List Flight → List ℕ → List Flight
after fs [] = fs
after fs (n ∷ ns) = after (without n fs) ns

after_more : (fs : List Flight) (ns : List ℕ) (n : ℕ) → after fs (ns ++ n ∷ []) ≡ without n (after fs ns)
unfolding after
after_more fs [] n = refl
after_more fs (m ∷ ns) n = after_more (without m fs) ns n

-- what is taken in leaves these
left : (x : WorldState) (place : ℕ) (taken : List ℕ) (y : WorldState) → TakesFrames x place taken y → y.flights.flying ≡ after x.flights.flying taken
unfolding after
left x place [] y takes_none = refl
left x place _ y (takes_more taken number u v before one) = one.done.flights_are.flying ∙ ap (λ fs. without number fs) (left x place taken u before)
    ∙ sym (after_more x.flights.flying taken number)

-- each of them was in flight to the place, when its turn came
was_flying : (x : WorldState) (place : ℕ) (taken : List ℕ) (y : WorldState) → TakesFrames x place taken y → (at number : ℕ)
    → slice_get taken at ≡ Some number → (flight : Flight) × (flight_among (after x.flights.flying (take at taken)) number ≡ Some flight)
    × (flight.to ≡ place)
was_flying x place [] y takes_none at number is = absurd cc
was_flying x place _ y (takes_more taken last u v before one) at number is = elim (cases_lt at (length taken)) [
  | inl lt ↦ (
      let earlier = was_flying x place taken u before at number (sym (front taken (last ∷ []) at lt) ∙ is) in
      let same : take at (taken ++ last ∷ []) ≡ take at taken = take-append-le at taken (last ∷ []) (omega (arith, lt)) in
      (earlier.0, ap (λ ns. flight_among (after x.flights.flying ns) number) same ∙ earlier.1, earlier.2)
      )
  | inr ge ↦ (
      let within = slice_get_within (taken ++ last ∷ []) at number is in
      let end : at ≡ length taken = omega (arith, ge, within, length-append taken (last ∷ [])) in
      let same : take at (taken ++ last ∷ []) ≡ taken = ap (λ k. take k (taken ++ last ∷ [])) end ∙ take-append_seam taken (last ∷ []) in
      let which : last ≡ number = same_Some last number (sym (behind taken last at end) ∙ is) in
      let then : flight_among (after x.flights.flying taken) last ≡ Some one.done.flight =
      ap (λ fs. flight_among fs last) (sym (left x place taken u before)) ∙ one.done.flying in (
        one.done.flight,
        ap (λ ns. flight_among (after x.flights.flying ns) number) same
            ∙ subst (λ n. flight_among (after x.flights.flying taken) n ≡ Some one.done.flight) which then,
        one.done.to_is,
      )
      )
]

-- where one of them isn't, once those before it were taken in, no world takes them in
pub never_taken : (x z : WorldState) (place : ℕ) (taken : List ℕ) (at number : ℕ) → TakesFrames x place (take at taken) z
    → slice_get taken at ≡ Some number → IsNotFor z number place → (y : WorldState) → TakesFrames x place taken y → ⊥
never_taken x z place taken at number before is none y all =
    let flew = was_flying x place taken y all at number is in
    none flew.0 (ap (λ fs. flight_among fs number) (left x place (take at taken) z before) ∙ flew.1) flew.2

-- ---- lines

-- what a place has printed since, and what it prints
pub prints : (x y : WorldState) (place before : ℕ) (t : Turn) → HasPlace x.places place (λ p. before ≡ length p.lines)
    → HasPrinted y place before t.lines.items → PrintsLines x place t.lines.items y
prints x y place before t old new = record {
  old = old.0;
  new = new.0;
  old_is = old.1;
  new_is = new.1;
  printed = ap (λ n. map line_as (drop n new.0.lines)) (sym old.2) ∙ new.2;
}

pub printed : (x y : WorldState) (place before : ℕ) (t : Turn) → HasPlace x.places place (λ p. before ≡ length p.lines)
    → PrintsLines x place t.lines.items y → HasPrinted y place before t.lines.items
printed x y place before t old p =
    let same : old.0 ≡ p.old = same_Some old.0 p.old (sym old.1 ∙ p.old_is) in
    (p.new, p.new_is, ap (λ n. map line_as (drop n p.new.lines)) (old.2 ∙ ap (λ (q : PlaceState). length q.lines) same) ∙ p.printed)

-- ---- a turn

-- a turn that is what was put out and printed is played
pub plays_turn : (x middle y : WorldState) (t : Turn) (first before : ℕ) → first ≡ x.flights.posted
    → HasPlace x.places t.place (λ p. before ≡ length p.lines) → TakesFrames x t.place t.taken.items middle → StepsAll middle t.place t.keys y
    → PutsOutFrames first t.frames.items y → HasPrinted y t.place before t.lines.items → PlaysTurn x t y
plays_turn x middle y t first before first-is old takes steps out new = record {
  middle = middle;
  takes = takes;
  steps = steps;
  puts_out = subst (λ n. PutsOutFrames n t.frames.items y) first-is out;
  prints = prints x y t.place before t old new;
}

-- and another one isn't
pub is_other : (x middle y : WorldState) (t : Turn) (first before : ℕ) → first ≡ x.flights.posted
    → HasPlace x.places t.place (λ p. before ≡ length p.lines) → TakesFrames x t.place t.taken.items middle → StepsAll middle t.place t.keys y
    → (PutsOutFrames first t.frames.items y × HasPrinted y t.place before t.lines.items → ⊥) → IsOther x t
is_other x middle y t first before first-is old takes steps never =
    otherwise middle y takes steps (λ out new. never (
      subst (λ n. PutsOutFrames n t.frames.items y) (sym first-is) out,
      printed x y t.place before t old new,
    ))

-- ---- a log

-- what follows from three facts of an Ok
pub if_ok_all : {T E : Type 0} (r : Result T E) (A B : Type 0) (C D : T → Type 0) → IfOk r (λ x. A) → IfOk r (λ x. B) → IfOk r C
    → (A → B → (x : T) → C x → D x) → IfOk r D
if_ok_all (Ok x) A B C D a b c f = f a b x c
if_ok_all (Err e) A B C D a b c f = tt

-- and from one of an Err
pub if_err_map : {T E : Type 0} (r : Result T E) (A B : E → Type 0) → IfErr r A → ((e : E) → A e → B e) → IfErr r B
if_err_map (Ok x) A B a f = tt
if_err_map (Err e) A B a f = f e a

-- a log of which not all turns were made
pub broken_off : (c : Certified) (count : ℕ) (log : List Turn) (x : WorldState) → IsOpenedWorld c count x → (why : AuditFault) → BreaksOff x log why
    → IsNotPlayed c count log why
broken_off c count log x opened (fault.Differs number) d = (x, opened, d)
broken_off c count log x opened (fault.Stop why) h = inr (x, opened, h)
broken_off c count log x opened fault.Open never = absurd never

-- and one after which the run has not ended
pub not_ended : (c : Certified) (count : ℕ) (log : List Turn) (x y : WorldState) → IsOpenedWorld c count x → Plays x log y → (why : AuditFault)
    → HasNotEnded y why → IsNotPlayed c count log why
not_ended c count log x y opened plays (fault.Differs number) never = absurd never
not_ended c count log x y opened plays (fault.Stop why) same = inl same
not_ended c count log x y opened plays fault.Open still = (x, opened, (y, plays, still))
