-- A log of which all turns are found in trails, and all turns of the trails in it, is that of a run.
use Rattle.std.proofs.Common.{◌≡◌, ◌≢◌, ◌↔◌, ℕ, zero, suc, ◌+◌, ◌<◌, ◌≤◌, false, List, [], ◌∷◌, ◌++◌, Some, Ok, length, map, replicate, refl, sym, ap, subst, ◌∙◌, inl, inr, arith, drop-cons}
use Rattle.std.specs.Prelude.{IsTrue, drop, slice_get, slice_set}
use Rattle.std.proofs.lemmas.Bool.{cases_lt}
use Rattle.std.proofs.lemmas.List.{drop_all, length-set}
use Rattle.std.proofs.lemmas.Option.{same_Some, slice_get_within, get_or_from_slice_get}
use Rattle.x10_model.specs.Structure.{bounds_of}
use Rattle.x10_model.specs.Places.{Line}
use Rattle.x10_model.specs.Worlds.{World, IsOver}
use Rattle.x10_model.proofs.Lists.{set_off}
use Rattle.x10_verify.specs.Certified.{Certified, IsCertified}
use Rattle.x10_place.specs.StandsFor.{PlaceState, store_of, line_as}
use Rattle.x10_place.specs.Stays.{IsDoneHere}
use Rattle.x10_hall.specs.declared.turn.Turn.{Turn}
use Rattle.x10_world.specs.Endings.{lines_at}
use Rattle.x10_flights.specs.Flights.{FlightsState}
use Rattle.x10_world.specs.Opening.{IsOpenedPlace, AreOpened, IsOpenedWorld, IsForbidden}
use Rattle.x10_world.specs.Queries.{IsClosed}
use Rattle.x10_world.specs.StandsForWorld.{WorldState, StandsForWorld, world_of, IsWorld}
use Rattle.x10_world.proofs.QueryLemmas.{over_is}
use Rattle.x10_world.proofs.OpeningLemmas.{opening_stands, opened_world}
use Rattle.x10_world.proofs.Lists.{set_here, set_either}
use Rattle.x10_workers.specs.declared.trail.Trail.{Trail}
use Rattle.x10_workers.specs.Plays.{Plays, plays_none, plays_more, IsPlayed}
use Rattle.x10_workers.specs.Trails.{TrailLeads, EndsAs, IsTrail}
use Rattle.x10_workers.specs.Workings.{IsTrailOf, AreTrails}
use Rattle.x10_workers.specs.Weaves.{Woven, nothing_woven, Weaves, WeavesAll, weaves_none, weaves_more, AreAllWoven}
use Rattle.x10_workers.proofs.FlightTables.{IsTable}
use Rattle.x10_workers.proofs.PlayLemmas.{played}
use Rattle.x10_workers.proofs.Woven.{turn_plays}

-- ---- lists

some_at : {X : Type 0} (xs : List X) (i : ℕ) → i < length xs → (x : X) × (slice_get xs i ≡ Some x)
some_at [] i lt = absurd (omega (arith, lt))
some_at (x ∷ xs) zero lt = (x, refl)
some_at (x ∷ xs) (suc i) lt = some_at xs i (omega (arith, lt))

replicate_at : {X : Type 0} (n i : ℕ) (x : X) → i < n → slice_get (replicate n x) i ≡ Some x
replicate_at zero i x lt = absurd (omega (arith, lt))
replicate_at (suc n) zero x lt = refl
replicate_at (suc n) (suc i) x lt = replicate_at n i x (omega (arith, lt))

-- what stands at a number, and what is behind
drop_at_some : {X : Type 0} (xs : List X) (i : ℕ) (x : X) → slice_get xs i ≡ Some x → drop i xs ≡ x ∷ drop (suc i) xs
drop_at_some xs i x is = drop-cons xs i x (slice_get_within xs i x is) ∙ ap (λ y. y ∷ drop (suc i) xs) (get_or_from_slice_get xs i x x is)

-- two lists are the same that agree at each number
same_maps : {X Y Z : Type 0} (f : X → Z) (g : Y → Z) (xs : List X) (ys : List Y) → length xs ≡ length ys
    → ((i : ℕ) (x : X) → slice_get xs i ≡ Some x → (y : Y) × (slice_get ys i ≡ Some y) × (f x ≡ g y)) → map f xs ≡ map g ys
same_maps f g [] [] long each = refl
same_maps f g [] (y ∷ ys) long each = absurd (omega (arith, long))
same_maps f g (x ∷ xs) [] long each = absurd (omega (arith, long))
same_maps f g (x ∷ xs) (y ∷ ys) long each =
    let first = each 0 x refl in
    ap (λ z. z ∷ map f xs) (first.2 ∙ ap g (same_Some first.0 y (sym first.1)))
    ∙ ap (λ zs. g y ∷ zs) (same_maps f g xs ys (omega (arith, long)) (λ i z is. each (suc i) z is))

-- trails, whoever holds them: each is one, of a module that the verifier accepts
abbrev pub AreSound : List Trail → Type 0
AreSound trails = (id : ℕ) (t : Trail) → slice_get trails id ≡ Some t → IsTrail t × IsCertified t.certified

-- a trail of a place, one of so many of a module, begins where that place does
pub record Begins (c : Certified) (places id : ℕ) (t : Trail) : Type 0 where
  pub first : PlaceState
  pub opened : IsOpenedPlace c places id first
  pub ends : EndsAs first t.turns t

begins_as : (c : Certified) (places id : ℕ) (t : Trail) → IsTrail t → IsTrailOf c places id t → Begins c places id t
begins_as c places id t trail of = record {
  first = trail.first;
  opened = subst (λ n. IsOpenedPlace c places n trail.first) of.id_is
      (subst (λ n. IsOpenedPlace c n t.id trail.first) of.places_are
      (subst (λ d. IsOpenedPlace d t.places t.id trail.first) of.certified_is trail.opened));
  ends = trail.ends;
}

-- a trail for each place of a permitted number, of a module that the verifier accepts
pub record AreBegun (c : Certified) (trails : List Trail) : Type 0 where
  pub certified : IsCertified c
  pub permitted : IsForbidden c (length trails) → ⊥
  pub each : (id : ℕ) (t : Trail) → slice_get trails id ≡ Some t → Begins c (length trails) id t

pub are_begun : (c : Certified) (trails : List Trail) (t : Trail) → AreSound trails → AreTrails c trails → slice_get trails 0 ≡ Some t
    → AreBegun c trails
are_begun c trails t sound are is = record {
  certified = subst (λ d. IsCertified d) of.certified_is (sound 0 t is).1;
  permitted = λ f. (sound 0 t is).0.permitted (subst (λ d. IsForbidden d t.places) (sym of.certified_is)
      (subst (λ n. IsForbidden c n) (sym of.places_are) f));
  each = λ id u there. begins_as c (length trails) id u (sound id u there).0 (are.each id u there);
}
  where
    of : IsTrailOf c (length trails) 0 t
    of = are.each 0 t is

module _ (c : Certified) (trails : List Trail) (bounds-are : bounds_of c.program ≡ Ok c.bounds) where
  -- what of its trail a place has before it
  record Left (cursors : List ℕ) (id : ℕ) (p : PlaceState) : Type 0 where
    cursor : ℕ
    trail : Trail
    cursor_is : slice_get cursors id ≡ Some cursor
    trail_is : slice_get trails id ≡ Some trail
    ends : EndsAs p (drop cursor trail.turns) trail

  -- so far the log leads a world from its beginning, and each place goes on as the rest of its trail
  record Follows (x : Woven) (log : List Turn) : Type 0 where
    first : WorldState
    opened : IsOpenedWorld c (length trails) first
    places : List PlaceState
    flights : FlightsState
    count_is : length places ≡ length trails
    going : IsWorld c.program c.bounds places flights false
    table_is : IsTable x.flying flights
    plays : Plays first log (world_of c places flights false)
    left : (id : ℕ) (p : PlaceState) → slice_get places id ≡ Some p → Left x.cursors id p

  -- ---- one turn more

  module _ (x y : Woven) (log : List Turn) (t : Turn) (f : Follows x log) (w : Weaves trails x t y) where
    here : (p : PlaceState) × (slice_get f.places t.place ≡ Some p)
    here = (let lt = slice_get_within trails t.place w.next.trail w.next.trail_is in let count = f.count_is in
        some_at f.places t.place (omega (arith, lt, count)))

    before : Left x.cursors t.place here.0
    before = f.left t.place here.0 here.1

    ends : EndsAs here.0 (drop w.cursor w.next.trail.turns) w.next.trail
    ends =
        subst (λ n. EndsAs here.0 (drop n w.next.trail.turns) w.next.trail)
        (same_Some before.cursor w.cursor (sym before.cursor_is ∙ w.next.cursor_is))
        (subst (λ r. EndsAs here.0 (drop before.cursor r.turns) r)
        (same_Some before.trail w.next.trail (sym before.trail_is ∙ w.next.trail_is)) before.ends)

    next : TrailLeads here.0 (w.own ∷ drop (suc w.cursor) w.next.trail.turns) ends.last
    next = subst (λ ts. TrailLeads here.0 ts ends.last) (drop_at_some w.next.trail.turns w.cursor w.own w.next.own_is) ends.leads

    abbrev cursors : List ℕ
    cursors = slice_set x.cursors t.place (w.cursor + 1)

    left_here : Left cursors t.place next.0
    left_here = record {
      cursor = w.cursor + 1;
      trail = w.next.trail;
      cursor_is = set_here x.cursors t.place (w.cursor + 1) w.cursor w.next.cursor_is;
      trail_is = w.next.trail_is;
      ends = record {
        last = ends.last;
        leads = (let more : suc w.cursor ≡ w.cursor + 1 = omega arith in
            subst (λ n. TrailLeads next.0 (drop n w.next.trail.turns) ends.last) more next.2);
        lines = ends.lines;
        closed = ends.closed;
      };
    }

    left_off : (id : ℕ) (p : PlaceState) → id ≢ t.place → Left x.cursors id p → Left cursors id p
    left_off id p off l = record {
      cursor = l.cursor;
      trail = l.trail;
      cursor_is = set_off x.cursors t.place id (w.cursor + 1) off ∙ l.cursor_is;
      trail_is = l.trail_is;
      ends = l.ends;
    }

    left_then : (id : ℕ) (p : PlaceState) → slice_get (slice_set f.places t.place next.0) id ≡ Some p → Left cursors id p
    left_then id p is = elim (set_either f.places t.place id next.0 p here.0 here.1 is) [
      | inl at ↦ subst (λ k. Left cursors k p) (sym at.0) (subst (λ q. Left cursors t.place q) at.1 left_here)
      | inr off ↦ left_off id p off.0 (f.left id p off.1)
    ]

    follows_more : Follows y (log ++ t ∷ [])
    follows_more =
        let played = turn_plays c bounds-are f.places f.flights x.flying w.middle here.0 next.0 w.own t f.going f.table_is here.1 next.1 w.same
        w.takes in
        subst (λ z. Follows z (log ++ t ∷ [])) (sym w.new_is) (record {
          first = f.first;
          opened = f.opened;
          places = slice_set f.places t.place next.0;
          flights = played.flights_then;
          count_is = length-set f.places t.place next.0 ∙ f.count_is;
          going = played.going;
          table_is = played.table_is;
          plays = plays_more log t (world_of c f.places f.flights false)
              (world_of c (slice_set f.places t.place next.0) played.flights_then false) f.plays played.plays;
          left = left_then;
        })

  follows_all : (x y : Woven) (log : List Turn) → Follows x [] → WeavesAll trails x log y → Follows y log
  follows_all x y [] f weaves_none = f
  follows_all x y _ f (weaves_more turns t u v before one) = follows_more u y turns t (follows_all x u turns f before) one

  -- ---- the beginning

  -- places at their beginning, one for each trail, of which the first has a given number
  record Firsts (ts : List Trail) (from : ℕ) : Type 0 where
    places : List PlaceState
    count_is : length places ≡ length ts
    each : (id : ℕ) (p : PlaceState) → slice_get places id ≡ Some p
        → (t : Trail) × (slice_get ts id ≡ Some t) × IsOpenedPlace c (length trails) (from + id) p × EndsAs p t.turns t

  firsts_more : (t : Trail) (ts : List Trail) (from : ℕ) → Begins c (length trails) (from + 0) t → Firsts ts (suc from) → Firsts (t ∷ ts) from
  firsts_more t ts from this rest = record { places = this.first ∷ rest.places; count_is = ap suc rest.count_is; each = go }
    where
      go : (id : ℕ) (p : PlaceState) → slice_get (this.first ∷ rest.places) id ≡ Some p
          → (u : Trail) × (slice_get (t ∷ ts) id ≡ Some u) × IsOpenedPlace c (length trails) (from + id) p × EndsAs p u.turns u
      go zero p is = let same : this.first ≡ p = same_Some this.first p is in
          (t, refl, subst (λ q. IsOpenedPlace c (length trails) (from + 0) q) same this.opened, subst (λ q. EndsAs q t.turns t) same this.ends)
      go (suc id) p is = (let r = rest.each id p is in let same : suc from + id ≡ from + suc id = omega arith in
          (r.0, r.1, subst (λ n. IsOpenedPlace c (length trails) n p) same r.2, r.3))

  firsts : (ts : List Trail) (from : ℕ) → ((id : ℕ) (t : Trail) → slice_get ts id ≡ Some t → Begins c (length trails) (from + id) t) → Firsts ts from
  firsts [] from each = record { places = []; count_is = refl; each = λ id p is. absurd cc }
  firsts (t ∷ ts) from each = firsts_more t ts from (each 0 t refl)
      (firsts ts (suc from) (λ id u is. let same : from + suc id ≡ suc from + id = omega arith in
      subst (λ n. Begins c (length trails) n u) same (each (suc id) u is)))

  begins : AreBegun c trails → Follows (nothing_woven (length trails)) []
  begins are = record {
    first = world_of c places flights false;
    opened = record {
      program = refl;
      bounds = refl;
      places = opened;
      stopped = refl;
      flying = refl;
      posted = refl;
      stands = opening_stands c (length trails) (world_of c places flights false) are.certified some refl refl opened refl;
    };
    places = places;
    flights = flights;
    count_is = made.count_is;
    going = opened_world c (length trails) places flights are.certified some few opened refl refl;
    table_is = record { posted = refl; flying = refl };
    plays = plays_none;
    left = left;
  }
    where
      made : Firsts trails 0
      made = firsts trails 0 (λ id t is. let same : id ≡ 0 + id = omega arith in subst (λ n. Begins c (length trails) n t) same (are.each id t is))

      places : List PlaceState
      places = made.places

      flights : FlightsState
      flights = record { places = length trails; posted = 0; room = 0; flying = [] }

      opened : AreOpened c (length trails) places
      opened = record {
        count_is = made.count_is;
        each = λ id p is. let same : 0 + id ≡ id = omega arith in
            subst (λ n. IsOpenedPlace c (length trails) n p) same (made.each id p is).2;
      }

      some : 0 < length trails
      some = elim (cases_lt (length trails) c.program.least_places) [
        | inl lt ↦ absurd (are.permitted (inl lt))
        | inr ge ↦ (let least = are.certified.fits.least_places.0 in omega (arith, ge, least))
      ]

      few : length trails ≤ 64
      few = elim (cases_lt 64 (length trails)) [
        | inl lt ↦ absurd (are.permitted (inr lt))
        | inr ge ↦ omega (arith, ge)
      ]

      left : (id : ℕ) (p : PlaceState) → slice_get places id ≡ Some p → Left (replicate (length trails) 0) id p
      left id p is =
          let r = made.each id p is in
          record {
            cursor = 0;
            trail = r.0;
            cursor_is = replicate_at (length trails) id 0 (slice_get_within trails id r.0 r.1);
            trail_is = r.1;
            ends = r.3;
          }

  -- ---- the end

  -- where all of its trail is behind a place, it is the trail's last
  record IsAtEnd (id : ℕ) (p : PlaceState) : Type 0 where
    trail : Trail
    trail_is : slice_get trails id ≡ Some trail
    lines : map line_as trail.lines ≡ map line_as p.lines
    closed : IsTrue trail.closed ↔ ((p.id ≡ 0) × IsDoneHere (store_of p) 0)

  at_end : (y : Woven) (log : List Turn) (f : Follows y log) → AreAllWoven trails y → (id : ℕ) (p : PlaceState) → slice_get f.places id ≡ Some p
      → IsAtEnd id p
  at_end y log f all id p is =
      let l = f.left id p is in
      let long : l.cursor ≡ length l.trail.turns = same_Some l.cursor (length l.trail.turns) (sym l.cursor_is ∙ all id l.trail l.trail_is) in
      let none : drop l.cursor l.trail.turns ≡ [] = drop_all l.cursor l.trail.turns (omega (arith, long)) in
      let last : l.ends.last ≡ p = subst (λ ts. TrailLeads p ts l.ends.last) none l.ends.leads in
      record {
        trail = l.trail;
        trail_is = l.trail_is;
        lines = l.ends.lines ∙ ap (λ (q : PlaceState). map line_as q.lines) last;
        closed = subst (λ (q : PlaceState). IsTrue l.trail.closed ↔ ((q.id ≡ 0) × IsDoneHere (store_of q) 0)) last l.ends.closed;
      }

  -- a log that is found in trails, with nothing left in them, is a run, whose outputs are the trails' lines
  pub woven_is_played : (y : Woven) (log : List Turn) (outputs : List (List Line)) (t : Trail) → AreBegun c trails
      → WeavesAll trails (nothing_woven (length trails)) log y → AreAllWoven trails y → slice_get trails 0 ≡ Some t → IsTrue t.closed
      → outputs ≡ map (λ u. map line_as u.lines) trails
      → IsPlayed c (length trails) log outputs
  woven_is_played y log outputs t are weaves all first closed lines =
      played c (length trails) log outputs f.first (world_of c f.places f.flights false) f.opened f.plays at_home over (lines ∙ sym same)
    where
      f : Follows y log
      f = follows_all (nothing_woven (length trails)) y log (begins are) weaves

      main : (p : PlaceState) × (slice_get f.places 0 ≡ Some p)
      main = (let lt = slice_get_within trails 0 t first in let count = f.count_is in some_at f.places 0 (omega (arith, lt, count)))

      at_home : IsClosed f.places
      at_home p is = let e = at_end y log f all 0 p is in (e.closed.0
          (subst (λ (u : Trail). IsTrue u.closed) (same_Some t e.trail (sym first ∙ e.trail_is)) closed)).1

      over : (w : World) → StandsForWorld (world_of c f.places f.flights false) w → IsOver w
      over w stands =
          let e = at_end y log f all 0 main.0 main.1 in
          (over_is (world_of c f.places f.flights false) (world_of c f.places f.flights false) c.program c.bounds main.0 e.trail.closed refl
          f.going.belong main.1 e.closed w stands).0 (subst (λ (u : Trail). IsTrue u.closed)
          (same_Some t e.trail (sym first ∙ e.trail_is)) closed)

      same : lines_at f.places ≡ map (λ u. map line_as u.lines) trails
      same = same_maps (λ p. map line_as p.lines) (λ u. map line_as u.lines) f.places trails f.count_is
          (λ id p is. let e = at_end y log f all id p is in (e.trail, e.trail_is, sym e.lines))
