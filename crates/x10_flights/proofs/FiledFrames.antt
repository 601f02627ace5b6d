-- What keeps the frames filed.
use Rattle.std.proofs.Common.{◌≡◌, ℕ, ◌+◌, ◌-◌, ◌<◌, ◌≤◌, ◌≢◌, ◌==◌, ◌^◌, true, false, cond, List, [], ◌∷◌, ◌++◌, Some, All, slice_get, ◌↔◌, length, set, refl, sym, ◌∙◌, ap, subst, arith, inl, inr}
use Rattle.std.proofs.lemmas.Bool.{cond-true, cond-false, cond_both, eq-eqb, ne_eqb, cases_eq, cases_lt, cases_Bool, false_from_ne_true}
use Rattle.std.proofs.lemmas.List.{get_or-set_same, get_or-set_other, length-set, get_or_past}
use Rattle.std.proofs.lemmas.List.Elements.{All-push, All-filter, All-head, All-tail}
use Rattle.std.proofs.lemmas.Option.{same_Some}
use Rattle.x10_flights.specs.Flights.{Flight, flight_among, goes_to, flies_to, without, RisingBy, Tabled, Queued, nothing, numbers_at, spare_at, Has, IsNext, FirstFlies, has_any, AreFiled}
use Rattle.x10_flights.specs.PlaceSets.{has_place}
use Rattle.x10_flights.proofs.RisingKeys.{rising_top, rising_push, rising_filter}
use Rattle.x10_flights.proofs.FlightsQueues.{Has-append, Has-push, any_pushed, any_has}
use Rattle.x10_flights.proofs.FlightsFirsts.{begins_more, begins_posted, begins_without, first_is_next, first_of}
use Rattle.x10_flights.proofs.FlightsLookups.{flies_pushed, flies_without}

-- what flies has what all that fly have
pub among_all : (P : Flight → Type 0) (fs : List Flight) (n : ℕ) (f : Flight) → All P fs → flight_among fs n ≡ Some f → P f
among_all P [] n f h e = absurd (cc)
among_all P (g ∷ fs) n f h e = elim (cases_Bool (g.number == n)) [
  | inl t ↦ subst P (same_Some g f (sym (cond-true (g.number == n) (Some g) (flight_among fs n) t) ∙ e)) (All-head P g fs h)
  | inr u ↦ among_all P fs n f (All-tail P g fs h) (sym (cond-false (g.number == n) (Some g) (flight_among fs n) u) ∙ e)
]

abbrev mark : ℕ → ℕ → ℕ
mark a p = cond (a == p) 1 0

one : (a p : ℕ) → mark a p ≤ 1
one a p = cond_both (a == p) 1 0 (λ x. x ≤ 1) (λ _. omega arith) (λ _. omega arith)

none : (a p : ℕ) → (a ≡ p → ⊥) → mark a p ≡ 0
none a p h = cond-false (a == p) 1 0 (ne_eqb a p h)

same : (a p : ℕ) → a ≡ p → mark a p ≡ 1
same a p h = cond-true (a == p) 1 0 (eq-eqb a p h)

module _ (queues : List Queued) (i : ℕ) (q : Queued) (within : i < length queues) where
  numbers_same : (p : ℕ) → i ≡ p → numbers_at (set queues i q) p ≡ q.numbers
  numbers_same p e = ap (λ (k : ℕ). numbers_at (set queues i q) k) (sym e)
      ∙ ap (λ (x : Queued). x.numbers) (get_or-set_same queues i q nothing within)

  numbers_other : (p : ℕ) → (p ≡ i → ⊥) → numbers_at (set queues i q) p ≡ numbers_at queues p
  numbers_other p h = ap (λ (x : Queued). x.numbers) (get_or-set_other queues i p q nothing h)

  spare_same : (p : ℕ) → i ≡ p → spare_at (set queues i q) p ≡ q.spare
  spare_same p e = ap (λ (k : ℕ). spare_at (set queues i q) k) (sym e) ∙ ap (λ (x : Queued). x.spare) (get_or-set_same queues i q nothing within)

  spare_other : (p : ℕ) → (p ≡ i → ⊥) → spare_at (set queues i q) p ≡ spare_at queues p
  spare_other p h = ap (λ (x : Queued). x.spare) (get_or-set_other queues i p q nothing h)

-- there is room in the queue of each place, while there is room
pub roomy : (queues : List Queued) (table : Tabled) (room first second awaited p : ℕ) → AreFiled queues table room first second awaited → 0 < room
    → p < length queues → 1 ≤ spare_at queues p
roomy queues table room first second awaited p f r h =
    omega (arith, f.spare p h, one first p, none second p (λ e. omega (arith, f.second_is r, f.places)))

-- a frame more
pub filed_post : (queues : List Queued) (table new : Tabled) (room first second awaited new_awaited to : ℕ) (bytes : List ℕ) (q : Queued)
    → AreFiled queues table room first second awaited → 0 < room → to < length queues →
    q.numbers ≡ numbers_at queues to ++ table.posted ∷ [] → spare_at queues to ≤ q.spare + 1 →
    new.posted ≡ table.posted + 1 → table.spare ≤ new.spare + 1
    → new.flying ≡ table.flying ++ (record { number = table.posted; to = to; bytes = bytes }) ∷ [] →
    has_place new_awaited to ≡ true → ((p : ℕ) → p ≢ to → has_place new_awaited p ≡ has_place awaited p) →
    AreFiled (set queues to q) new (room - 1) to first new_awaited
filed_post queues table new room first second awaited new_awaited to bytes q f r h qn qs np ns nf at others = let x : Flight =
    record { number = table.posted; to = to; bytes = bytes } in record {
      numbered = subst (λ (fs : List Flight). RisingBy (λ g. g.number) 0 fs new.posted) (sym nf)
          (subst (RisingBy (λ g. g.number) 0 (table.flying ++ x ∷ [])) (sym np)
          (rising_push (λ (g : Flight). g.number) 0 table.flying table.posted x (omega arith) refl f.numbered));
      there = subst (λ (fs : List Flight). All (λ g. g.to < length (set queues to q)) fs) (sym nf)
          (subst (λ (n : ℕ). All (λ (g : Flight). g.to < n) (table.flying ++ x ∷ [])) (sym (length-set queues to q))
          (All-push (λ (g : Flight). g.to < length queues) table.flying x f.there h));
      few = omega (arith, f.few);
      places = omega (arith, f.places, length-set queues to q);
      rising = λ p. elim (cases_eq to p) [
        | inl e ↦ subst (λ (ns : List ℕ). RisingBy (λ n. n) 0 ns new.posted) (sym (numbers_same queues to q h p e ∙ qn))
            (subst (RisingBy (λ n. n) 0 (numbers_at queues to ++ table.posted ∷ [])) (sym np)
            (rising_push (λ (n : ℕ). n) 0 (numbers_at queues to) table.posted table.posted (omega arith) refl (f.rising to)))
        | inr u ↦ subst (λ (ns : List ℕ). RisingBy (λ n. n) 0 ns new.posted) (sym (numbers_other queues to q h p (λ e. u (sym e))))
            (rising_top (λ (n : ℕ). n) 0 (numbers_at queues p) table.posted new.posted (omega arith) (f.rising p))
      ];
      filed = λ p n t. elim (flies_pushed 0 table.flying x p n f.numbered (subst (λ (fs : List Flight). flies_to fs p n ≡ true) nf t)) [
        | inl l ↦ elim (cases_eq to p) [
          | inl e ↦ subst (λ (ns : List ℕ). Has ns n) (sym (numbers_same queues to q h p e ∙ qn))
              (Has-append (numbers_at queues to) (table.posted ∷ []) n (subst (λ (k : ℕ). Has (numbers_at queues k) n) (sym e) (f.filed p n l)))
          | inr u ↦ subst (λ (ns : List ℕ). Has ns n) (sym (numbers_other queues to q h p (λ e. u (sym e)))) (f.filed p n l)
        ]
        | inr l ↦ subst (λ (ns : List ℕ). Has ns n) (sym (numbers_same queues to q h p (sym l.1) ∙ qn))
            (subst (Has (numbers_at queues to ++ table.posted ∷ [])) (sym l.0) (Has-push (numbers_at queues to) table.posted))
      ];
      begins = λ p. subst (λ (fs : List Flight). FirstFlies fs p (numbers_at (set queues to q) p)) (sym nf) (elim (cases_eq to p) [
        | inl e ↦ subst (FirstFlies (table.flying ++ x ∷ []) p) (sym (numbers_same queues to q h p e ∙ qn))
            (subst (λ (k : ℕ). FirstFlies (table.flying ++ x ∷ []) k (numbers_at queues to ++ table.posted ∷ [])) e
            (begins_posted table.flying x (numbers_at queues to) f.numbered (f.begins to)))
        | inr u ↦ subst (FirstFlies (table.flying ++ x ∷ []) p) (sym (numbers_other queues to q h p (λ e. u (sym e))))
            (begins_more table.flying x p (numbers_at queues p) f.numbered (f.begins p))
      ]);
      awaits = λ p. elim (cases_eq to p) [
        | inl e ↦ ap (has_place new_awaited) (sym e) ∙ at ∙ sym (ap has_any (numbers_same queues to q h p e ∙ qn)
            ∙ any_pushed (numbers_at queues to) table.posted)
        | inr u ↦ others p (λ e. u (sym e)) ∙ f.awaits p ∙ ap has_any (sym (numbers_other queues to q h p (λ e. u (sym e))))
      ];
      room_is = omega (arith, f.room_is);
      spare = λ p l. let in' : p < length queues = omega (arith, length-set queues to q, l) in elim (cases_eq to p) [
        | inl e ↦ omega (
          arith,
          spare_same queues to q h p e,
          same to p e,
          f.spare p in',
          none second p (λ d. omega (arith, f.second_is r, f.places)),
          ap (spare_at queues) e,
        )
        | inr u ↦ omega (arith, spare_other queues to q h p (λ e. u (sym e)), f.spare p in', none second p (λ d. omega (arith, f.second_is r, f.places)))
      ];
      at_most = omega (arith, f.at_most);
      second_is = λ a. f.first_is (omega arith);
      first_is = λ a. absurd (omega (arith, f.at_most));
    }

-- a frame fewer
pub filed_take : (queues : List Queued) (table new : Tabled) (room first second awaited new_awaited to number : ℕ) (gone : Flight) (q : Queued)
    → AreFiled queues table room first second awaited → to < length queues →
    flight_among table.flying number ≡ Some gone → gone.to ≡ to →
    ((n : ℕ) → flies_to new.flying to n ≡ true → Has (numbers_at queues to) n → Has q.numbers n) →
    ((top : ℕ) → RisingBy (λ n. n) 0 (numbers_at queues to) top → RisingBy (λ n. n) 0 q.numbers top) →
    FirstFlies new.flying to q.numbers → spare_at queues to ≤ q.spare →
    new.posted ≡ table.posted → table.spare ≤ new.spare → new.flying ≡ without number table.flying →
    has_place new_awaited to ≡ has_any q.numbers → ((p : ℕ) → p ≢ to → has_place new_awaited p ≡ has_place awaited p) →
    AreFiled (set queues to q) new room first second new_awaited
filed_take queues table new room first second awaited new_awaited to number gone q f h is gt kept rises begins qs np ns nf at others = record {
  numbered = subst (λ (fs : List Flight). RisingBy (λ g. g.number) 0 fs new.posted) (sym nf)
      (subst (RisingBy (λ g. g.number) 0 (without number table.flying)) (sym np)
      (rising_filter (λ (g : Flight). g.number) _ 0 table.flying table.posted f.numbered));
  there = subst (λ (fs : List Flight). All (λ g. g.to < length (set queues to q)) fs) (sym nf)
      (subst (λ (n : ℕ). All (λ (g : Flight). g.to < n) (without number table.flying)) (sym (length-set queues to q))
      (All-filter _ (λ (g : Flight). g.to < length queues) table.flying f.there));
  few = omega (arith, f.few);
  places = omega (arith, f.places, length-set queues to q);
  rising = λ p. subst (RisingBy (λ n. n) 0 (numbers_at (set queues to q) p)) (sym np) (elim (cases_eq to p) [
    | inl e ↦ subst (λ (ns : List ℕ). RisingBy (λ n. n) 0 ns table.posted) (sym (numbers_same queues to q h p e)) (rises table.posted (f.rising to))
    | inr u ↦ subst (λ (ns : List ℕ). RisingBy (λ n. n) 0 ns table.posted) (sym (numbers_other queues to q h p (λ e. u (sym e)))) (f.rising p)
  ]);
  filed = λ p n t. let there : Has (numbers_at queues p) n = f.filed p n
      (flies_without number table.flying p n (subst (λ (fs : List Flight). flies_to fs p n ≡ true) nf t)) in elim (cases_eq to p) [
        | inl e ↦ subst (λ (ns : List ℕ). Has ns n) (sym (numbers_same queues to q h p e))
            (kept n (subst (λ (k : ℕ). flies_to new.flying k n ≡ true) (sym e) t) (subst (λ (k : ℕ). Has (numbers_at queues k) n) (sym e) there))
        | inr u ↦ subst (λ (ns : List ℕ). Has ns n) (sym (numbers_other queues to q h p (λ e. u (sym e)))) there
      ];
  begins = λ p. elim (cases_eq to p) [
    | inl e ↦ subst (FirstFlies new.flying p) (sym (numbers_same queues to q h p e)) (subst (λ (k : ℕ). FirstFlies new.flying k q.numbers) e begins)
    | inr u ↦ subst (FirstFlies new.flying p) (sym (numbers_other queues to q h p (λ e. u (sym e))))
        (subst (λ (fs : List Flight). FirstFlies fs p (numbers_at queues p)) (sym nf)
        (begins_without number table.flying p gone (numbers_at queues p) is (λ e. u (sym gt ∙ e)) (f.begins p)))
  ];
  awaits = λ p. elim (cases_eq to p) [
    | inl e ↦ ap (has_place new_awaited) (sym e) ∙ at ∙ sym (ap has_any (numbers_same queues to q h p e))
    | inr u ↦ others p (λ e. u (sym e)) ∙ f.awaits p ∙ ap has_any (sym (numbers_other queues to q h p (λ e. u (sym e))))
  ];
  room_is = omega (arith, f.room_is);
  spare = λ p l. let in' : p < length queues = omega (arith, length-set queues to q, l) in elim (cases_eq to p) [
    | inl e ↦ omega (arith, spare_same queues to q h p e, f.spare p in', ap (spare_at queues) e)
    | inr u ↦ omega (arith, spare_other queues to q h p (λ e. u (sym e)), f.spare p in')
  ];
  at_most = f.at_most;
  second_is = f.second_is;
  first_is = f.first_is;
}

-- a place is awaited while a frame is in flight to it
pub awaited_before : (queues : List Queued) (table : Tabled) (room first second awaited to number : ℕ) (gone : Flight)
    → AreFiled queues table room first second awaited →
    flight_among table.flying number ≡ Some gone → gone.to ≡ to → has_place awaited to ≡ true
awaited_before queues table room first second awaited to number gone f is gt =
    f.awaits to ∙ any_has (numbers_at queues to) number (f.filed to number (ap (goes_to to) is ∙ eq-eqb gone.to to gt))

-- more room alone
pub filed_widen : (queues wider : List Queued) (table new : Tabled) (room first second awaited : ℕ) → AreFiled queues table room first second awaited
    →
    length wider ≡ length queues → ((p : ℕ) → numbers_at wider p ≡ numbers_at queues p) → ((p : ℕ) → spare_at queues p ≤ spare_at wider p) →
    new.posted ≡ table.posted → table.spare ≤ new.spare → new.flying ≡ table.flying →
    AreFiled wider new room first second awaited
filed_widen queues wider table new room first second awaited f wl wn ws np ns nf = record {
  numbered = subst (λ (fs : List Flight). RisingBy (λ g. g.number) 0 fs new.posted) (sym nf)
      (subst (RisingBy (λ g. g.number) 0 table.flying) (sym np) f.numbered);
  there = subst (λ (fs : List Flight). All (λ g. g.to < length wider) fs) (sym nf)
      (subst (λ (n : ℕ). All (λ (g : Flight). g.to < n) table.flying) (sym wl) f.there);
  few = omega (arith, f.few);
  places = omega (arith, f.places);
  rising = λ p. subst (λ (ns : List ℕ). RisingBy (λ n. n) 0 ns new.posted) (sym (wn p))
      (subst (RisingBy (λ n. n) 0 (numbers_at queues p)) (sym np) (f.rising p));
  filed = λ p n t. subst (λ (ns : List ℕ). Has ns n) (sym (wn p)) (f.filed p n (subst (λ (fs : List Flight). flies_to fs p n ≡ true) nf t));
  begins = λ p. subst (FirstFlies new.flying p) (sym (wn p)) (subst (λ (fs : List Flight). FirstFlies fs p (numbers_at queues p)) (sym nf)
      (f.begins p));
  awaits = λ p. f.awaits p ∙ ap has_any (sym (wn p));
  room_is = omega (arith, f.room_is);
  spare = λ p l. omega (arith, ws p, f.spare p (omega arith));
  at_most = f.at_most;
  second_is = f.second_is;
  first_is = f.first_is;
}

-- and room for two everywhere
pub filed_room : (queues : List Queued) (table : Tabled) (room first second awaited : ℕ) → AreFiled queues table room first second awaited →
    2 ≤ table.spare → table.posted + 2 < 2 ^ 64 → (first < length queues → 2 ≤ spare_at queues first)
    → (second < length queues → 2 ≤ spare_at queues second) →
    AreFiled queues table 2 65535 65535 awaited
filed_room queues table room first second awaited f ts few a b = record {
  numbered = f.numbered;
  there = f.there;
  few = few;
  places = f.places;
  rising = f.rising;
  filed = f.filed;
  begins = f.begins;
  awaits = f.awaits;
  room_is = ts;
  spare = λ p l. elim (cases_eq first p) [
    | inl e ↦ omega (arith, a (omega arith), ap (spare_at queues) e)
    | inr u ↦ elim (cases_eq second p) [
      | inl e ↦ omega (arith, b (omega arith), ap (spare_at queues) e)
      | inr v ↦ omega (arith, f.spare p l, none first p u, none second p v)
    ]
  ];
  at_most = omega arith;
  second_is = λ _. refl;
  first_is = λ _. refl;
}

empty_at : (queues : List Queued) (p : ℕ) → All (λ q. (q.numbers ≡ []) × (2 ≤ q.spare)) queues → numbers_at queues p ≡ []
empty_at queues p h = elim (cases_lt p (length queues)) [
  | inl l ↦ (h p nothing l).0
  | inr g ↦ ap (λ (q : Queued). q.numbers) (get_or_past queues p nothing g)
]

-- nothing flies yet
pub filed_none : (queues : List Queued) (awaited : ℕ) → length queues ≤ 64 → All (λ q. (q.numbers ≡ []) × (2 ≤ q.spare)) queues
    → ((p : ℕ) → has_place awaited p ≡ false) → AreFiled queues (record { posted = 0; spare = 0; flying = [] }) 0 65535 65535 awaited
filed_none queues awaited l h none_in = record {
  numbered = tt;
  there = λ k d a. absurd (omega arith);
  few = omega arith;
  places = l;
  rising = λ p. subst (λ (ns : List ℕ). RisingBy (λ n. n) 0 ns 0) (sym (empty_at queues p h)) tt;
  filed = λ p n t. absurd (cc);
  begins = λ p. subst (FirstFlies [] p) (sym (empty_at queues p h)) tt;
  awaits = λ p. none_in p ∙ ap has_any (sym (empty_at queues p h));
  room_is = omega arith;
  spare = λ p a. omega (arith, (h p nothing a).1);
  at_most = omega arith;
  second_is = λ _. refl;
  first_is = λ _. refl;
}

-- nothing flies to what is no place
pub filed_nowhere : (queues : List Queued) (table : Tabled) (room first second awaited p : ℕ) → AreFiled queues table room first second awaited
    → length queues ≤ p → (n : ℕ) → flies_to table.flying p n ≡ false
filed_nowhere queues table room first second awaited p f h n =
    false_from_ne_true _ (λ t. subst (λ (q : Queued). Has q.numbers n) (get_or_past queues p nothing h) (f.filed p n t))

-- the first number of a place's queue is that of its next frame
pub filed_first : (queues : List Queued) (table : Tabled) (room first second awaited p : ℕ) → AreFiled queues table room first second awaited
    → IsNext (flies_to table.flying p) 0 (slice_get (numbers_at queues p) 0)
filed_first queues table room first second awaited p f = first_is_next table.flying p (numbers_at queues p) table.posted (f.rising p) (f.filed p)
    (f.begins p)

-- the places awaited are those with frames in flight to them
pub filed_awaited : (queues : List Queued) (table : Tabled) (room first second awaited p : ℕ) → AreFiled queues table room first second awaited
    → (has_place awaited p ≡ true) ↔ ((n : ℕ) × (flies_to table.flying p n ≡ true))
filed_awaited queues table room first second awaited p f = (
  λ t. first_of table.flying p (numbers_at queues p) (sym (f.awaits p) ∙ t) (f.begins p),
  λ h. f.awaits p ∙ any_has (numbers_at queues p) h.0 (f.filed p h.0 h.1),
)
