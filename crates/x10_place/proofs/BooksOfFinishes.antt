-- Books of a place: after each move there is one for each finish that a stay has open, and no other but the root's.
use Rattle.std.proofs.Common.{◌≡◌, ◌⊎◌, ℕ, zero, suc, ◌+◌, ◌<◌, ◌≤◌, List, [], ◌∷◌, Option, Some, None, refl, sym, ap, subst, ◌∙◌, inl, inr, arith}
use Rattle.std.proofs.lemmas.Option.{same_Some}
use Rattle.std.specs.Prelude.{if◌then◌else◌}
use Rattle.std.proofs.lemmas.Bool.{cases_eq, cases_lt, ne_eqb}
use Rattle.x10_model.specs.Maps.{with_entry}
use Rattle.x10_model.specs.Places as machine
use Rattle.x10_model.specs.Places.{Stay, Effect, Waits, Works, Begins, Spawns, Shifts, Opens, Closes, Ends}
use Rattle.x10_model.specs.Totals.{Cut, zeros}
use Rattle.x10_model.proofs.Lists.{none_some}
use Rattle.x10_model.proofs.Maps.{at_key, off_key}
use Rattle.x10_finish.specs.Nesting.{nth}
use Rattle.x10_finish.specs.Stays.{MovesStay}
use Rattle.x10_place.specs.Stays.{StoreState, books_in, HasBook}
use Rattle.x10_place.specs.StandsFor.{first_number, IsOpenIn, AreBooked}
use Rattle.x10_place.proofs.CountsOfMoves.{KeepsBooks}

-- books and numbers as functions; other functions with the same values do as well
pub booked_as : (id opened opened' : ℕ) (stays stays' : ℕ → Option Stay) (books books' : ℕ → Option Cut) → AreBooked id stays opened books
    → stays' ≡ stays → opened' ≡ opened → ((k : ℕ) → books' k ≡ books k) → AreBooked id stays' opened' books'
booked_as id opened opened' stays stays' books books' h same e b = record {
  booked = λ k i n s is f. let c = h.booked k i n s (was k s is) f in (c.0, b n ∙ c.1);
  numbered = λ k i n s is f. let c = h.numbered k i n s (was k s is) f in (c.0, subst (λ o. n < o) (sym e) c.1);
  apart = λ k l i j n s t is it f g. h.apart k l i j n s t (was k s is) (was l t it) f g;
  unopened = λ n le. b n ∙ h.unopened n (subst (λ o. o ≤ n) e le);
  first = subst (λ o. first_number id ≤ o) (sym e) h.first;
  root = λ z. let c = h.root z in (c.0, b 0 ∙ c.1);
  only = λ n has. elim (h.only n (has.0, sym (b n) ∙ has.1)) [
    | inl c ↦ inl c
    | inr c ↦ inr (c.0, c.1, c.2, ap (λ (m : ℕ → Option Stay). m c.0) same ∙ c.3, c.4)
  ];
}
  where
    was : (k : ℕ) (s : Stay) → stays' k ≡ Some s → stays k ≡ Some s
    was k s is = sym (ap (λ (m : ℕ → Option Stay). m k) same) ∙ is

-- a stay at the key, or one that was there before
found : (stays : ℕ → Option Stay) (key k : ℕ) (o : Option Stay) (s : Stay) → with_entry stays key o k ≡ Some s
    → ((k ≡ key) × (o ≡ Some s)) ⊎ ((k ≡ key → ⊥) × (stays k ≡ Some s))
found stays key k o s e = elim (cases_eq k key) [
  | inl same ↦ inl (same, sym (at_key stays key o) ∙ ap (with_entry stays key o) (sym same) ∙ e)
  | inr ne ↦ inr (ne, sym (off_key stays key k o ne) ∙ e)
]

-- a key is free still after the stay with another key has changed
vacant : (stays : ℕ → Option Stay) (key other : ℕ) (s t u : Stay) → stays key ≡ Some s → stays other ≡ None
    → with_entry stays key (Some t) other ≡ Some u → ⊥
vacant stays key other s t u there none e = elim (found stays key other (Some t) u e) [
  | inl c ↦ none_some (stays other) s none (ap stays c.0 ∙ there)
  | inr c ↦ none_some (stays other) u none c.1
]

-- ---- one stay changes

module _ (id opened : ℕ) (stays : ℕ → Option Stay) (books : ℕ → Option Cut) (h : AreBooked id stays opened books) (key : ℕ) where
  -- with no finish open, or none at all, where before no finish was open either
  pub without : (o : Option Stay) → ((s : Stay) → stays key ≡ Some s → s.finishes ≡ []) → ((t : Stay) → o ≡ Some t → t.finishes ≡ [])
      → AreBooked id (with_entry stays key o) opened books
  without o closed empty = record {
    booked = λ k i n s is f. elim (found stays key k o s is) [ inl c ↦ absurd (none k i n s c.1 f) | inr c ↦ h.booked k i n s c.1 f ];
    numbered = λ k i n s is f. elim (found stays key k o s is) [ inl c ↦ absurd (none k i n s c.1 f) | inr c ↦ h.numbered k i n s c.1 f ];
    apart = λ k l i j n s t is it f g. elim (found stays key k o s is) [
      | inl c ↦ absurd (none k i n s c.1 f)
      | inr c ↦ elim (found stays key l o t it) [ inl d ↦ absurd (none l j n t d.1 g) | inr d ↦ h.apart k l i j n s t c.1 d.1 f g ]
    ];
    unopened = h.unopened;
    first = h.first;
    root = h.root;
    only = λ n has. elim (h.only n has) [
      | inl c ↦ inl c
      | inr c ↦ inr (c.0, c.1, c.2, off_key stays key c.0 o (λ q. nowhere c.1 n c.2.finishes (closed c.2 (ap stays (sym q) ∙ c.3)) c.4) ∙ c.3, c.4)
    ];
  }
    where
      nowhere : (i n : ℕ) (finishes : List ℕ) → finishes ≡ [] → nth finishes i ≡ Some n → ⊥
      nowhere i n finishes e f = absurd (let g : nth [] i ≡ Some n = subst (λ ns. nth ns i ≡ Some n) e f in cc)

      none : (k i n : ℕ) (s : Stay) → o ≡ Some s → nth s.finishes i ≡ Some n → ⊥
      none k i n s is f = nowhere i n s.finishes (empty s is) f

  module _ (s t : Stay) (there : stays key ≡ Some s) where
    -- which finish has a book: the root, one that is open in another stay, or one that is still open in this one
    only_after : (n : ℕ) → ((id ≡ 0) × (n ≡ 0)) ⊎ IsOpenIn stays n
        → ((i : ℕ) → nth s.finishes i ≡ Some n → IsOpenIn (with_entry stays key (Some t)) n)
        → ((id ≡ 0) × (n ≡ 0)) ⊎ IsOpenIn (with_entry stays key (Some t)) n
    only_after n (inl c) still = inl c
    only_after n (inr c) still = inr (elim (cases_eq c.0 key) [
      | inl at ↦ still c.1 (ap (λ (z : Stay). nth z.finishes c.1) (same_Some s c.2 (sym there ∙ ap stays (sym at) ∙ c.3)) ∙ c.4)
      | inr off ↦ (c.0, c.1, c.2, off_key stays key c.0 (Some t) off ∙ c.3, c.4)
    ])

    -- with the same finishes open
    pub same : t.finishes ≡ s.finishes → AreBooked id (with_entry stays key (Some t)) opened books
    same e = record {
      booked = λ k i n u is f. let w = was k i n u is f in h.booked k i n w.0 w.1 w.2;
      numbered = λ k i n u is f. let w = was k i n u is f in h.numbered k i n w.0 w.1 w.2;
      apart = λ k l i j n u v is iv f g. let w = was k i n u is f in let z = was l j n v iv g in h.apart k l i j n w.0 z.0 w.1 z.1 w.2 z.2;
      unopened = h.unopened;
      first = h.first;
      root = h.root;
      only = λ n has. only_after n (h.only n has) (λ i f. (key, i, t, at_key stays key (Some t), ap (λ ns. nth ns i) e ∙ f));
    }
      where
        was : (k i n : ℕ) (u : Stay) → with_entry stays key (Some t) k ≡ Some u → nth u.finishes i ≡ Some n
            → (w : Stay) × (stays k ≡ Some w) × (nth w.finishes i ≡ Some n)
        was k i n u is f = elim (found stays key k (Some t) u is) [
          | inl c ↦ (s, ap stays c.0 ∙ there, subst (λ ns. nth ns i ≡ Some n) (ap (λ (z : Stay). z.finishes) (sym (same_Some t u c.1)) ∙ e) f)
          | inr c ↦ (u, c.1, f)
        ]

    -- with one more open, that has the next number
    pushed : (books' : ℕ → Option Cut) (number : ℕ) → number ≡ opened → t.finishes ≡ number ∷ s.finishes
        → ((k : ℕ) → books' k ≡ with_entry books number (Some (λ p. zeros)) k) → AreBooked id (with_entry stays key (Some t)) (opened + 1) books'
    pushed books' number next e b = record {
      booked = λ k i n u is f. elim (origin k i n u is f) [
        | inl c ↦ ((λ p. zeros), b n ∙ ap (with_entry books number (Some (λ p. zeros))) c.1.1 ∙ at_key books number (Some (λ p. zeros)))
        | inr c ↦ let d = h.booked k c.0 n c.1 c.2 c.3 in (d.0, b n ∙ off_key books number n (Some (λ p. zeros)) (older k c.0 n c.1 c.2 c.3) ∙ d.1)
      ];
      numbered = λ k i n u is f. elim (origin k i n u is f) [
        | inl c ↦ (let le = h.first in let n_is = c.1.1 in (omega (arith, le, n_is, next), omega (arith, n_is, next)))
        | inr c ↦ (let d = h.numbered k c.0 n c.1 c.2 c.3 in let lt = d.1 in (d.0, omega (arith, lt)))
      ];
      apart = λ k l i j n u v is iv f g. elim (origin k i n u is f) [
        | inl c ↦ elim (origin l j n v iv g) [
          | inl d ↦ (c.0 ∙ sym d.0, c.1.0 ∙ sym d.1.0)
          | inr d ↦ absurd (older l d.0 n d.1 d.2 d.3 c.1.1)
        ]
        | inr c ↦ elim (origin l j n v iv g) [
          | inl d ↦ absurd (older k c.0 n c.1 c.2 c.3 d.1.1)
          | inr d ↦ (let a = h.apart k l c.0 d.0 n c.1 d.1 c.2 d.2 c.3 d.3 in (a.0, together k l i j c.0 d.0 c.4 d.4 a.0 a.1))
        ]
      ];
      unopened = λ n le. b n ∙ off_key books number n (Some (λ p. zeros)) (λ q. absurd (omega (arith, le, q, next)))
          ∙ h.unopened n (omega (arith, le));
      first = (let le = h.first in omega (arith, le));
      root = λ z. let c = h.root z in (
        c.0,
        b 0 ∙ off_key books number 0 (Some (λ p. zeros))
            (λ q. none_some (books number) c.0 (h.unopened number (omega (arith, next))) (ap books (sym q) ∙ c.1)) ∙ c.1,
      );
      only = λ n has. elim (cases_eq n number) [
        | inl q ↦ inr (key, 0, t, at_key stays key (Some t), ap (λ ns. nth ns 0) e ∙ ap Some (sym q))
        | inr ne ↦ only_after n (h.only n (has.0, sym (off_key books number n (Some (λ p. zeros)) ne) ∙ sym (b n) ∙ has.1))
            (λ i f. (key, suc i, t, at_key stays key (Some t), ap (λ ns. nth ns (suc i)) e ∙ f))
      ];
    }
      where
        -- where a finish was before: nowhere, or one position further out in the stay that changed, or where it is
        Origin : (k i n : ℕ) (u : Stay) → Type 0
        Origin k i n u = ((k ≡ key) × ((i ≡ 0) × (n ≡ number))) ⊎ ((j : ℕ) × (w : Stay) × (stays k ≡ Some w) × (nth w.finishes j ≡ Some n)
            × (((k ≡ key) × (i ≡ suc j)) ⊎ ((k ≡ key → ⊥) × (i ≡ j))))

        on_top : (k i n : ℕ) (u : Stay) → k ≡ key → nth (number ∷ s.finishes) i ≡ Some n → Origin k i n u
        on_top k zero n u at f = inl (at, (refl, sym (same_Some number n f)))
        on_top k (suc i) n u at f = inr (i, s, ap stays at ∙ there, f, inl (at, refl))

        origin : (k i n : ℕ) (u : Stay) → with_entry stays key (Some t) k ≡ Some u → nth u.finishes i ≡ Some n → Origin k i n u
        origin k i n u is f = elim (found stays key k (Some t) u is) [
          | inl c ↦ on_top k i n u c.0 (subst (λ ns. nth ns i ≡ Some n) (ap (λ (z : Stay). z.finishes) (sym (same_Some t u c.1)) ∙ e) f)
          | inr c ↦ inr (i, u, c.1, f, inr (c.0, refl))
        ]

        older : (k j n : ℕ) (w : Stay) → stays k ≡ Some w → nth w.finishes j ≡ Some n → n ≡ number → ⊥
        older k j n w is f q = absurd (let lt = (h.numbered k j n w is f).1 in omega (arith, lt, q, next))

        together : (k l i j c d : ℕ) → (((k ≡ key) × (i ≡ suc c)) ⊎ ((k ≡ key → ⊥) × (i ≡ c)))
            → (((l ≡ key) × (j ≡ suc d)) ⊎ ((l ≡ key → ⊥) × (j ≡ d))) → k ≡ l → c ≡ d → i ≡ j
        together k l i j c d (inl a) (inl b) at q = a.1 ∙ ap suc q ∙ sym b.1
        together k l i j c d (inr a) (inr b) at q = a.1 ∙ q ∙ sym b.1
        together k l i j c d (inl a) (inr b) at q = absurd (b.0 (sym at ∙ a.0))
        together k l i j c d (inr a) (inl b) at q = absurd (a.0 (at ∙ b.0))

    -- with the innermost one closed
    popped : (books' : ℕ → Option Cut) (number : ℕ) → s.finishes ≡ number ∷ t.finishes → ((k : ℕ) → books' k ≡ with_entry books number None k)
        → AreBooked id (with_entry stays key (Some t)) opened books'
    popped books' number e b = record {
      booked = λ k i n u is f. let o = origin k i n u is f in let d = h.booked k o.0 n o.1 o.2 o.3 in
          (d.0, b n ∙ off_key books number n None (left k i n u is f) ∙ d.1);
      numbered = λ k i n u is f. let o = origin k i n u is f in h.numbered k o.0 n o.1 o.2 o.3;
      apart = λ k l i j n u v is iv f g. (let c = origin k i n u is f in let d = origin l j n v iv g in
          let a = h.apart k l c.0 d.0 n c.1 d.1 c.2 d.2 c.3 d.3 in (a.0, together k l i j c.0 d.0 c.4 d.4 a.0 a.1));
      unopened = λ n le. b n ∙ elim (cases_eq n number) [
        | inl q ↦ ap (with_entry books number None) q ∙ at_key books number None
        | inr ne ↦ off_key books number n None ne ∙ h.unopened n le
      ];
      first = h.first;
      root = λ z. let c = h.root z in (
        c.0,
        b 0 ∙ off_key books number 0 None
            (λ q. absurd (let le = (h.numbered key 0 number s there (ap (λ ns. nth ns 0) e)).0 in low z (subst (λ n. first_number id ≤ n) (sym q) le)))
            ∙ c.1,
      );
      only = λ n has. elim (cases_eq n number) [
        | inl q ↦ absurd (none_some (books' n) has.0 (b n ∙ ap (with_entry books number None) q ∙ at_key books number None) has.1)
        | inr ne ↦ only_after n (h.only n (has.0, sym (off_key books number n None ne) ∙ sym (b n) ∙ has.1))
            (λ i f. further i n ne (ap (λ ns. nth ns i) (sym e) ∙ f))
      ];
    }
      where
        further : (i n : ℕ) → (n ≡ number → ⊥) → nth (number ∷ t.finishes) i ≡ Some n → IsOpenIn (with_entry stays key (Some t)) n
        further zero n ne f = absurd (ne (sym (same_Some number n f)))
        further (suc i) n ne f = (key, i, t, at_key stays key (Some t), f)

        low : id ≡ 0 → first_number id ≤ 0 → ⊥
        low z le = absurd (let f : first_number 0 ≤ 0 = subst (λ n. first_number n ≤ 0) z le in omega (arith, f))

        Origin : (k i n : ℕ) (u : Stay) → Type 0
        Origin k i n u = (j : ℕ) × (w : Stay) × (stays k ≡ Some w) × (nth w.finishes j ≡ Some n)
            × (((k ≡ key) × (j ≡ suc i)) ⊎ ((k ≡ key → ⊥) × (j ≡ i)))

        origin : (k i n : ℕ) (u : Stay) → with_entry stays key (Some t) k ≡ Some u → nth u.finishes i ≡ Some n → Origin k i n u
        origin k i n u is f = elim (found stays key k (Some t) u is) [
          | inl c ↦ (
            suc i,
            s,
            ap stays c.0 ∙ there,
            subst (λ ns. nth ns (suc i) ≡ Some n) (sym e)
                (subst (λ ns. nth ns i ≡ Some n) (ap (λ (z : Stay). z.finishes) (sym (same_Some t u c.1))) f),
            inl (c.0, refl),
          )
          | inr c ↦ (i, u, c.1, f, inr (c.0, refl))
        ]

        -- what is still open isn't the one that was closed
        left : (k i n : ℕ) (u : Stay) → with_entry stays key (Some t) k ≡ Some u → nth u.finishes i ≡ Some n → n ≡ number → ⊥
        left k i n u is f q =
            let o = origin k i n u is f in
            let a = h.apart k key o.0 0 n o.1 s o.2 there o.3 (ap (λ ns. nth ns 0) e ∙ ap Some (sym q)) in
            elim o.4 [ inl c ↦ absurd (let z = a.1 in let g = c.1 in omega (arith, z, g)) | inr c ↦ absurd (c.0 a.0) ]

        together : (k l i j c d : ℕ) → (((k ≡ key) × (c ≡ suc i)) ⊎ ((k ≡ key → ⊥) × (c ≡ i)))
            → (((l ≡ key) × (d ≡ suc j)) ⊎ ((l ≡ key → ⊥) × (d ≡ j))) → k ≡ l → c ≡ d → i ≡ j
        together k l i j c d (inl a) (inl b) at q = let m = a.1 in let n = b.1 in omega (arith, m, n, q)
        together k l i j c d (inr a) (inr b) at q = sym a.1 ∙ q ∙ b.1
        together k l i j c d (inl a) (inr b) at q = absurd (b.0 (sym at ∙ a.0))
        together k l i j c d (inr a) (inl b) at q = absurd (a.0 (at ∙ b.0))

-- ---- at the beginning

pub booked_first : (id opened : ℕ) (books : ℕ → Option Cut) → opened ≡ first_number id → ((n : ℕ) → opened ≤ n → books n ≡ None)
    → (id ≡ 0 → HasBook books 0) → AreBooked id (λ k. None) opened books
booked_first id opened books is unopened root = record {
  booked = λ k i n s e. absurd cc;
  numbered = λ k i n s e. absurd cc;
  apart = λ k l i j n s t e. absurd cc;
  unopened = unopened;
  first = omega (arith, is);
  root = root;
  only = λ n has. elim (cases_lt n opened) [
    | inl lt ↦ inl (below id n (subst (λ k. n < k) is lt))
    | inr le ↦ absurd (none_some (books n) has.0 (unopened n le) has.1)
  ];
}
  where
    below : (id n : ℕ) → n < first_number id → (id ≡ 0) × (n ≡ 0)
    below id n lt = elim (cases_eq id 0) [
      | inl z ↦ (let one : n < 1 = subst (λ k. n < first_number k) z lt in (z, omega (arith, one)))
      | inr ne ↦ absurd (let none : n < 0 = subst (λ b. n < (if b then 1 else 0)) (ne_eqb id 0 ne) lt in omega (arith, none))
    ]

-- ---- a move

pub moved_booked : (here key : ℕ) (old new : machine.Place) (effect : Effect) (s t : StoreState) → AreBooked here old.stays s.opened (books_in s)
    → MovesStay here old key new effect → KeepsBooks effect s t → AreBooked here new.stays t.opened (books_in t)
moved_booked here key old new (Waits number) s t h m k = booked_as here s.opened t.opened old.stays new.stays (books_in s) (books_in t) h
    (ap (λ (p : machine.Place). p.stays) m.changes) k.0 k.1
moved_booked here key old new Works s t h m k =
    booked_as here s.opened t.opened (with_entry old.stays key (Some m.changes.0)) new.stays (books_in s) (books_in t)
    (same here s.opened old.stays (books_in s) h key m.stay m.changes.0 m.is_there m.changes.1.finishes_are) m.changes.2.stays k.0 k.1
moved_booked here key old new (Begins other function under) s t h m k =
    let first = same here s.opened old.stays (books_in s) h key m.stay m.changes.0 m.is_there m.changes.2.finishes_are in
    booked_as here s.opened t.opened (with_entry (with_entry old.stays key (Some m.changes.0)) other (Some m.changes.1)) new.stays (books_in s)
    (books_in t)
    (without here s.opened (with_entry old.stays key (Some m.changes.0)) (books_in s) first other (Some m.changes.1)
    (λ u e. absurd (vacant old.stays key other m.stay m.changes.0 u m.is_there m.changes.5 e))
    (λ u e. ap (λ (z : Stay). z.finishes) (sym (same_Some m.changes.1 u e)) ∙ m.changes.3.finishes)) m.changes.6 k.0 k.1
moved_booked here key old new (Spawns message function under) s t h m k =
    booked_as here s.opened t.opened (with_entry old.stays key (Some m.changes.0)) new.stays (books_in s) (books_in t)
    (same here s.opened old.stays (books_in s) h key m.stay m.changes.0 m.is_there m.changes.3.finishes_are) m.changes.6.stays k.0 k.1
moved_booked here key old new (Shifts message under) s t h m k =
    booked_as here s.opened t.opened (with_entry old.stays key (Some m.changes.0)) new.stays (books_in s) (books_in t)
    (same here s.opened old.stays (books_in s) h key m.stay m.changes.0 m.is_there m.changes.4.finishes_are) m.changes.7.stays k.0 k.1
moved_booked here key old new (Opens number inside) s t h m k =
    booked_as here (s.opened + 1) t.opened (with_entry old.stays key (Some m.changes.0)) new.stays (books_in t) (books_in t)
    (pushed here s.opened old.stays (books_in s) h key m.stay m.changes.0 m.is_there (books_in t) number k.0 m.changes.1.finishes_are k.2)
    m.changes.4.stays k.1 (λ n. refl)
moved_booked here key old new (Closes number) s t h m k =
    booked_as here s.opened t.opened (with_entry old.stays key (Some m.changes.0)) new.stays (books_in t) (books_in t)
    (popped here s.opened old.stays (books_in s) h key m.stay m.changes.0 m.is_there (books_in t) number
    (m.changes.2 ∙ ap (λ ns. number ∷ ns) (sym m.changes.3.finishes_are)) k.1) m.changes.4.stays k.0 (λ n. refl)
moved_booked here key old new (Ends under back) s t h m k =
    booked_as here s.opened t.opened (with_entry old.stays key None) new.stays (books_in s) (books_in t)
    (without here s.opened old.stays (books_in s) h key None
    (λ u e. ap (λ (z : Stay). z.finishes) (same_Some u m.stay (sym e ∙ m.is_there)) ∙ m.changes.0) (λ u e. absurd cc)) m.changes.3.stays k.0 k.1
