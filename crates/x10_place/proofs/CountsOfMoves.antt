-- What moves change of what a place counts and keeps of finishes.
use Rattle.std.proofs.Common.{◌≡◌, ℕ, ◌+◌, ◌≤◌, Bool, true, false, Option, Some, None, refl, sym, ap, subst, ◌∙◌, inl, inr, arith}
use Rattle.std.specs.Prelude.{if◌then◌else◌}
use Rattle.std.proofs.lemmas.Bool.{cases_eq}
use Rattle.x10_model.specs.Maps.{with_entry}
use Rattle.x10_model.specs.Modules.{Module}
use Rattle.x10_model.specs.declared.finish.Finish.{Finish}
use Rattle.x10_model.specs.Places.{Message, Effect, Waits, Works, Begins, Spawns, Shifts, Opens, Closes, Ends, receiver}
use Rattle.x10_model.specs.Totals.{Totals, nothing, zeros, begins_one, ends_one, sends_to, Did, is_reported}
use Rattle.x10_model.specs.Worlds.{same_finish, sent}
use Rattle.x10_model.proofs.SameFinishes.{same_is, same_self}
use Rattle.x10_model.proofs.Maps.{at_key, off_key}
use Rattle.x10_heap.specs.Words.{Context}
use Rattle.x10_finish.specs.Watching.{closes}
use Rattle.x10_place.specs.Stays.{StoreState, totals_in, books_in, finish_at, kept_in, changed_at, IsDoneHere, Recounts}
use Rattle.x10_place.specs.Messages.{PutsOut, no_sent}
use Rattle.x10_place.specs.StandsFor.{IsCountedBy}

-- a number that was not given yet has no book
abbrev pub Unopened : StoreState → Type 0
Unopened s = (n : ℕ) → s.opened ≤ n → books_in s n ≡ None

-- the same finishes are counted, and the same books kept
pub record IsSameCount (s t : StoreState) : Type 0 where
  pub here : t.here ≡ s.here
  pub places : t.places ≡ s.places
  pub ledger : t.ledger ≡ s.ledger
  pub books : t.books ≡ s.books
  pub opened : t.opened ≡ s.opened

pub same_count : (s : StoreState) → IsSameCount s s
same_count s = record { here = refl; places = refl; ledger = refl; books = refl; opened = refl }

pub totals_same : (s t : StoreState) → IsSameCount s t → (f : Finish) → totals_in t f ≡ totals_in s f
totals_same s t h f = ap (λ l. totals_in (record s { ledger = l }) f) h.ledger

pub books_same : (s t : StoreState) → IsSameCount s t → (n : ℕ) → books_in t n ≡ books_in s n
books_same s t h n = ap (λ bs. books_in (record s { books = bs }) n) h.books

pub works_count : (s t : StoreState) → IsSameCount s t → IsCountedBy s Works t
works_count s t h = record {
  here = h.here;
  places = h.places;
  totals = λ f c. totals_same s t h f;
  kept = λ n c. ap kept_in (books_same s t h n);
  done = λ n e. absurd cc;
}

pub waits_count : (s : StoreState) (number : ℕ) → IsCountedBy s (Waits number) s
waits_count s number = record { here = refl; places = refl; totals = λ f c. refl; kept = λ n c. refl; done = λ n e. absurd cc }

pub opens_count : (s t : StoreState) (inside : Finish) → Unopened s
    → Recounts s t (s.opened + 1) (totals_in s) (with_entry (books_in s) s.opened (Some (λ p. zeros))) → IsCountedBy s (Opens s.opened inside) t
opens_count s t inside unopened h = record {
  here = h.here;
  places = h.places_are;
  totals = λ f c. h.totals_are f;
  kept = λ n c. ap kept_in (h.books_are n) ∙ elim (cases_eq n s.opened) [
    | inl e ↦ subst (λ k. kept_in (with_entry (books_in s) s.opened (Some (λ p. zeros)) k) ≡ kept_in (books_in s k)) (sym e)
        (ap kept_in (at_key (books_in s) s.opened (Some (λ p. zeros))) ∙ sym (ap kept_in (unopened s.opened (omega arith))))
    | inr ne ↦ ap kept_in (off_key (books_in s) s.opened n (Some (λ p. zeros)) ne)
  ];
  done = λ n e. absurd cc;
}

pub if_false : {A : Type 0} (b : Bool) (x y : A) → b ≡ false → (if b then x else y) ≡ y
if_false true x y e = absurd cc
if_false false x y e = refl

pub if_true : {A : Type 0} (b : Bool) (x y : A) → b ≡ true → (if b then x else y) ≡ x
if_true true x y e = refl
if_true false x y e = absurd cc

-- another finish of this place has another number
other_number : (here n number : ℕ) → closes here (Closes number) (finish_at here n) ≡ false → (n ≡ number → ⊥)
other_number here n number c e = absurd (let f : true ≡ false = sym (same_self (finish_at here n) (finish_at here number) (ap (finish_at here) e)) ∙ c in cc)

pub itself_closed : (here number : ℕ) → closes here (Closes number) (finish_at here number) ≡ true
itself_closed here number = same_self (finish_at here number) (finish_at here number) refl

pub closes_count : (s t : StoreState) (number : ℕ) → IsDoneHere s number
    → Recounts s t s.opened (changed_at (totals_in s) (finish_at s.here number) (λ u. nothing)) (with_entry (books_in s) number None)
    → IsCountedBy s (Closes number) t
closes_count s t number done h = record {
  here = h.here;
  places = h.places_are;
  totals = λ f c. h.totals_are f ∙ if_false (same_finish f (finish_at s.here number)) nothing (totals_in s f) c;
  kept = λ n c. ap kept_in (h.books_are n ∙ off_key (books_in s) number n None (other_number s.here n number c));
  done = λ n e. let same : number ≡ n = cc in subst (λ k. IsDoneHere s k × (totals_in t (finish_at s.here k) ≡ nothing)) same (
    done,
    h.totals_are (finish_at s.here number) ∙ if_true (same_finish (finish_at s.here number) (finish_at s.here number)) nothing
        (totals_in s (finish_at s.here number)) (itself_closed s.here number),
  );
}

pub begins_count : (s t : StoreState) (key function : ℕ) (under : Finish)
    → Recounts s t s.opened (changed_at (totals_in s) under begins_one) (books_in s) → IsCountedBy s (Begins key function under) t
begins_count s t key function under h = record {
  here = h.here;
  places = h.places_are;
  totals = λ f c. h.totals_are f;
  kept = λ n c. ap kept_in (h.books_are n);
  done = λ n e. absurd cc;
}

pub ends_count : (s t : StoreState) (under : Finish) (back : Option Message)
    → Recounts s t s.opened (changed_at (totals_in s) under ends_one) (books_in s) → IsCountedBy s (Ends under back) t
ends_count s t under back h = record {
  here = h.here;
  places = h.places_are;
  totals = λ f c. h.totals_are f;
  kept = λ n c. ap kept_in (h.books_are n);
  done = λ n e. absurd cc;
}

pub spawns_count : (s t : StoreState) (message : Message) (function : ℕ) (under : Finish)
    → Recounts s t s.opened (changed_at (totals_in s) under (λ u. sends_to u (receiver message))) (books_in s)
    → IsCountedBy s (Spawns message function under) t
spawns_count s t message function under h = record {
  here = h.here;
  places = h.places_are;
  totals = λ f c. h.totals_are f;
  kept = λ n c. ap kept_in (h.books_are n);
  done = λ n e. absurd cc;
}

pub shifts_count : (s t : StoreState) (message : Message) (under : Finish)
    → Recounts s t s.opened (changed_at (totals_in s) under (λ u. sends_to u (receiver message))) (books_in s)
    → IsCountedBy s (Shifts message under) t
shifts_count s t message under h = record {
  here = h.here;
  places = h.places_are;
  totals = λ f c. h.totals_are f;
  kept = λ n c. ap kept_in (h.books_are n);
  done = λ n e. absurd cc;
}

-- ---- what is put out

-- a move with the effect puts out nothing
pub record IsSilent (effect : Effect) : Type 0 where
  pub sends : sent effect ≡ None
  pub reports : (here : ℕ) (f : Finish) (t : Totals) → is_reported here f t (Did effect) ≡ false

pub silent_works : IsSilent Works
silent_works = record { sends = refl; reports = λ here f t. refl }

pub silent_begins : (key function : ℕ) (under : Finish) → IsSilent (Begins key function under)
silent_begins key function under = record { sends = refl; reports = λ here f t. refl }

pub silent_opens : (number : ℕ) (inside : Finish) → IsSilent (Opens number inside)
silent_opens number inside = record { sends = refl; reports = λ here f t. refl }

pub silent_closes : (number : ℕ) → IsSilent (Closes number)
silent_closes number = record { sends = refl; reports = λ here f t. refl }

pub puts_nothing : (program : Module) (x : Context) (s : StoreState) (effect : Effect) → IsSilent effect → PutsOut program x s effect no_sent
puts_nothing program x s effect h = record { message = h.sends; report = λ f. h.reports s.here f (totals_in s f) }

-- ---- books

-- what a move changes of the books and of how many finishes were opened
abbrev pub KeepsBooks : Effect → StoreState → StoreState → Type 0
KeepsBooks (Opens number inside) s t = (number ≡ s.opened) × (t.opened ≡ s.opened + 1)
    × ((k : ℕ) → books_in t k ≡ with_entry (books_in s) number (Some (λ p. zeros)) k)
KeepsBooks (Closes number) s t = (t.opened ≡ s.opened) × ((k : ℕ) → books_in t k ≡ with_entry (books_in s) number None k)
KeepsBooks _ s t = (t.opened ≡ s.opened) × ((k : ℕ) → books_in t k ≡ books_in s k)

pub works_books : (s t : StoreState) → IsSameCount s t → KeepsBooks Works s t
works_books s t h = (h.opened, books_same s t h)

-- the heap alone has changed
pub heap_alone : (s t : StoreState) → t ≡ record s { heap = t.heap } → IsSameCount s t
heap_alone s t e = record {
  here = ap (λ (q : StoreState). q.here) e;
  places = ap (λ (q : StoreState). q.places) e;
  ledger = ap (λ (q : StoreState). q.ledger) e;
  books = ap (λ (q : StoreState). q.books) e;
  opened = ap (λ (q : StoreState). q.opened) e;
}

-- under the finish that a move closes nothing lives, before and after
pub closed_none : (s t : StoreState) (effect : Effect) → IsCountedBy s effect t → (f : Finish) → closes s.here effect f ≡ true
    → ((totals_in s f).live ≡ 0) × ((totals_in t f).live ≡ 0)
closed_none s t (Closes number) h f e =
    let same : f ≡ finish_at s.here number = same_is f (finish_at s.here number) e in
    let done = h.done number refl in
    subst (λ g. ((totals_in s g).live ≡ 0) × ((totals_in t g).live ≡ 0)) (sym same) (done.0.0, ap (λ (u : Totals). u.live) done.1)
closed_none s t _ h f e = absurd cc

-- the same, where place and number of places are written as they were
pub counted_in : (s t : StoreState) (effect : Effect) → IsCountedBy s effect t → IsCountedBy s effect (record t { here = s.here; places = s.places })
counted_in s t effect h = record { here = refl; places = refl; totals = h.totals; kept = h.kept; done = h.done }
