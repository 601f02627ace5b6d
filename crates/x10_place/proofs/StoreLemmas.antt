-- What a place keeps: the books of its finishes by number, and its totals.
use Rattle.std.proofs.Common.{◌≡◌, ◌↔◌, ℕ, ◌==◌, ◌&&◌, ◌+◌, Bool, true, false, cond, if◌then◌else◌, List, [], Option, Some, None, is_some, MatchOption, IsTrue, Result, Ok, Err, OnOk, refl, sym, ◌∙◌, ap, subst, arith}
use Rattle.std.proofs.lemmas.Bool.{eqb-true, ne_eqb}
use Rattle.std.specs.Ordering.{nat_cmp}
use Rattle.std.specs.Result.{is_err}
use Rattle.std.specs.BTreeMap.{is_at}
use Rattle.std.proofs.lemmas.Option.{same_Some}
use Rattle.x10_model.specs.Maps.{with_entry}
use Rattle.x10_model.specs.declared.finish.Finish.{Finish}
use Rattle.x10_model.specs.Places.{root}
use Rattle.x10_model.specs.Worlds.{same_finish}
use Rattle.x10_model.specs.Totals.{Totals, Cut, nothing, zeros, begins_one, first_totals, IsDoneAt}
use Rattle.x10_model.proofs.Lists.{none_some}
use Rattle.x10_model.proofs.Maps.{at_key, off_key}
use Rattle.x10_finish.specs.Books.{Kept, kept_of}
use Rattle.x10_heap.specs.Heaps.{empty}
use Rattle.x10_place.specs.OpenBooks.{Writes, IsMergedAt}
use Rattle.x10_place.specs.Receiving.{merged_in, report_of}
use Rattle.x10_place.specs.StandsFor.{first_number}
use Rattle.x10_place.specs.Opening.{IsNewStore}
use Rattle.x10_place.specs.Stays.{StoreState, book_at, books_of, cut_of, books_in, totals_in, kept_in, finish_at, changed_at, IsBookOf, AreBooks, IsDoneHere, Recounts}

-- a book is found under its own number alone
at_is_same : (k n : ℕ) → is_at (nat_cmp k) n ≡ (n == k)
at_is_same k n = grind arith

-- a book is entered
entered_then : (here places n : ℕ) (t : Bool) (w b : Kept) (o : Option Kept) → (t ≡ true → IsBookOf here places n w)
    → (o ≡ Some b → IsBookOf here places n b) → cond t (Some w) o ≡ Some b → IsBookOf here places n b
entered_then here places n true w b o h g e = subst (IsBookOf here places n) (same_Some w b e) (h refl)
entered_then here places n false w b o h g e = g e

pub entered_book : (here places k : ℕ) (old new : List (ℕ × Kept)) (w : Kept) → Writes old k (Some w) new → IsBookOf here places k w
    → AreBooks here places old → AreBooks here places new
entered_book here places k old new w h is all n b e =
    entered_then here places n (is_at (nat_cmp k) n) w b (book_at old n)
    (λ t. subst (λ m. IsBookOf here places m w) (sym (eqb-true n k (sym (at_is_same k n) ∙ t))) is) (all n b) (sym (h n) ∙ e)

-- a book goes
gone_then : (here places n : ℕ) (t : Bool) (b : Kept) (o : Option Kept) → (o ≡ Some b → IsBookOf here places n b) → cond t None o ≡ Some b
    → IsBookOf here places n b
gone_then here places n true b o g e = absurd (none_some None b refl e)
gone_then here places n false b o g e = g e

pub gone_book : (here places k : ℕ) (old new : List (ℕ × Kept)) → Writes old k None new → AreBooks here places old → AreBooks here places new
gone_book here places k old new h all n b e = gone_then here places n (is_at (nat_cmp k) n) b (book_at old n) (all n b) (sym (h n) ∙ e)

at_itself : (n : ℕ) → is_at (nat_cmp n) n ≡ true
at_itself n = grind arith

-- a book takes a report in
module _ (here places number from : ℕ) (sent received : List ℕ) (old new : List (ℕ × Kept)) (m : IsMergedAt old number from sent received new)
    (all : AreBooks here places old) where
  are_books : (o : Option Kept) → book_at old number ≡ o → AreBooks here places new
  are_books None e = subst (AreBooks here places) (sym (m.none e)) all
  are_books (Some b) e = (let w = m.some b e in
      let is = all number b e in
      entered_book here places number old new w.book w.writes (record {
        finish = w.merges.finish ∙ is.finish;
        places_are = w.merges.places ∙ is.places_are;
      }) all)

  pub merged_books : AreBooks here places new
  merged_books = are_books (book_at old number) refl

  this_book : (o : Option Kept) → book_at old number ≡ o
      → books_of new number ≡ merged_in (report_of from number sent received) (books_of old number)
  this_book None e = ap (λ xs. books_of xs number) (m.none e)
      ∙ subst (λ o. cut_of o ≡ merged_in (report_of from number sent received) (cut_of o)) (sym e) refl
  this_book (Some b) e = (let w = m.some b e in
      ap cut_of (w.writes number ∙ ap (λ t. cond t (Some w.book) (book_at old number)) (at_itself number))
      ∙ ap Some w.merges.kept ∙ ap (λ o. merged_in (report_of from number sent received) (cut_of o)) (sym e))

  pub merged_this : books_of new number ≡ merged_in (report_of from number sent received) (books_of old number)
  merged_this = this_book (book_at old number) refl

  other_book : (o : Option Kept) → book_at old number ≡ o → (n : ℕ) → (n ≡ number → ⊥) → book_at new n ≡ book_at old n
  other_book None e n apart = ap (λ xs. book_at xs n) (m.none e)
  other_book (Some b) e n apart = (let w = m.some b e in
      w.writes n ∙ ap (λ t. cond t (Some w.book) (book_at old n)) (at_is_same number n ∙ ne_eqb n number apart))

  pub merged_others : (n : ℕ) → (n ≡ number → ⊥) → books_of new n ≡ books_of old n
  merged_others n apart = ap cut_of (other_book (book_at old number) refl n apart)

-- a book is found where there is one
pub is_found : {Z : Type 0} (r : Option Z) (now : Z → Kept) (o : Option Kept) → MatchOption r (o ≡ None) (λ b. o ≡ Some (now b))
    → is_some r ≡ is_some o
is_found None now o e = ap is_some (sym e)
is_found (Some b) now o e = ap is_some (sym e)

-- the home lets a finish end exactly where its book says so
pub done_here : (t : Bool) (s : StoreState) (n : ℕ) (b : Kept) → book_at s.books n ≡ Some b → IsBookOf s.here s.places n b
    → (IsTrue t ↔ IsDoneAt b.places b.finish.home (totals_in s b.finish) (kept_of b)) → (IsTrue t ↔ IsDoneHere s n)
done_here t s n b found is h =
    subst (λ o. IsTrue t ↔ IsDoneAt s.places s.here (totals_in s (finish_at s.here n)) (kept_in (cut_of o))) (sym found)
    (subst (λ (f : Finish). IsTrue t ↔ IsDoneAt s.places f.home (totals_in s f) (kept_of b)) is.finish
    (subst (λ p. IsTrue t ↔ IsDoneAt p b.finish.home (totals_in s b.finish) (kept_of b)) is.places_are h))

-- ---- at the beginning

-- nothing is made, printed, opened or counted
pub record IsBlank (id places : ℕ) (s : StoreState) : Type 0 where
  pub heap : s.heap ≡ empty
  pub lines : s.lines ≡ []
  pub opened : s.opened ≡ 0
  pub here : s.here ≡ id
  pub places_are : s.places ≡ places
  pub totals : (f : Finish) → totals_in s f ≡ nothing
  pub books : s.books ≡ []

no_first : (id : ℕ) (t : Bool) → (id == 0) ≡ t → (id ≡ 0 → ⊥) → first_number id ≡ 0
no_first id true e apart = absurd (apart (eqb-true id 0 e))
no_first id false e apart = rw e refl

none_counted : (id : ℕ) (f : Finish) (t : Bool) → (id == 0) ≡ t → (id ≡ 0 → ⊥) → first_totals id f ≡ nothing
none_counted id f true e apart = absurd (apart (eqb-true id 0 e))
none_counted id f false e apart = subst (λ b. (if same_finish f root && b then record nothing { live = 1 } else nothing) ≡ nothing) (sym e)
    (never (same_finish f root))
  where
    never : (b : Bool) → (if b && false then record nothing { live = 1 } else nothing) ≡ nothing
    never true = refl
    never false = refl

-- at another place than 0 nothing more is done
pub new_elsewhere : (id places : ℕ) (s : StoreState) → (id ≡ 0 → ⊥) → IsBlank id places s → IsNewStore id places s
new_elsewhere id places s apart blank = record {
  heap = blank.heap;
  lines = blank.lines;
  opened = blank.opened ∙ sym (no_first id (id == 0) refl apart);
  here = blank.here;
  places_is = blank.places_are;
  totals = λ f. blank.totals f ∙ sym (none_counted id f (id == 0) refl apart);
  kept = λ n. ap (λ books. kept_in (books_of books n)) blank.books;
  unopened = λ n le. ap (λ books. books_of books n) blank.books;
  root = λ e. absurd (apart e);
}

main_counted : (f : Finish) (t : Bool) (u : Totals) → u ≡ nothing
    → (if t then begins_one u else u) ≡ (if t && true then record nothing { live = 1 } else nothing)
main_counted f true u e = ap begins_one e
main_counted f false u e = e

root_kept : (t : Bool) (o : Option Cut) → o ≡ None → kept_in (if t then Some (λ p. zeros) else o) ≡ (λ p. zeros)
root_kept true o e = refl
root_kept false o e = ap kept_in e

-- at place 0 the root is opened, and main begins under it
new_at_zero : (places : ℕ) (s t u : StoreState) → IsBlank 0 places s
    → Recounts s t (s.opened + 1) (totals_in s) (with_entry (books_in s) s.opened (Some (λ p. zeros)))
    → Recounts t u t.opened (changed_at (totals_in t) root begins_one) (books_in t) → IsNewStore 0 places u
new_at_zero places s t u blank opens begins = record {
  heap = begins.heap ∙ opens.heap ∙ blank.heap;
  lines = begins.lines ∙ opens.lines ∙ blank.lines;
  opened = opened;
  here = begins.here ∙ opens.here ∙ blank.here;
  places_is = begins.places_are ∙ opens.places_are ∙ blank.places_are;
  totals = λ f. begins.totals_are f ∙ main_counted f (same_finish f root) (totals_in t f) (opens.totals_are f ∙ blank.totals f);
  kept = λ n. ap kept_in (books n) ∙ root_kept (n == 0) (books_in s n) (none n);
  unopened = λ n le. books n ∙ off_key (books_in s) 0 n (Some (λ p. zeros)) (λ e. absurd (let one = opened in omega (arith, le, e, one))) ∙ none n;
  root = λ e. (λ p. zeros, books 0 ∙ at_key (books_in s) 0 (Some (λ p. zeros)));
}
  where
    opened : u.opened ≡ 1
    opened = begins.opened_is ∙ opens.opened_is ∙ ap (λ n. n + 1) blank.opened

    books : (n : ℕ) → books_in u n ≡ with_entry (books_in s) 0 (Some (λ p. zeros)) n
    books n = begins.books_are n ∙ opens.books_are n ∙ ap (λ m. with_entry (books_in s) m (Some (λ p. zeros)) n) blank.opened

    none : (n : ℕ) → books_in s n ≡ None
    none n = ap (λ es. books_of es n) blank.books

pub new_at_root : (id places : ℕ) (s t u : StoreState) → id ≡ 0 → IsBlank id places s
    → Recounts s t (s.opened + 1) (totals_in s) (with_entry (books_in s) s.opened (Some (λ p. zeros)))
    → Recounts t u t.opened (changed_at (totals_in t) root begins_one) (books_in t) → IsNewStore id places u
new_at_root id places s t u e blank opens begins = subst (λ i. IsNewStore i places u) (sym e)
    (new_at_zero places s t u (subst (λ i. IsBlank i places s) e blank) opens begins)

-- what holds where it is not refused
pub when_ok : {T E A : Type 0} (r : Result T E) → is_err r ≡ false → OnOk r A → A
when_ok (Ok x) e h = h
when_ok (Err x) e h = absurd cc
