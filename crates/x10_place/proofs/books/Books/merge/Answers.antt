use Rattle.std.proofs.Common.{◌≡◌, ℕ, Bool, true, false, cond, List, Option, Some, None, refl, sym, ◌∙◌, ap, subst, arith}
use Rattle.std.specs.Ordering.{nat_cmp}
use Rattle.std.specs.BTreeMap.{is_at}
use Rattle.x10_finish.specs.Books.{Kept}
use Rattle.x10_place.specs.OpenBooks.{IsMergedAt, if_open, listed}
use Rattle.x10_place.specs.contracts.books.Books.{the_view}
use Rattle.x10_place.specs.Stays.{book_at}
use Rattle.x10_place.specs.declared.books.Numbered.{Numbered}
use Rattle.x10_place.proofs.books.Books.merge.Goals as goal
use Rattle.x10_place.proofs.books.Books.merge.Goals.{then-self+in-Some+else-latest-number, then-self+in_default, else-self}

at_itself : (n : ℕ) → is_at (nat_cmp n) n ≡ true
at_itself n = grind arith

found : (latest : Numbered) (others : List (ℕ × Kept)) (n : ℕ) → latest.number ≡ n
    → book_at (listed (Some latest) others) n ≡ Some latest.book
found latest others n e =
    ap (λ b. cond b (Some latest.book) (book_at others n))
    (ap (λ m. is_at (nat_cmp n) m) e ∙ at_itself n)

latest_in : (now others : List (ℕ × Kept)) (o : Option Numbered) (latest : Numbered) (n : ℕ) → o ≡ Some latest → latest.number ≡ n
    → listed o others ≡ now → book_at now n ≡ Some latest.book
latest_in now others o latest n is number view =
    subst (λ xs. book_at xs n ≡ Some latest.book) view (ap (λ x. book_at (listed x others) n) is ∙ found latest others n number)

-- the latest book, whose finish is open
open_is : (b : Bool) (o : Option Numbered) (l : Numbered) → b ≡ true → o ≡ Some l → if_open b o ≡ Some l
open_is b o l e is = ap (λ t. if_open t o) e ∙ is

pub merge_counts-requires-clause-place : goal.merge_counts-requires-clause-place
merge_counts-requires-clause-place c =
    (c.requires c.in-Some.latest.book (latest_in c.args.self.now c.self.inside.others (if_open c.self.inside.is_open c.self.inside.latest)
    c.in-Some.latest c.args.number (open_is c.self.inside.is_open c.self.inside.latest c.in-Some.latest c.if-self.true c.in-Some.is)
    c.if-latest-number.true c.self.view_is)).0

pub merge_counts-requires-clause-sent : goal.merge_counts-requires-clause-sent
merge_counts-requires-clause-sent c =
    (c.requires c.in-Some.latest.book (latest_in c.args.self.now c.self.inside.others (if_open c.self.inside.is_open c.self.inside.latest)
    c.in-Some.latest c.args.number (open_is c.self.inside.is_open c.self.inside.latest c.in-Some.latest c.if-self.true c.in-Some.is)
    c.if-latest-number.true c.self.view_is)).1

pub merge_counts-requires-clause-received : goal.merge_counts-requires-clause-received
merge_counts-requires-clause-received c =
    (c.requires c.in-Some.latest.book (latest_in c.args.self.now c.self.inside.others (if_open c.self.inside.is_open c.self.inside.latest)
    c.in-Some.latest c.args.number (open_is c.self.inside.is_open c.self.inside.latest c.in-Some.latest c.if-self.true c.in-Some.is)
    c.if-latest-number.true c.self.view_is)).2

not_at : (n m : ℕ) → (m ≡ n → ⊥) → is_at (nat_cmp n) m ≡ false
not_at n m apart = grind (arith, apart)

at_same : (n m : ℕ) → is_at (nat_cmp n) m ≡ true → m ≡ n
at_same n m e = grind (arith, e)

both_ways : (b t : Bool) (c x y z : Option Kept) → (b ≡ true → t ≡ false) → y ≡ cond t z x → cond b c y ≡ cond t z (cond b c x)
both_ways true t c x y z apart e = ap (λ u. cond u z c) (sym (apart refl))
both_ways false t c x y z apart e = e

-- the latest one has another number
merged_among : (l : Numbered) (others more : List (ℕ × Kept)) (n from : ℕ) (sent received : List ℕ) → (l.number ≡ n → ⊥)
    → IsMergedAt others n from sent received more → IsMergedAt (listed (Some l) others) n from sent received (listed (Some l) more)
merged_among l others more n from sent received apart h =
    let there : (b : Kept) → book_at (listed (Some l) others) n ≡ Some b → book_at others n ≡ Some b =
    λ b e. sym (ap (λ t. cond t (Some l.book) (book_at others n)) (not_at n l.number apart)) ∙ e in
    record {
      some = λ b e. let m = h.some b (there b e) in record {
        book = m.book;
        merges = m.merges;
        writes = λ q. both_ways (is_at (nat_cmp q) l.number) (is_at (nat_cmp n) q) (Some l.book) (book_at others q) (book_at more q) (Some m.book)
            (λ here. not_at n q (λ same. apart (at_same q l.number here ∙ same))) (m.writes q);
      };
      none = λ e. ap (listed (Some l)) (h.none (sym (ap (λ t. cond t (Some l.book) (book_at others n)) (not_at n l.number apart)) ∙ e));
    }

abbrev number_or : Option Numbered → ℕ → ℕ
number_or None n = n
number_or (Some l) n = l.number

merged_beside : (o : Option Numbered) (others more : List (ℕ × Kept)) (n from : ℕ) (sent received : List ℕ)
    → ((l : Numbered) → o ≡ Some l → l.number ≡ n → ⊥) → IsMergedAt others n from sent received more
    → IsMergedAt (listed o others) n from sent received (listed o more)
merged_beside None others more n from sent received apart h = h
merged_beside (Some l) others more n from sent received apart h = merged_among l others more n from sent received (apart l refl) h

false_true : false ≡ true → ⊥
false_true e = grind (arith, e)

abbrev some_of : Option Numbered → Bool
some_of None = false
some_of (Some l) = true

open_some : (b : Bool) (o : Option Numbered) (l : Numbered) → if_open b o ≡ Some l → o ≡ Some l
open_some true o l e = e
open_some false o l e = absurd (false_true (ap some_of e))

open_true : (b : Bool) (o : Option Numbered) (l : Numbered) → if_open b o ≡ Some l → b ≡ true
open_true true o l e = refl
open_true false o l e = absurd (false_true (ap some_of e))

pub returns : goal.returns
returns c =
    let inside = c.if-self.self-inside in
    let beside : ((l : Numbered) → if_open inside.is_open inside.latest ≡ Some l → l.number ≡ c.args.number → ⊥)
    → the_view inside ≡ c.args.self.now
    → IsMergedAt c.args.self.now c.args.number c.args.from c.args.sent.now c.args.received.now
    (listed (if_open inside.is_open inside.latest) c.merge.new.self) =
    λ apart view. subst (λ (now : List (ℕ × Kept)). IsMergedAt now c.args.number c.args.from c.args.sent.now c.args.received.now
    (listed (if_open inside.is_open inside.latest) c.merge.new.self)) view
    (merged_beside (if_open inside.is_open inside.latest) inside.others c.merge.new.self c.args.number c.args.from c.args.sent.now
    c.args.received.now apart c.merge.ensures) in
    elim c.if-self.branch [
      | then-self+in-Some+else-latest-number w ↦
          beside (λ l e same. w.if-latest-number.false
          (ap (λ (o : Option Numbered). number_or o 0)
          (sym (ap (λ i. i.latest) w.self-inside-is) ∙ open_some inside.is_open inside.latest l e) ∙ same))
          (ap the_view w.self-inside-is
          ∙ ap (λ o. listed (if_open c.self.inside.is_open o) c.self.inside.others) (sym w.in-Some.is) ∙ c.self.view_is)
      | then-self+in_default w ↦
          beside (λ l e same. w.in_default.not-Some l
          (ap (λ i. i.latest) (sym w.self-inside-is) ∙ open_some inside.is_open inside.latest l e))
          (ap the_view w.self-inside-is ∙ c.self.view_is)
      | else-self w ↦
          beside (λ l e same. false_true (sym w.if-self.false
          ∙ ap (λ i. i.is_open) (sym w.self-inside-is) ∙ open_true inside.is_open inside.latest l e))
          (ap the_view w.self-inside-is ∙ c.self.view_is)
    ]
