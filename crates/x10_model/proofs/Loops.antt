-- A loop over so many items: what was read so far, before what reading the others gives, is what reading all gives.
use Rattle.std.proofs.Common.{◌≡◌, ℕ, suc, ◌+◌, ◌-◌, ◌<◌, ◌≤◌, List, [], ◌∷◌, ◌++◌, Result, Ok, Err, refl, sym, ap, subst, ◌∙◌, append_assoc, append-nil, arith}
use Rattle.x10_model.specs.Readers.{Reader, and_then, bind, done, many, times, numbered}

-- items before those that were read
abbrev pub with_front : {E A : Type 0} → List A → Result (List A × List ℕ) E → Result (List A × List ℕ) E
with_front front (Ok x) = Ok (front ++ x.0, x.1)
with_front front (Err fault) = Err fault

abbrev consed : {E A : Type 0} → A → Result (List A × List ℕ) E → Result (List A × List ℕ) E
consed x o = and_then o (λ others. done (x ∷ others))

regroup : {E A : Type 0} (front : List A) (x : A) (others : Result (List A × List ℕ) E)
    → with_front front (consed x others) ≡ with_front (front ++ x ∷ []) others
unfolding done
regroup {E} {A} front x (Ok others) = ap (λ (xs : List A). with_front {E = E} [] (Ok (xs, others.1))) (sym (append_assoc front (x ∷ []) others.0))
regroup front x (Err fault) = refl

many_more : {E S A : Type 0} (item : S → Reader E A) (after : S → A → S) (n : ℕ) (s : S) (bytes : List ℕ) (x : A) (rest : List ℕ)
    → item s bytes ≡ Ok (x, rest) → many item after (suc n) s bytes ≡ consed x (many item after n (after s x) rest)
unfolding many bind
many_more item after n s bytes x rest e = rw e refl

-- one item more
pub goes_on : {E S A : Type 0} (item : S → Reader E A) (after : S → A → S) (front : List A) (count i : ℕ) (s : S) (bytes : List ℕ) (x : A)
    (rest : List ℕ) (total : Result (List A × List ℕ) E) → i < count → item s bytes ≡ Ok (x, rest)
    → with_front front (many item after (count - i) s bytes) ≡ total
    → with_front (front ++ x ∷ []) (many item after (count - (i + 1)) (after s x) rest) ≡ total
goes_on item after front count i s bytes x rest total lt e so_far =
    let k : count - i ≡ suc (count - (i + 1)) = omega arith in
    sym (ap (with_front front) (ap (λ (n : ℕ). many item after n s bytes) k ∙ many_more item after (count - (i + 1)) s bytes x rest e)
    ∙ regroup front x (many item after (count - (i + 1)) (after s x) rest)) ∙ so_far

-- an item that fails
pub ends : {E S A : Type 0} (item : S → Reader E A) (after : S → A → S) (front : List A) (count i : ℕ) (s : S) (bytes : List ℕ) (fault : E)
    (total : Result (List A × List ℕ) E) → i < count → item s bytes ≡ Err fault
    → with_front front (many item after (count - i) s bytes) ≡ total → total ≡ Err fault
unfolding many bind
ends item after front count i s bytes fault total lt e so_far =
    let k : count - i ≡ suc (count - (i + 1)) = omega arith in
    sym so_far ∙ rw (k, e) refl

-- all items
pub is_done : {E S A : Type 0} (item : S → Reader E A) (after : S → A → S) (front : List A) (count i : ℕ) (s : S) (bytes : List ℕ)
    (total : Result (List A × List ℕ) E) → count ≤ i
    → with_front front (many item after (count - i) s bytes) ≡ total → total ≡ Ok (front, bytes)
unfolding many done
is_done {E} {S} {A} item after front count i s bytes total le so_far =
    let k : count - i ≡ 0 = omega arith in
    sym so_far ∙ rw k (ap (λ (xs : List A). with_front {E = E} [] (Ok (xs, bytes))) (append-nil front))

-- ---- items of one kind, whose values are not kept

-- after some items, reading so many more gives what reading all gives
abbrev pub IsGoing : {E A : Type 0} → Reader E A → ℕ → List ℕ → Result (List A × List ℕ) E → Type 0
IsGoing {E} {A} item n bytes total = (front : List A) × (with_front front (times n item bytes) ≡ total)

pub times_begins : {E A : Type 0} (item : Reader E A) (count : ℕ) (bytes : List ℕ) → IsGoing item (count - 0) bytes (times count item bytes)
times_begins {E} {A} item count bytes =
    let k : count - 0 ≡ count = omega arith in
    ([], ap (λ (n : ℕ). with_front [] (times n item bytes)) k ∙ same (times count item bytes)) where
      same : (o : Result (List A × List ℕ) E) → with_front [] o ≡ o
      same (Ok x) = refl
      same (Err fault) = refl

pub times_goes_on : {E A : Type 0} (item : Reader E A) (count i : ℕ) (bytes : List ℕ) (x : A) (rest : List ℕ) (total : Result (List A × List ℕ) E)
    → i < count → item bytes ≡ Ok (x, rest) → IsGoing item (count - i) bytes total → IsGoing item (count - (i + 1)) rest total
times_goes_on item count i bytes x rest total lt e g = (g.0 ++ x ∷ [], goes_on (λ _. item) (λ s _. s) g.0 count i 0 bytes x rest total lt e g.1)

pub times_ends : {E A : Type 0} (item : Reader E A) (count i : ℕ) (bytes : List ℕ) (fault : E) (total : Result (List A × List ℕ) E) → i < count
    → item bytes ≡ Err fault → IsGoing item (count - i) bytes total → total ≡ Err fault
times_ends item count i bytes fault total lt e g = ends (λ _. item) (λ s _. s) g.0 count i 0 bytes fault total lt e g.1

pub times_is_done : {E A : Type 0} (item : Reader E A) (count i : ℕ) (bytes : List ℕ) (total : Result (List A × List ℕ) E) → count ≤ i
    → IsGoing item (count - i) bytes total → (xs : List A) × (total ≡ Ok (xs, bytes))
times_is_done item count i bytes total le g = (g.0, is_done (λ _. item) (λ s _. s) g.0 count i 0 bytes total le g.1)

-- ---- items that are read by their numbers, whose values are not kept

-- from item i on, reading the others gives what reading all gives
abbrev pub IsGoingFrom : {E A : Type 0} → (ℕ → Reader E A) → ℕ → ℕ → List ℕ → Result (List A × List ℕ) E → Type 0
IsGoingFrom {E} {A} item count i bytes total = (front : List A) × (with_front front (many item (λ s _. suc s) (count - i) i bytes) ≡ total)

pub numbered_begins : {E A : Type 0} (item : ℕ → Reader E A) (count : ℕ) (bytes : List ℕ) → IsGoingFrom item count 0 bytes (numbered count item bytes)
numbered_begins {E} {A} item count bytes =
    let k : count - 0 ≡ count = omega arith in
    ([], ap (λ (n : ℕ). with_front [] (many item (λ s _. suc s) n 0 bytes)) k ∙ same (numbered count item bytes)) where
      same : (o : Result (List A × List ℕ) E) → with_front [] o ≡ o
      same (Ok x) = refl
      same (Err fault) = refl

pub numbered_goes_on : {E A : Type 0} (item : ℕ → Reader E A) (count i : ℕ) (bytes : List ℕ) (x : A) (rest : List ℕ)
    (total : Result (List A × List ℕ) E) → i < count → item i bytes ≡ Ok (x, rest) → IsGoingFrom item count i bytes total
    → IsGoingFrom item count (i + 1) rest total
numbered_goes_on item count i bytes x rest total lt e g =
    let k : suc i ≡ i + 1 = omega arith in
    let more = goes_on item (λ s _. suc s) g.0 count i i bytes x rest total lt e g.1 in
    (g.0 ++ x ∷ [], subst (λ (s : ℕ). with_front (g.0 ++ x ∷ []) (many item (λ s _. suc s) (count - (i + 1)) s rest) ≡ total) k more)

pub numbered_ends : {E A : Type 0} (item : ℕ → Reader E A) (count i : ℕ) (bytes : List ℕ) (fault : E) (total : Result (List A × List ℕ) E) → i < count
    → item i bytes ≡ Err fault → IsGoingFrom item count i bytes total → total ≡ Err fault
numbered_ends item count i bytes fault total lt e g = ends item (λ s _. suc s) g.0 count i i bytes fault total lt e g.1

pub numbered_is_done : {E A : Type 0} (item : ℕ → Reader E A) (count i : ℕ) (bytes : List ℕ) (total : Result (List A × List ℕ) E) → count ≤ i
    → IsGoingFrom item count i bytes total → (xs : List A) × (total ≡ Ok (xs, bytes))
numbered_is_done item count i bytes total le g = (g.0, is_done item (λ s _. suc s) g.0 count i i bytes total le g.1)
