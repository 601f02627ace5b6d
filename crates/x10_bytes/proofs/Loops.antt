-- Reading items one after the other, as a loop does.
use Rattle.std.proofs.Common.{◌≡◌, ℕ, ◌-◌, ◌+◌, ◌≤◌, ◌<◌, List, [], ◌∷◌, ◌++◌, Option, Some, None, Result, Ok, Err, refl, sym, ap, subst, ◌∙◌, arith}
use Rattle.x10_model.specs.Readers.{Reader, bind, many, after_all}
use Rattle.x10_model.proofs.Loops.{with_front, goes_on, ends, is_done}
use Rattle.x10_bytes.specs.Faults.{IsFault, IsFaultOrMemory}
use Rattle.x10_bytes.specs.Tables.{IsWalk}

-- with k items to be read from these bytes on, all that reading gives is known
pub record Along {E S A : Type 0} (item : S → Reader E A) (after : S → A → S) (k : ℕ) (first s : S) (bytes : List ℕ)
    (all : Result (List A × List ℕ) E) : Type 0 where
  pub front : List A
  pub is : with_front front (many item after k s bytes) ≡ all
  pub state : s ≡ after_all after first front

pub front_nil : {E A : Type 0} (read : Result (List A × List ℕ) E) → with_front [] read ≡ read
front_nil (Ok x) = refl
front_nil (Err e) = refl

-- the state after one item more
pub after_push : {S A : Type 0} (after : S → A → S) (s : S) (xs : List A) (x : A) → after_all after s (xs ++ x ∷ []) ≡ after (after_all after s xs) x
after_push after s [] x = refl
after_push after s (y ∷ xs) x = after_push after (after s y) xs x

unfoldable pub along_start : {E S A : Type 0} (item : S → Reader E A) (after : S → A → S) (n : ℕ) (s : S) (bytes : List ℕ)
    → Along item after (n - 0) s s bytes (many item after n s bytes)
along_start item after n s bytes =
    let k : n - 0 ≡ n = omega arith in
    record { front = []; is = ap (λ (m : ℕ). with_front [] (many item after m s bytes)) k ∙ front_nil (many item after n s bytes); state = refl }

unfoldable pub along_next : {E S A : Type 0} (item : S → Reader E A) (after : S → A → S) (n i : ℕ) (first s t : S) (bytes : List ℕ) (x : A)
    (rest : List ℕ) (all : Result (List A × List ℕ) E)
    → i < n → Along item after (n - i) first s bytes all → item s bytes ≡ Ok (x, rest) → t ≡ after s x
    → Along item after (n - (i + 1)) first t rest all
along_next {E} {S} item after n i first s t bytes x rest all lt a h e =
    record {
      front = a.front ++ x ∷ [];
      is = subst (λ (u : S). with_front (a.front ++ x ∷ []) (many item after (n - (i + 1)) u rest) ≡ all) (sym e)
          (goes_on item after a.front n i s bytes x rest all lt h a.is);
      state = e ∙ ap (λ (u : S). after u x) a.state ∙ sym (after_push after first a.front x);
    }

pub along_fault : {E S A : Type 0} (item : S → Reader E A) (after : S → A → S) (n i : ℕ) (first s : S) (bytes : List ℕ)
    (all : Result (List A × List ℕ) E) (f : Option E)
    → i < n → Along item after (n - i) first s bytes all → IsFault f (item s bytes) → IsFault f all
along_fault item after n i first s bytes all None lt a h = h
along_fault item after n i first s bytes all (Some f) lt a h = ends item after a.front n i s bytes f all lt h a.is

pub along_end : {E S A : Type 0} (item : S → Reader E A) (after : S → A → S) (n i : ℕ) (first s : S) (bytes : List ℕ)
    (all : Result (List A × List ℕ) E)
    → n ≤ i → (a : Along item after (n - i) first s bytes all) → all ≡ Ok (a.front, bytes)
along_end item after n i first s bytes all le a = is_done item after a.front n i s bytes all le a.is

pub walked : {E S A : Type 0} (item : S → Reader E A) (after : S → A → S) (n i : ℕ) (first s : S) (bytes : List ℕ) (all : Result (List A × List ℕ) E)
    → n ≤ i → Along item after (n - i) first s bytes all → IsWalk after first s bytes all
walked item after n i first s bytes all le a = record { items = a.front; reads = along_end item after n i first s bytes all le a; state = a.state }

-- ---- faults

pub lenient : {E Y : Type 0} (f : Option E) (read : Result Y E) → IsFault f read → IsFaultOrMemory f read
lenient None read h = tt
lenient (Some f) read h = h

then_fault : {E A B : Type 0} (r : Reader E A) (next : A → Reader E B) (bytes : List ℕ) (f : E) → r bytes ≡ Err f → bind r next bytes ≡ Err f
unfolding bind
then_fault r next bytes f e = rw e refl

-- the fault of the first of two readers
pub early : {E A B : Type 0} (r : Reader E A) (next : A → Reader E B) (bytes : List ℕ) (f : Option E) → IsFaultOrMemory f (r bytes)
    → IsFaultOrMemory f (bind r next bytes)
early r next bytes None h = tt
early r next bytes (Some f) h = then_fault r next bytes f h
