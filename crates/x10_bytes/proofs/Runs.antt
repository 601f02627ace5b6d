-- So many items of one length are a part of so many bytes.
use Rattle.std.proofs.Common.{◌≡◌, ℕ, zero, suc, ◌+◌, ◌*◌, ◌<◌, ◌≤◌, List, [], ◌∷◌, length, take, drop, Option, None, Some, Result, Ok, Err, refl, sym, ◌∙◌, arith, inl, inr, length-drop, lt-ltb, le-ltb}
use Rattle.std.specs.Int.{Width, byte_len, from_be_bytes, cast_signed, w64}
use Rattle.std.proofs.lemmas.Bool.{cases_lt}
use Rattle.std.proofs.lemmas.List.{drop-drop}
use Rattle.x10_model.specs.Readers.{Reader, bind, done, part, number, int, many, times}
use Rattle.x10_model.proofs.ReaderLaws.{same}
use Rattle.x10_model.proofs.Offsets.{number_short, number_is}
use Rattle.x10_bytes.specs.Faults.{IsFault, Parses}
use Rattle.x10_bytes.proofs.Fronts.{int_short, int_is}

-- an item of k bytes
pub record HasLength {E A : Type 0} (item : Reader E A) (short : E) (k : ℕ) : Type 0 where
  pub less : (bytes : List ℕ) → length bytes < k → item bytes ≡ Err short
  pub enough : (bytes : List ℕ) → k ≤ length bytes → (x : A) × (item bytes ≡ Ok (x, drop k bytes))

pub number_length : {E : Type 0} (short : E) (w : Width) → HasLength (number w short) short (byte_len w)
number_length short w = record {
  less = λ bytes h. number_short short w bytes h;
  enough = λ bytes h. (from_be_bytes w (take (byte_len w) bytes), number_is short w bytes (from_be_bytes w (take (byte_len w) bytes)) h refl);
}

pub int_length : {E : Type 0} (short : E) → HasLength (int short) short 8
int_length short = record {
  less = λ bytes h. int_short short bytes h;
  enough = λ bytes h. (
    cast_signed w64 (from_be_bytes w64 (take 8 bytes)),
    int_is short bytes (from_be_bytes w64 (take 8 bytes)) (cast_signed w64 (from_be_bytes w64 (take 8 bytes))) h refl refl,
  );
}

one_more : (k n : ℕ) → k * suc n ≡ k + k * n
one_more k n = omega arith

run_short : {E A : Type 0} (item : Reader E A) (short : E) (k : ℕ) → HasLength item short k → (n : ℕ) (bytes : List ℕ) → length bytes < k * n
    → times n item bytes ≡ Err short
unfolding many bind
run_short item short k long zero bytes h = absurd (omega (arith, h))
run_short item short k long (suc n) bytes h =
    elim (cases_lt (length bytes) k) [
      | inl lt ↦ rw (long.less bytes lt) refl
      | inr le ↦ rw ((long.enough bytes le).1, run_short item short k long n (drop k bytes) (omega (arith, length-drop k bytes, h, one_more k n)))
          refl
    ]

run_is : {E A : Type 0} (item : Reader E A) (short : E) (k : ℕ) → HasLength item short k → (n : ℕ) (bytes : List ℕ) → k * n ≤ length bytes
    → (xs : List A) × (times n item bytes ≡ Ok (xs, drop (k * n) bytes))
unfolding many bind done
run_is item short k long zero bytes h = let none : k * 0 ≡ 0 = omega arith in ([], rw none refl)
run_is item short k long (suc n) bytes h =
    let le : k ≤ length bytes = omega (arith, h, one_more k n) in
    let first = long.enough bytes le in
    let others = run_is item short k long n (drop k bytes) (omega (arith, length-drop k bytes, h, one_more k n)) in (
      first.0 ∷ others.0,
      rw (first.1, others.1, drop-drop (k * n) k bytes, sym (one_more k n)) refl,
    )

-- ---- the same bytes are left, or the same fault

abbrev AreAlike : {E A B : Type 0} → Result (A × List ℕ) E → Result (B × List ℕ) E → Type 0
AreAlike (Ok x) (Ok y) = x.1 ≡ y.1
AreAlike (Err e) (Err f) = e ≡ f
AreAlike _ _ = ⊥

both_run : {E A : Type 0} (item : Reader E A) (short : E) (k : ℕ) → HasLength item short k → (n : ℕ) (bytes : List ℕ)
    → AreAlike (part (k * n) short bytes) (times n item bytes)
unfolding part
both_run item short k long n bytes =
    elim (cases_lt (length bytes) (k * n)) [
      | inl lt ↦ rw (lt-ltb _ _ lt, run_short item short k long n bytes lt) refl
      | inr le ↦ rw (le-ltb _ _ le, (run_is item short k long n bytes le).1) refl
    ]

same_rest : {E A B : Type 0} (o : Result (A × List ℕ) E) (p : Result (B × List ℕ) E) (y : A) (rest : List ℕ) → AreAlike o p → o ≡ Ok (y, rest)
    → (x : B) × (p ≡ Ok (x, rest))
same_rest {E} (Ok (a, left)) (Ok (b, others)) y rest alike e =
    let is : others ≡ rest = sym alike ∙ (same {E = E} a y left rest e).1 in
    (b, rw is refl)
same_rest (Err f) p y rest alike e = absurd cc
same_rest (Ok a) (Err f) y rest alike e = absurd alike

same_fault : {E A B : Type 0} (f : Option E) (o : Result (A × List ℕ) E) (p : Result (B × List ℕ) E) → AreAlike o p → IsFault f o → IsFault f p
same_fault None o p alike h = h
same_fault (Some f) (Err e) (Err d) alike h = let is : d ≡ f = cc in rw is refl
same_fault (Some f) (Ok a) p alike h = absurd cc
same_fault (Some f) (Err e) (Ok b) alike h = absurd alike

-- where the bytes after a part are answered, they are those after the items
pub run_passes : {F E A X : Type 0} (named : F → Option E) (rest : X → List ℕ) (r : Result X F) (item : Reader E A) (short : E) (k : ℕ)
    → HasLength item short k → (n : ℕ) (bytes : List ℕ)
    → Parses named rest r (part (k * n) short bytes) → Parses named rest r (times n item bytes)
run_passes named rest (Ok x) item short k long n bytes h = same_rest (part (k * n) short bytes) (times n item bytes) h.0 (rest x)
    (both_run item short k long n bytes) h.1
run_passes named rest (Err e) item short k long n bytes h = same_fault (named e) (part (k * n) short bytes) (times n item bytes)
    (both_run item short k long n bytes) h
