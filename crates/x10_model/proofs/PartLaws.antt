-- The readers of parts: bytes, numbers, and so many items.
use Rattle.std.proofs.Common.{◌≡◌, ℕ, zero, suc, ◌+◌, ◌^◌, ◌<◌, ◌≤◌, Bool, true, false, List, [], ◌∷◌, ◌++◌, length, get_or, take, drop, Result, Ok, Err, FitsSigned, refl, sym, ap, subst, ◌∙◌, append_assoc, arith, inl, inr, flat_map, ltb, le-ltb, ltb-false, length-append, length-take, take-append-drop, take_at, drop_at, append-nil}
use Rattle.std.specs.List.{AllByRecursion}
use Rattle.std.specs.Int.{Width, w16, w32, w64, byte_len, from_be_bytes, to_be_bytes, cast_signed, cast_unsigned, bytes_high_first, byte_at}
use Rattle.std.proofs.lemmas.Bool.{cases_lt}
use Rattle.std.proofs.lemmas.List.{get_or-drop, get_or-take, get_or_past}
use Rattle.std.proofs.lemmas.List.Concat.{flat_map-cons}
use Rattle.std.proofs.lemmas.Nat.{be_bytes_2, be_bytes_4, be_bytes_8, from_be_bytes-to_be_bytes_2, from_be_bytes-to_be_bytes_4, from_be_bytes-to_be_bytes_8}
use Rattle.std.proofs.lemmas.Int.{to_z-of_z, of_z-to_z}
use Rattle.std.proofs.Math.Facts.{Fits-of_z, Fits-lt-pow, Fits-of_lt, sfits_to_z}
use Rattle.x10_model.specs.Readers.{int, Reader, IsBytes, bind, done, part, byte, number, many, FitsEach, all_of, ended}
use Rattle.x10_model.proofs.ReaderLaws.{Reads, Takes, Takes-then, same, bind_is, bind_ok, last_reads, fits_as}

IsBytes-drop : (n : ℕ) (bytes : List ℕ) → IsBytes bytes → IsBytes (drop n bytes)
IsBytes-drop n bytes h i = rw get_or-drop (h (n + i))

IsBytes-take : (n : ℕ) (bytes : List ℕ) → IsBytes bytes → IsBytes (take n bytes)
IsBytes-take n bytes h i =
    elim (cases_lt i n) [
      | inl lt ↦ rw (get_or-take n bytes i 0 lt) (h i)
      | inr le ↦ rw (get_or_past (take n bytes) i 0 (omega (arith, length-take n bytes))) (omega arith)
    ]

byte_at-lt : (k n : ℕ) → byte_at k n < 256
byte_at-lt zero n = omega arith
byte_at-lt (suc k) n = omega arith

IsBytes-nil : IsBytes []
IsBytes-nil k = omega arith

pub IsBytes-cons : (n : ℕ) (bytes : List ℕ) → n < 256 → IsBytes bytes → IsBytes (n ∷ bytes)
IsBytes-cons n bytes lt h zero = lt
IsBytes-cons n bytes lt h (suc k) = h k

pub bytes_below : (k n : ℕ) → IsBytes (bytes_high_first k n)
bytes_below zero n = IsBytes-nil
bytes_below (suc k) n = IsBytes-cons (byte_at k n) (bytes_high_first k n) (byte_at-lt k n) (bytes_below k n)

-- ---- bytes

part_is : {E : Type 0} (n : ℕ) (short : E) (bytes : List ℕ) → n ≤ length bytes → part n short bytes ≡ Ok (take n bytes, drop n bytes)
unfolding part
part_is n short bytes h = rw (le-ltb _ _ h) refl

part_long : {E : Type 0} (n : ℕ) (short : E) (bytes x rest : List ℕ) (b : Bool) → ltb (length bytes) n ≡ b → part n short bytes ≡ Ok (x, rest)
    → n ≤ length bytes
unfolding part
part_long n short bytes x rest true is e = absurd (let h = rw is at e in cc)
part_long n short bytes x rest false is e = ltb-false _ _ is

pub part_reads : {E : Type 0} (n : ℕ) (short : E) → Reads (part n short) (λ x. x) (λ x. (length x ≡ n) × IsBytes x)
part_reads {E} n short = record {
  again = λ x rest g. part_is n short (x ++ rest) (omega (arith, length-append x rest, g.0)) ∙ rw (take_at x rest n g.0, drop_at x rest n g.0) refl;
  takes = λ bytes x rest b e.
      let long : n ≤ length bytes = part_long n short bytes x rest (ltb (length bytes) n) refl e in
      let is = same {E = E} (take n bytes) x (drop n bytes) rest (sym (part_is n short bytes long) ∙ e) in
      let whole : Takes bytes (take n bytes) (drop n bytes) = record { parts = sym (take-append-drop n bytes); rest_fits = IsBytes-drop n bytes b } in (
        subst (λ (t : List ℕ). Takes bytes t rest) is.0 (subst (λ (t : List ℕ). Takes bytes (take n bytes) t) is.1 whole),
        subst (λ (t : List ℕ). (length t ≡ n) × IsBytes t) is.0 (omega (arith, length-take n bytes), IsBytes-take n bytes b),
      );
}

-- where nothing more is asked of the bytes
pub part_reads_any : {E : Type 0} (n : ℕ) (short : E) → Reads (part n short) (λ x. x) (λ x. length x ≡ n)
part_reads_any {E} n short = record {
  again = λ x rest g. part_is n short (x ++ rest) (omega (arith, length-append x rest, g)) ∙ rw (take_at x rest n g, drop_at x rest n g) refl;
  takes = λ bytes x rest b e. let t = (part_reads {E = E} n short).takes bytes x rest b e in (t.0, t.1.0);
}

byte_again : {E : Type 0} (short : E) (x : ℕ) (rest : List ℕ) → byte short (x ∷ rest) ≡ Ok (x, rest)
unfolding byte
byte_again short x rest = refl

byte_takes : {E : Type 0} (short : E) (bytes : List ℕ) (x : ℕ) (rest : List ℕ) → IsBytes bytes → byte short bytes ≡ Ok (x, rest)
    → Takes bytes (x ∷ []) rest × (x < 256)
unfolding byte
byte_takes short [] x rest b e = absurd cc
byte_takes {E} short (n ∷ bytes) x rest b e =
    let is = same {E = E} n x bytes rest e in (
      record { parts = rw (is.0, is.1) refl; rest_fits = λ k. subst (λ (t : List ℕ). get_or t k 0 < 256) is.1 (b (suc k)) },
      subst (λ (m : ℕ). m < 256) is.0 (b 0),
    )

pub byte_reads : {E : Type 0} (short : E) → Reads (byte short) (λ n. n ∷ []) (λ n. n < 256)
byte_reads short = record { again = λ x rest g. byte_again short x rest; takes = λ bytes x rest b e. byte_takes short bytes x rest b e }

-- ---- numbers

pub record IsWide (w : Width) (limit : ℕ) : Type 0 where
  pub len : (n : ℕ) → length (to_be_bytes w n) ≡ byte_len w
  pub back : (bytes : List ℕ) → length bytes ≡ byte_len w → IsBytes bytes → to_be_bytes w (from_be_bytes w bytes) ≡ bytes
  pub again : (n : ℕ) → n < limit → from_be_bytes w (to_be_bytes w n) ≡ n
  pub below : (bytes : List ℕ) → IsBytes bytes → from_be_bytes w bytes < limit

pub wide16 : IsWide w16 (2 ^ 16)
wide16 = record {
  len = λ n. refl;
  back = λ bytes len fits. be_bytes_2 bytes _ len fits refl;
  again = λ n lt. from_be_bytes-to_be_bytes_2 n lt;
  below = λ bytes fits. omega (arith, fits 0, fits 1);
}

pub wide32 : IsWide w32 (2 ^ 32)
wide32 = record {
  len = λ n. refl;
  back = λ bytes len fits. be_bytes_4 bytes _ len fits refl;
  again = λ n lt. from_be_bytes-to_be_bytes_4 n lt;
  below = λ bytes fits. omega (arith, fits 0, fits 1, fits 2, fits 3);
}

pub wide64 : IsWide w64 (2 ^ 64)
wide64 = record {
  len = λ n. refl;
  back = λ bytes len fits. be_bytes_8 bytes _ len fits refl;
  again = λ n lt. from_be_bytes-to_be_bytes_8 n lt;
  below = λ bytes fits. omega (arith, fits 0, fits 1, fits 2, fits 3, fits 4, fits 5, fits 6, fits 7);
}

pub number_reads : {E : Type 0} (w : Width) (limit : ℕ) → IsWide w limit → (short : E) → Reads (number w short) (to_be_bytes w) (λ n. n < limit)
unfolding number
number_reads {E} w limit wide short =
    last_reads (from_be_bytes w) (to_be_bytes w) (part_reads (byte_len w) short)
    (λ n lt. ((wide.len n, bytes_below (byte_len w) n), wide.again n lt))
    (λ x g. (wide.back x g.0 g.1, wide.below x g.1))

pub int_reads : {E : Type 0} (short : E) → Reads (int short) (λ z. to_be_bytes w64 (cast_unsigned w64 z)) (FitsSigned w64)
unfolding int
int_reads short =
    last_reads (cast_signed w64) (cast_unsigned w64) (number_reads w64 (2 ^ 64) wide64 short)
    (λ z fits. (Fits-lt-pow {w = w64} (Fits-of_z {w = w64} {z = z} fits), to_z-of_z w64 z fits))
    (λ n lt. (of_z-to_z w64 n lt, sfits_to_z {w = w64} {n = n} (Fits-of_lt {w = w64} lt)))

-- ---- so many items

many_again : {E S A : Type 0} (item : S → Reader E A) (spell : A → List ℕ) (Fits : S → A → Type 0) (after : S → A → S)
    → ((s : S) → Reads (item s) spell (Fits s))
    → (n : ℕ) (s : S) (xs : List A) (rest : List ℕ) → length xs ≡ n → FitsEach Fits after s xs
    → many item after n s (flat_map spell xs ++ rest) ≡ Ok (xs, rest)
unfolding many done
many_again item spell Fits after each zero s [] rest len fits = refl
many_again item spell Fits after each zero s (x ∷ xs) rest len fits = absurd (omega arith)
many_again item spell Fits after each (suc n) s [] rest len fits = absurd (omega arith)
many_again item spell Fits after each (suc n) s (x ∷ xs) rest len fits =
    let regrouped : flat_map spell (x ∷ xs) ++ rest ≡ spell x ++ (flat_map spell xs ++ rest) =
    ap (λ (t : List ℕ). t ++ rest) (flat_map-cons spell x xs) ∙ append_assoc (spell x) (flat_map spell xs) rest in
    let one = (each s).again x (flat_map spell xs ++ rest) fits.0 in
    let others = many_again item spell Fits after each n (after s x) xs rest (omega arith) fits.1 in
    ap (many item after (suc n) s) regrouped ∙ bind_is (item s) _ _ x _ one ∙ bind_is (many item after n (after s x)) _ _ xs rest others

many_takes : {E S A : Type 0} (item : S → Reader E A) (spell : A → List ℕ) (Fits : S → A → Type 0) (after : S → A → S)
    → ((s : S) → Reads (item s) spell (Fits s))
    → (n : ℕ) (s : S) (bytes : List ℕ) (xs : List A) (rest : List ℕ) → IsBytes bytes → many item after n s bytes ≡ Ok (xs, rest)
    → Takes bytes (flat_map spell xs) rest × ((length xs ≡ n) × FitsEach Fits after s xs)
unfolding many done
many_takes {E} {S} {A} item spell Fits after each zero s bytes xs rest b e =
    let is = same {E = E} [] xs bytes rest e in
    subst (λ (ys : List A). Takes bytes (flat_map spell ys) rest × ((length ys ≡ 0) × FitsEach Fits after s ys)) is.0
    (record { parts = is.1; rest_fits = subst IsBytes is.1 b }, (refl, tt))
many_takes {E} {S} {A} item spell Fits after each (suc n) s bytes xs rest b e =
    let one = bind_ok (item s) (λ first. bind (many item after n (after s first)) (λ others. done (first ∷ others))) bytes xs rest e in
    let two = bind_ok (many item after n (after s one.value)) (λ others. done (one.value ∷ others)) one.middle xs rest one.second in
    let first = (each s).takes bytes one.value one.middle b one.first in
    let others = many_takes item spell Fits after each n (after s one.value) one.middle two.value two.middle first.0.rest_fits two.first in
    let is = same {E = E} (one.value ∷ two.value) xs two.middle rest two.second in
    let both = Takes-then bytes (spell one.value) one.middle (flat_map spell two.value) two.middle first.0 others.0 in
    subst (λ (t : List ℕ). Takes bytes (flat_map spell xs) t × ((length xs ≡ suc n) × FitsEach Fits after s xs)) is.1
    (subst (λ (ys : List A). Takes bytes (flat_map spell ys) two.middle × ((length ys ≡ suc n) × FitsEach Fits after s ys)) is.0
    (rw flat_map-cons both, (ap suc others.1.0, (first.1, others.1.1))))

pub many_reads : {E S A : Type 0} {item : S → Reader E A} {spell : A → List ℕ} {Fits : S → A → Type 0} (after : S → A → S)
    → ((s : S) → Reads (item s) spell (Fits s))
    → (n : ℕ) (s : S) → Reads (many item after n s) (flat_map spell) (λ xs. (length xs ≡ n) × FitsEach Fits after s xs)
many_reads {E} {S} {A} {item} {spell} {Fits} after each n s = record {
  again = λ xs rest g. many_again item spell Fits after each n s xs rest g.0 g.1;
  takes = λ bytes xs rest b e. many_takes item spell Fits after each n s bytes xs rest b e;
}

-- items whose rule is one for all
each_from_all : {S A : Type 0} (Fits : A → Type 0) (after : S → A → S) (s : S) (xs : List A) → AllByRecursion Fits xs
    → FitsEach (λ _. Fits) after s xs
each_from_all Fits after s [] h = tt
each_from_all Fits after s (x ∷ xs) h = (h.0, each_from_all Fits after (after s x) xs h.1)

all_from_each : {S A : Type 0} (Fits : A → Type 0) (after : S → A → S) (s : S) (xs : List A) → FitsEach (λ _. Fits) after s xs
    → AllByRecursion Fits xs
all_from_each Fits after s [] h = tt
all_from_each Fits after s (x ∷ xs) h = (h.0, all_from_each Fits after (after s x) xs h.1)

pub each_reads : {E S A : Type 0} {item : S → Reader E A} {spell : A → List ℕ} {Fits : A → Type 0} (after : S → A → S)
    → ((s : S) → Reads (item s) spell Fits)
    → (n : ℕ) (s : S) → Reads (many item after n s) (flat_map spell) (λ xs. (length xs ≡ n) × AllByRecursion Fits xs)
each_reads {Fits = Fits} after each n s =
    fits_as (many_reads {Fits = λ _. Fits} after each n s)
    (λ xs h. (h.0, all_from_each Fits after s xs h.1))
    (λ xs h. (h.0, each_from_all Fits after s xs h.1))

-- ---- all of the bytes

pub all_again : {E A : Type 0} {r : Reader E A} {spell : A → List ℕ} {Fits : A → Type 0} → Reads r spell Fits → (trailing : E) (x : A) → Fits x
    → all_of r trailing (spell x) ≡ Ok x
unfolding all_of
all_again {E} {A} {r} {spell} h trailing x fits = ap (λ (t : List ℕ). ended trailing (r t)) (sym (append-nil (spell x)))
    ∙ ap (ended trailing) (h.again x [] fits)

ended_ok : {E A : Type 0} (trailing : E) (o : Result (A × List ℕ) E) (x : A) → ended trailing o ≡ Ok x → o ≡ Ok (x, [])
ended_ok trailing (Ok (y, [])) x e = cc
ended_ok trailing (Ok (y, b ∷ bytes)) x e = absurd cc
ended_ok trailing (Err f) x e = absurd cc

pub all_takes : {E A : Type 0} {r : Reader E A} {spell : A → List ℕ} {Fits : A → Type 0} → Reads r spell Fits
    → (trailing : E) (bytes : List ℕ) (x : A) → IsBytes bytes → all_of r trailing bytes ≡ Ok x → Fits x × (bytes ≡ spell x)
unfolding all_of
all_takes {E} {A} {r} {spell} h trailing bytes x b e =
    let t = h.takes bytes x [] b (ended_ok trailing (r bytes) x e) in
    (t.1, t.0.parts ∙ append-nil (spell x))
