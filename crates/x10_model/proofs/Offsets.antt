-- Parts of something spelled, by their places in its bytes; numbers at the front of bytes.
use Rattle.std.proofs.Common.{◌≡◌, ℕ, zero, suc, ◌+◌, ◌-◌, ◌*◌, ◌<◌, ◌≤◌, List, [], ◌∷◌, ◌++◌, length, get_or, Some, refl, sym, ap, ◌∙◌, append_assoc, arith, flat_map, slice_get, length-append, length-drop, get_or-append-add, drop_at, take_at, get_or-drop, drop, take, Ok, Err, lt-ltb, le-ltb, subst}
use Rattle.std.specs.Prelude.{slice_range}
use Rattle.std.proofs.lemmas.List.{drop-drop, get_or_append_left}
use Rattle.std.proofs.lemmas.List.Concat.{flat_map-cons}
use Rattle.x10_model.specs.Maps.{Pairwise}
use Rattle.x10_model.specs.Offsets.{StandsAt, EndsWith}
use Rattle.x10_model.specs.Readers.{IsBytes, number, bind, part, done}
use Rattle.std.specs.Int.{Width, byte_len, from_be_bytes}

-- ---- parts of a part

-- what stands behind the front of a part
pub later : (bytes : List ℕ) (at n next : ℕ) (front back : List ℕ) → n ≡ length front → next ≡ at + n → StandsAt bytes at (front ++ back)
    → StandsAt bytes next back
later bytes at n next front back len e s =
    record {
      rest = s.rest;
      is = rw (e, ← drop-drop n at bytes, s.is, append_assoc front back s.rest) (drop_at front (back ++ s.rest) n (sym len));
    }

-- the front of a part
pub narrow : (bytes : List ℕ) (at : ℕ) (front back : List ℕ) → StandsAt bytes at (front ++ back) → StandsAt bytes at front
narrow bytes at front back s = record { rest = back ++ s.rest; is = s.is ∙ append_assoc front back s.rest }

pub place_small : (bytes : List ℕ) (at : ℕ) (part : List ℕ) → 0 < length part → StandsAt bytes at part → at + length part ≤ length bytes
place_small bytes at part some s = omega (arith, length-drop at bytes, ap length s.is, length-append part s.rest, some)

-- a byte of a part
pub byte_is : (bytes : List ℕ) (at k : ℕ) (part : List ℕ) → k < length part → StandsAt bytes at part → get_or bytes (at + k) 0 ≡ get_or part k 0
byte_is bytes at k part lt s = sym (get_or-drop at bytes k 0) ∙ ap (λ (t : List ℕ). get_or t k 0) s.is ∙ get_or_append_left part s.rest 0 k lt

pub first_is : (bytes : List ℕ) (at n : ℕ) (part : List ℕ) → StandsAt bytes at (n ∷ part) → get_or bytes at 0 ≡ n
first_is bytes at n part s =
    let e : at + 0 ≡ at = omega arith in
    ap (λ (k : ℕ). get_or bytes k 0) (sym e) ∙ byte_is bytes at 0 (n ∷ part) (omega arith) s

-- the bytes of a part
pub range_is : (bytes : List ℕ) (at end : ℕ) (part : List ℕ) → end ≡ at + length part → StandsAt bytes at part → slice_range bytes at end ≡ part
range_is bytes at end part e s =
    let n : end - at ≡ length part = omega arith in
    rw (n, s.is) (take_at part s.rest (length part) refl)

-- ---- items

pub same_length : {X Y : Type 0} (R : X → Y → Type 0) (xs : List X) (ys : List Y) → Pairwise R xs ys → length xs ≡ length ys
same_length R [] [] h = refl
same_length R (x ∷ xs) (y ∷ ys) h = ap suc (same_length R xs ys h.1)
same_length R [] (y ∷ ys) h = absurd h
same_length R (x ∷ xs) [] h = absurd h

-- the item that the table's entry is for
pub item_of : {Y : Type 0} (R : ℕ → Y → Type 0) (xs : List ℕ) (ys : List Y) (i : ℕ) → Pairwise R xs ys → i < length ys
    → (y : Y) × (slice_get ys i ≡ Some y) × R (get_or xs i 0) y
item_of R [] [] i h lt = absurd (omega (arith, lt))
item_of R (x ∷ xs) (y ∷ ys) zero h lt = (y, refl, h.0)
item_of R (x ∷ xs) (y ∷ ys) (suc i) h lt = item_of R xs ys i h.1 (omega (arith, lt))
item_of R [] (y ∷ ys) i h lt = absurd h
item_of R (x ∷ xs) [] i h lt = absurd h

-- an item among others of one length
pub item_at : {A : Type 0} (spell : A → List ℕ) (k : ℕ) → ((x : A) → length (spell x) ≡ k) → (bytes : List ℕ) (at : ℕ) (xs : List A) (i next : ℕ)
    → next ≡ at + k * i → StandsAt bytes at (flat_map spell xs) → i < length xs → (x : A) × (slice_get xs i ≡ Some x) × StandsAt bytes next (spell x)
item_at spell k len bytes at [] i next e s lt = absurd (omega (arith, lt))
item_at spell k len bytes at (x ∷ xs) zero next e s lt =
    let here : next ≡ at = omega (arith, e) in
    (x, refl, rw here (narrow bytes at (spell x) (flat_map spell xs) (rw flat_map-cons at s)))
item_at spell k len bytes at (x ∷ xs) (suc i) next e s lt =
    let there : next ≡ (at + k) + k * i = omega (arith, e) in
    item_at spell k len bytes (at + k) xs i next there (later bytes at k (at + k) (spell x) (flat_map spell xs) (sym (len x)) refl
    (rw flat_map-cons at s)) (omega (arith, lt))

-- ---- the end of the bytes

-- a part at the front of the end, and what follows it
pub place_is : (image bytes part rest : List ℕ) → EndsWith image bytes → bytes ≡ part ++ rest → StandsAt image (length image - length bytes) part
place_is image bytes part rest e is =
    let at : length image - length bytes ≡ length e.before = omega (arith, ap length e.is, length-append e.before bytes) in
    record { rest = rest; is = rw at (ap (drop (length e.before)) e.is ∙ drop_at e.before bytes (length e.before) refl ∙ is) }

pub still_ends : (image bytes part rest : List ℕ) → EndsWith image bytes → bytes ≡ part ++ rest → EndsWith image rest
still_ends image bytes part rest e is = record {
  before = e.before ++ part;
  is = e.is ∙ ap (λ (t : List ℕ). e.before ++ t) is ∙ sym (append_assoc e.before part rest);
}

pub Pairwise-push : {X Y : Type 0} (R : X → Y → Type 0) (xs : List X) (ys : List Y) (x : X) (y : Y) → Pairwise R xs ys → R x y
    → Pairwise R (xs ++ x ∷ []) (ys ++ y ∷ [])
Pairwise-push R [] [] x y h r = (r, tt)
Pairwise-push R (a ∷ xs) (b ∷ ys) x y h r = (h.0, Pairwise-push R xs ys x y h.1 r)
Pairwise-push R [] (b ∷ ys) x y h r = absurd h
Pairwise-push R (a ∷ xs) [] x y h r = absurd h

pub ends_small : (image bytes : List ℕ) → EndsWith image bytes → length bytes ≤ length image
ends_small image bytes e = omega (arith, ap length e.is, length-append e.before bytes)

pub ends_bytes : (image bytes : List ℕ) → IsBytes image → EndsWith image bytes → IsBytes bytes
ends_bytes image bytes b e k =
    let same : get_or image (length e.before + k) 0 ≡ get_or bytes k 0 =
    ap (λ (t : List ℕ). get_or t (length e.before + k) 0) e.is ∙ get_or-append-add e.before bytes k 0 in
    subst (λ (n : ℕ). n < 256) same (b (length e.before + k))

-- ---- numbers

pub number_short : {E : Type 0} (short : E) (w : Width) (bytes : List ℕ) → length bytes < byte_len w → number w short bytes ≡ Err short
unfolding number bind part
number_short short w bytes h = rw (lt-ltb _ _ h) refl

pub number_is : {E : Type 0} (short : E) (w : Width) (bytes : List ℕ) (n : ℕ) → byte_len w ≤ length bytes
    → from_be_bytes w (take (byte_len w) bytes) ≡ n → number w short bytes ≡ Ok (n, drop (byte_len w) bytes)
unfolding number bind part done
number_is short w bytes n h e = rw (le-ltb _ _ h, e) refl
