-- Kinds and slots from their bytes: each by its place, and all of them again.
use Rattle.std.proofs.Common.{◌≡◌, ℕ, zero, suc, ◌+◌, ◌*◌, ◌^◌, ◌<◌, Bool, true, false, eqb, List, [], ◌∷◌, length, get_or, Some, refl, ap, ◌∙◌, arith, flat_map, slice_get, get_or-append-add}
use Rattle.std.specs.List.{AllByRecursion}
use Rattle.std.specs.Int.{w16, to_be_bytes, from_be_bytes}
use Rattle.std.proofs.lemmas.Nat.{from_be_bytes-to_be_bytes_2}
use Rattle.x10_kinds.specs.declared.kind.Kind.{Kind}
use Rattle.x10_kinds.specs.declared.kind.Kind.TheVariants as kind
use Rattle.x10_model.specs.Modules.{NamesClassBelow, FitsSlot}
use Rattle.x10_model.specs.declared.slot.Slot.{Slot}
use Rattle.x10_model.specs.Images.{tag_of, class_of, flag_byte, kind_bytes, slot_bytes}
use Rattle.x10_image.specs.Parts.{kind_with, kinds_in, slots_in}

abbrev pub kind_of_three : ℕ → ℕ → ℕ → Kind
kind_of_three tag high low = kind_with tag (from_be_bytes w16 (high ∷ low ∷ []))

abbrev pub slot_of_four : ℕ → ℕ → ℕ → ℕ → Slot
slot_of_four tag high low flag = record { kind = kind_of_three tag high low; home_here = eqb flag 1 }

abbrev pub slot_with : Kind → Bool → Slot
slot_with k here = record { kind = k; home_here = here }

pub kinds_get : (bytes : List ℕ) (i p q r : ℕ) → p ≡ 3 * i → q ≡ 3 * i + 1 → r ≡ 3 * i + 2 → i < length (kinds_in bytes)
    → slice_get (kinds_in bytes) i ≡ Some (kind_of_three (get_or bytes p 0) (get_or bytes q 0) (get_or bytes r 0))
unfolding kinds_in
kinds_get (tag ∷ high ∷ low ∷ rest) zero p q r ep eq er lt =
    let hp : p ≡ 0 = omega arith in
    let hq : q ≡ 1 = omega arith in
    let hr : r ≡ 2 = omega arith in
    rw (hp, hq, hr) refl
kinds_get (tag ∷ high ∷ low ∷ rest) (suc i) p q r ep eq er lt =
    let hp : p ≡ 3 + 3 * i = omega arith in
    let hq : q ≡ 3 + (3 * i + 1) = omega arith in
    let hr : r ≡ 3 + (3 * i + 2) = omega arith in
    let front = tag ∷ high ∷ low ∷ [] in
    kinds_get rest i (3 * i) (3 * i + 1) (3 * i + 2) refl refl refl (omega (arith, lt))
    ∙ rw (hp, hq, hr, get_or-append-add front rest (3 * i) 0, get_or-append-add front rest (3 * i + 1) 0, get_or-append-add front rest (3 * i + 2) 0)
    refl
kinds_get _ i p q r ep eq er lt = absurd (omega (arith, lt))

pub slots_get : (bytes : List ℕ) (i p q r s : ℕ) → p ≡ 4 * i → q ≡ 4 * i + 1 → r ≡ 4 * i + 2 → s ≡ 4 * i + 3 → i < length (slots_in bytes)
    → slice_get (slots_in bytes) i ≡ Some (slot_of_four (get_or bytes p 0) (get_or bytes q 0) (get_or bytes r 0) (get_or bytes s 0))
unfolding slots_in
slots_get (tag ∷ high ∷ low ∷ flag ∷ rest) zero p q r s ep eq er es lt =
    let hp : p ≡ 0 = omega arith in
    let hq : q ≡ 1 = omega arith in
    let hr : r ≡ 2 = omega arith in
    let hs : s ≡ 3 = omega arith in
    rw (hp, hq, hr, hs) refl
slots_get (tag ∷ high ∷ low ∷ flag ∷ rest) (suc i) p q r s ep eq er es lt =
    let hp : p ≡ 4 + 4 * i = omega arith in
    let hq : q ≡ 4 + (4 * i + 1) = omega arith in
    let hr : r ≡ 4 + (4 * i + 2) = omega arith in
    let hs : s ≡ 4 + (4 * i + 3) = omega arith in
    let front = tag ∷ high ∷ low ∷ flag ∷ [] in
    slots_get rest i (4 * i) (4 * i + 1) (4 * i + 2) (4 * i + 3) refl refl refl refl (omega (arith, lt))
    ∙ rw (
      hp,
      hq,
      hr,
      hs,
      get_or-append-add front rest (4 * i) 0,
      get_or-append-add front rest (4 * i + 1) 0,
      get_or-append-add front rest (4 * i + 2) 0,
      get_or-append-add front rest (4 * i + 3) 0,
    ) refl
slots_get _ i p q r s ep eq er es lt = absurd (omega (arith, lt))

-- ---- all of them again

kind_again : (k : Kind) → kind_with (tag_of k) (class_of k) ≡ k
kind_again kind.Int = refl
kind_again kind.Place = refl
kind_again kind.Text = refl
kind_again kind.Rail = refl
kind_again (kind.Obj c) = refl
kind_again (kind.Opt c) = refl
kind_again (kind.GRef c) = refl

class_small : (classes : ℕ) (k : Kind) → classes < 2 ^ 16 → NamesClassBelow classes k → class_of k < 2 ^ 16
class_small classes kind.Int few h = omega arith
class_small classes kind.Place few h = omega arith
class_small classes kind.Text few h = omega arith
class_small classes kind.Rail few h = omega arith
class_small classes (kind.Obj c) few h = omega (arith, h)
class_small classes (kind.Opt c) few h = omega (arith, h)
class_small classes (kind.GRef c) few h = omega (arith, h)

three_again : (classes : ℕ) (k : Kind) → classes < 2 ^ 16 → NamesClassBelow classes k
    → kind_with (tag_of k) (from_be_bytes w16 (to_be_bytes w16 (class_of k))) ≡ k
three_again classes k few h = ap (λ (c : ℕ). kind_with (tag_of k) c) (from_be_bytes-to_be_bytes_2 (class_of k) (class_small classes k few h))
    ∙ kind_again k

flag_again : (b : Bool) → eqb (flag_byte b) 1 ≡ b
flag_again false = refl
flag_again true = refl

pub slot_again : (classes : ℕ) (s : Slot) → classes < 2 ^ 16 → FitsSlot classes s
    → slot_with (kind_with (tag_of s.kind) (from_be_bytes w16 (to_be_bytes w16 (class_of s.kind)))) (eqb (flag_byte s.home_here) 1) ≡ s
slot_again classes s few h = rw (three_again classes s.kind few h.class, flag_again s.home_here) refl

pub kinds_again : (classes : ℕ) (ks : List Kind) → classes < 2 ^ 16 → AllByRecursion (NamesClassBelow classes) ks
    → kinds_in (flat_map kind_bytes ks) ≡ ks
unfolding kinds_in kind_bytes
kinds_again classes [] few h = refl
kinds_again classes (k ∷ ks) few h =
    ap (λ (x : Kind). x ∷ kinds_in (flat_map kind_bytes ks)) (three_again classes k few h.0)
    ∙ ap (λ (xs : List Kind). k ∷ xs) (kinds_again classes ks few h.1)

pub slots_again : (classes : ℕ) (ss : List Slot) → classes < 2 ^ 16 → AllByRecursion (FitsSlot classes) ss → slots_in (flat_map slot_bytes ss) ≡ ss
unfolding slots_in slot_bytes kind_bytes
slots_again classes [] few h = refl
slots_again classes (s ∷ ss) few h =
    ap (λ (x : Slot). x ∷ slots_in (flat_map slot_bytes ss)) (slot_again classes s few h.0)
    ∙ ap (λ (xs : List Slot). s ∷ xs) (slots_again classes ss few h.1)

-- ---- how many there are

pub kinds_long : (n : ℕ) (bytes : List ℕ) → length bytes ≡ 3 * n → length bytes ≡ 3 * length (kinds_in bytes)
unfolding kinds_in
kinds_long n [] h = omega arith
kinds_long n (a ∷ []) h = absurd (omega (arith, h))
kinds_long n (a ∷ b ∷ []) h = absurd (omega (arith, h))
kinds_long zero (a ∷ b ∷ c ∷ rest) h = absurd (omega (arith, h))
kinds_long (suc n) (a ∷ b ∷ c ∷ rest) h = omega (arith, kinds_long n rest (omega (arith, h)))

pub slots_long : (n : ℕ) (bytes : List ℕ) → length bytes ≡ 4 * n → length bytes ≡ 4 * length (slots_in bytes)
unfolding slots_in
slots_long n [] h = omega arith
slots_long n (a ∷ []) h = absurd (omega (arith, h))
slots_long n (a ∷ b ∷ []) h = absurd (omega (arith, h))
slots_long n (a ∷ b ∷ c ∷ []) h = absurd (omega (arith, h))
slots_long zero (a ∷ b ∷ c ∷ d ∷ rest) h = absurd (omega (arith, h))
slots_long (suc n) (a ∷ b ∷ c ∷ d ∷ rest) h = omega (arith, slots_long n rest (omega (arith, h)))
