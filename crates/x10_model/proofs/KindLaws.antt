-- Kinds, parameters and results are read again, and what is read of them is spelled so.
use Rattle.std.proofs.Common.{◌≡◌, ℕ, zero, suc, ◌^◌, ◌<◌, Bool, true, false, ◌&&◌, eqb, ltb, [], ◌∷◌, ◌++◌, length, Option, Some, None, IfSome, refl, sym, ap, subst, ◌∙◌, arith, eqb-true, ltb-true, lt-ltb}
use Rattle.std.specs.Int.{w16, to_be_bytes}
use Rattle.std.proofs.lemmas.Bool.{and_parts}
use Rattle.std.proofs.lemmas.Option.{cond_some}
use Rattle.x10_kinds.specs.declared.kind.Kind.{Kind as ValueKind}
use Rattle.x10_kinds.specs.declared.kind.Kind.TheVariants as kind
use Rattle.x10_model.specs.Modules.{NamesClassBelow, FitsSlot, takes_flag}
use Rattle.x10_model.specs.declared.slot.Slot.{Slot}
use Rattle.x10_model.specs.Images.{tag_of, class_of, kind_bytes, slot_bytes, result_bytes, flag_byte}
use Rattle.x10_model.specs.ReadingImages.{Short, Kind, without_class, with_class, kind_of, flagged, some_result, result_of, kind_at, slot_at, result_at}
use Rattle.x10_model.proofs.ReaderLaws.{Reads, then_reads, given_reads, spelled_as}
use Rattle.x10_model.proofs.PartLaws.{byte_reads, number_reads, wide16}

-- a kind is the one with its tag and class
record Means (classes : ℕ) (k : ValueKind) (tag class : ℕ) : Type 0 where
  class_is : class_of k ≡ class
  tag_is : tag_of k ≡ tag
  below : NamesClassBelow classes k

without_means : (classes : ℕ) (k : ValueKind) (tag class : ℕ) (y : ValueKind) → class_of k ≡ 0 → tag_of k ≡ tag → NamesClassBelow classes k
    → without_class k class ≡ Some y → Means classes y tag class
without_means classes k tag class y c t b e =
    let h = cond_some (eqb class 0) k y e in
    subst (λ (z : ValueKind). Means classes z tag class) h.1 (record { class_is = c ∙ sym (eqb-true class 0 h.0); tag_is = t; below = b })

with_means : (classes : ℕ) (make : ℕ → ValueKind) (tag class : ℕ) (y : ValueKind) → class_of (make class) ≡ class → tag_of (make class) ≡ tag
    → (class < classes → NamesClassBelow classes (make class)) → with_class make classes class ≡ Some y → Means classes y tag class
with_means classes make tag class y c t b e =
    let h = cond_some (ltb class classes) (make class) y e in
    subst (λ (z : ValueKind). Means classes z tag class) h.1 (record { class_is = c; tag_is = t; below = b (ltb-true class classes h.0) })

kind_means : (classes tag class : ℕ) (y : ValueKind) → kind_of classes tag class ≡ Some y → Means classes y tag class
kind_means classes zero class y e = absurd cc
kind_means classes (suc zero) class y e = without_means classes kind.Int 1 class y refl refl tt e
kind_means classes (suc (suc zero)) class y e = without_means classes kind.Place 2 class y refl refl tt e
kind_means classes (suc (suc (suc zero))) class y e = without_means classes kind.Text 3 class y refl refl tt e
kind_means classes (suc (suc (suc (suc zero)))) class y e = without_means classes kind.Rail 4 class y refl refl tt e
kind_means classes (suc (suc (suc (suc (suc zero))))) class y e = with_means classes kind.Obj 5 class y refl refl (λ h. h) e
kind_means classes (suc (suc (suc (suc (suc (suc zero)))))) class y e = with_means classes kind.Opt 6 class y refl refl (λ h. h) e
kind_means classes (suc (suc (suc (suc (suc (suc (suc zero))))))) class y e = with_means classes kind.GRef 7 class y refl refl (λ h. h) e
kind_means classes (suc (suc (suc (suc (suc (suc (suc (suc tag)))))))) class y e = absurd cc

kind_again : (classes : ℕ) (k : ValueKind) → NamesClassBelow classes k → kind_of classes (tag_of k) (class_of k) ≡ Some k
kind_again classes kind.Int h = refl
kind_again classes kind.Place h = refl
kind_again classes kind.Text h = refl
kind_again classes kind.Rail h = refl
kind_again classes (kind.Obj c) h = rw (lt-ltb c classes h) refl
kind_again classes (kind.Opt c) h = rw (lt-ltb c classes h) refl
kind_again classes (kind.GRef c) h = rw (lt-ltb c classes h) refl

class_below : (classes : ℕ) (k : ValueKind) → classes < 2 ^ 16 → NamesClassBelow classes k → class_of k < 2 ^ 16
class_below classes kind.Int few h = omega arith
class_below classes kind.Place few h = omega arith
class_below classes kind.Text few h = omega arith
class_below classes kind.Rail few h = omega arith
class_below classes (kind.Obj c) few h = omega (arith, h)
class_below classes (kind.Opt c) few h = omega (arith, h)
class_below classes (kind.GRef c) few h = omega (arith, h)

tag_below : (k : ValueKind) → tag_of k < 256
tag_below kind.Int = omega arith
tag_below kind.Place = omega arith
tag_below kind.Text = omega arith
tag_below kind.Rail = omega arith
tag_below (kind.Obj c) = omega arith
tag_below (kind.Opt c) = omega arith
tag_below (kind.GRef c) = omega arith

pub kind_reads : (classes : ℕ) → classes < 2 ^ 16 → Reads (kind_at classes) kind_bytes (NamesClassBelow classes)
unfolding kind_at kind_bytes
kind_reads classes few =
    then_reads tag_of (λ k. to_be_bytes w16 (class_of k)) (byte_reads Short) (λ k g. tag_below k) (λ tag _.
    given_reads (kind_of classes tag) (λ _. Kind) class_of (number_reads w16 (2 ^ 16) wide16 Short)
    (λ k g. (class_below classes k few g.1, ap (λ (t : ℕ). kind_of classes t (class_of k)) (sym g.0) ∙ kind_again classes k g.1))
    (λ class k lt e. let m = kind_means classes tag class k e in (m.class_is, (m.tag_is, m.below))))

-- ---- parameters

abbrev record_of : ValueKind → Bool → Slot
record_of k b = record { kind = k; home_here = b }

record Flags (o : Option ValueKind) (flag : ℕ) (s : Slot) : Type 0 where
  kind_is : o ≡ Some s.kind
  flag_is : flag_byte s.home_here ≡ flag
  allowed : s.home_here ≡ true → takes_flag s.kind ≡ true

flagged_means : (o : Option ValueKind) (flag : ℕ) (s : Slot) → flagged o flag ≡ Some s → Flags o flag s
flagged_means None flag s e = absurd cc
flagged_means (Some k) zero s e =
    let is : record_of k false ≡ s = cc in
    subst (λ (z : Slot). Flags (Some k) 0 z) is (record { kind_is = refl; flag_is = refl; allowed = λ h. absurd cc })
flagged_means (Some k) (suc zero) s e =
    let h = cond_some (takes_flag k) (record_of k true) s e in
    subst (λ (z : Slot). Flags (Some k) 1 z) h.1 (record { kind_is = refl; flag_is = refl; allowed = λ _. h.0 })
flagged_means (Some k) (suc (suc flag)) s e = absurd cc

flagged_again : (k : ValueKind) (b : Bool) → (b ≡ true → takes_flag k ≡ true) → flagged (Some k) (flag_byte b) ≡ Some (record_of k b)
flagged_again k false h = refl
flagged_again k true h = rw (h refl) refl

flag_below : (b : Bool) → flag_byte b < 256
flag_below false = omega arith
flag_below true = omega arith

slot_again : (classes : ℕ) (s : Slot) → FitsSlot classes s → flagged (kind_of classes (tag_of s.kind) (class_of s.kind)) (flag_byte s.home_here)
    ≡ Some s
slot_again classes s fits = ap (λ (o : Option ValueKind). flagged o (flag_byte s.home_here)) (kind_again classes s.kind fits.class)
    ∙ flagged_again s.kind s.home_here fits.flag

slot_means : (classes tag class flag : ℕ) (s : Slot) → Flags (kind_of classes tag class) flag s
    → (flag_byte s.home_here ≡ flag) × ((class_of s.kind ≡ class) × ((tag_of s.kind ≡ tag) × FitsSlot classes s))
slot_means classes tag class flag s f =
    let m = kind_means classes tag class s.kind f.kind_is in
    (f.flag_is, (m.class_is, (m.tag_is, record { class = m.below; flag = f.allowed })))

pub slot_reads : (classes : ℕ) → classes < 2 ^ 16 → Reads (slot_at classes) slot_bytes (FitsSlot classes)
unfolding slot_at slot_bytes kind_bytes
slot_reads classes few =
    then_reads (λ s. tag_of s.kind) (λ s. to_be_bytes w16 (class_of s.kind) ++ flag_byte s.home_here ∷ []) (byte_reads Short)
    (λ s g. tag_below s.kind) (λ tag _.
    then_reads (λ s. class_of s.kind) (λ s. flag_byte s.home_here ∷ []) (number_reads w16 (2 ^ 16) wide16 Short)
    (λ s g. class_below classes s.kind few g.1.class) (λ class _.
    given_reads (λ flag. flagged (kind_of classes tag class) flag) (λ _. Kind) (λ s. flag_byte s.home_here) (byte_reads Short)
    (λ s g. (flag_below s.home_here, rw (← g.0, ← g.1.0) (slot_again classes s g.1.1)))
    (λ flag s lt e. slot_means classes tag class flag s (flagged_means (kind_of classes tag class) flag s e))))

-- ---- results

abbrev result_tag : Option Slot → ℕ
result_tag None = 0
result_tag (Some s) = tag_of s.kind

abbrev result_class : Option Slot → ℕ
result_class None = 0
result_class (Some s) = class_of s.kind

abbrev result_flag : Option Slot → ℕ
result_flag None = 0
result_flag (Some s) = flag_byte s.home_here

record IsResult (classes tag class flag : ℕ) (r : Option Slot) : Type 0 where
  flag_is : result_flag r ≡ flag
  class_is : result_class r ≡ class
  tag_is : result_tag r ≡ tag
  fits : IfSome r (FitsSlot classes)

some_means : (classes tag class flag : ℕ) (o : Option Slot) (r : Option Slot) → o ≡ flagged (kind_of classes tag class) flag → some_result o ≡ Some r
    → IsResult classes tag class flag r
some_means classes tag class flag None r is e = absurd cc
some_means classes tag class flag (Some s) r is e =
    let m = slot_means classes tag class flag s (flagged_means (kind_of classes tag class) flag s (sym is)) in
    let h : Some s ≡ r = cc in
    subst (IsResult classes tag class flag) h (record { flag_is = m.0; class_is = m.1.0; tag_is = m.1.1.0; fits = m.1.1.1 })

result_means : (classes tag class flag : ℕ) (r : Option Slot) → result_of classes tag class flag ≡ Some r → IsResult classes tag class flag r
result_means classes zero class flag r e =
    let h = cond_some (eqb class 0 && eqb flag 0) None r e in
    let both = and_parts (eqb class 0) (eqb flag 0) h.0 in
    subst (IsResult classes 0 class flag) h.1 (record {
      flag_is = sym (eqb-true flag 0 both.1);
      class_is = sym (eqb-true class 0 both.0);
      tag_is = refl;
      fits = tt;
    })
result_means classes (suc tag) class flag r e = some_means classes (suc tag) class flag (flagged (kind_of classes (suc tag) class) flag) r refl e

result_of_some : (classes : ℕ) (k : ValueKind) (class flag : ℕ)
    → result_of classes (tag_of k) class flag ≡ some_result (flagged (kind_of classes (tag_of k) class) flag)
result_of_some classes kind.Int class flag = refl
result_of_some classes kind.Place class flag = refl
result_of_some classes kind.Text class flag = refl
result_of_some classes kind.Rail class flag = refl
result_of_some classes (kind.Obj c) class flag = refl
result_of_some classes (kind.Opt c) class flag = refl
result_of_some classes (kind.GRef c) class flag = refl

result_again : (classes : ℕ) (r : Option Slot) → IfSome r (FitsSlot classes)
    → result_of classes (result_tag r) (result_class r) (result_flag r) ≡ Some r
result_again classes None fits = refl
result_again classes (Some s) fits = result_of_some classes s.kind (class_of s.kind) (flag_byte s.home_here)
    ∙ ap some_result (slot_again classes s fits)

result_small : (classes : ℕ) (r : Option Slot) → classes < 2 ^ 16 → IfSome r (FitsSlot classes)
    → (result_tag r < 256) × (result_class r < 2 ^ 16) × (result_flag r < 256)
result_small classes None few fits = (omega arith, omega arith, omega arith)
result_small classes (Some s) few fits = (tag_below s.kind, class_below classes s.kind few fits.class, flag_below s.home_here)

result_spelled : (r : Option Slot) → (result_tag r ∷ []) ++ (to_be_bytes w16 (result_class r) ++ (result_flag r ∷ [])) ≡ result_bytes r
unfolding result_bytes slot_bytes kind_bytes
result_spelled None = refl
result_spelled (Some s) = refl

pub result_reads : (classes : ℕ) → classes < 2 ^ 16 → Reads (result_at classes) result_bytes (λ r. IfSome r (FitsSlot classes))
unfolding result_at
result_reads classes few = spelled_as
    (then_reads result_tag (λ r. to_be_bytes w16 (result_class r) ++ (result_flag r ∷ [])) (byte_reads Short)
    (λ r g. (result_small classes r few g).0) (λ tag _.
    then_reads result_class (λ r. result_flag r ∷ []) (number_reads w16 (2 ^ 16) wide16 Short) (λ r g. (result_small classes r few g.1).1) (λ class _.
    given_reads (λ flag. result_of classes tag class flag) (λ _. Kind) result_flag (byte_reads Short)
    (λ r g. ((result_small classes r few g.1.1).2, rw (← g.0, ← g.1.0) (result_again classes r g.1.1)))
    (λ flag r lt e. let m = result_means classes tag class flag r e in (m.flag_is, (m.class_is, (m.tag_is, m.fits)))))))
    result_spelled

pub length-kind_bytes : (k : ValueKind) → length (kind_bytes k) ≡ 3
unfolding kind_bytes
length-kind_bytes k = refl

pub length-slot_bytes : (s : Slot) → length (slot_bytes s) ≡ 4
unfolding slot_bytes kind_bytes
length-slot_bytes s = refl

pub length-result_bytes : (r : Option Slot) → length (result_bytes r) ≡ 4
unfolding result_bytes
length-result_bytes None = refl
length-result_bytes (Some s) = length-slot_bytes s
