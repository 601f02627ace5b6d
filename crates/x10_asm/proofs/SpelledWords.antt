-- Numbers, kinds and operands as words are read again.
use Rattle.std.proofs.Common.{◌≡◌, ℕ, ℤ, pos, negsuc, suc, ◌-◌, ◌^◌, ◌≤◌, ◌<◌, Bool, true, false, ◌&&◌, List, [], ◌∷◌, ◌++◌, length, map, inl, inr, ◌⊎◌, Option, Some, None, Result, Ok, IfSome, refl, ap, ◌∙◌, arith}
use Rattle.std.specs.Prelude.{nat_lt, nat_le, if◌then◌else◌, codes, decimal, IsTrue, FitsSigned}
use Rattle.std.specs.Int.{w64}
use Rattle.std.specs.Fmt.{signed_decimal}
use Rattle.std.specs.Str.{all_ascii_digits, bytes_eq}
use Rattle.std.specs.Str.Parse.{digits_value}
use Rattle.std.specs.List.{list_all, AllByRecursion}
use Rattle.std.proofs.lemmas.Fmt.{digits_decimal, digits_value-decimal, decimal_nonempty}
use Rattle.std.proofs.lemmas.Bool.{lt-ltb, le-leb, ne_eqb, and_parts, and_from, leb-true, false≢true}
use Rattle.x10_kinds.specs.declared.kind.Kind.{Kind}
use Rattle.x10_kinds.specs.declared.kind.Kind.TheVariants as kind
use Rattle.x10_model.specs.declared.slot.Slot.{Slot}
use Rattle.x10_model.specs.Modules.{NamesClassBelow, FitsSlot, takes_flag}
use Rattle.x10_asm.specs.declared.fault.AsmCause.{AsmCause}
use Rattle.x10_asm.specs.Lines.{number_of, int_of, begins, plus, minus}
use Rattle.x10_asm.specs.Kinds.{class_of, slot_with, plain, slot_of, field_of, result_of, each, are_known, some_slot}
use Rattle.x10_asm.specs.Checks.{◌>>=◌}
use Rattle.x10_asm.specs.Listing.{kind_word, flagged_word, slot_word, result_word}
use Rattle.x10_asm.proofs.Numbers.{own}
use Rattle.x10_asm.proofs.SpelledLines.{IsWord, word_join}

-- ---- numbers

pub number_again : (most n : ℕ) → n ≤ most → n < 2 ^ 64 → number_of most (decimal n) ≡ Some n
number_again most n le small =
    let value : digits_value 10 (decimal n) ≡ n = digits_value-decimal own n small in
    let digits : all_ascii_digits (decimal n) ≡ true = digits_decimal own n small in
    rw (and_from (nat_lt 0 (length (decimal n)) && all_ascii_digits (decimal n)) (nat_le (digits_value 10 (decimal n)) most)
    (and_from (nat_lt 0 (length (decimal n))) (all_ascii_digits (decimal n)) (lt-ltb 0 (length (decimal n)) (decimal_nonempty n small)) digits)
    (le-leb (digits_value 10 (decimal n)) most (omega (arith, value, le)))) (ap (λ (k : ℕ). Some k) value)

digits_printed : (ds : List ℕ) → all_ascii_digits ds ≡ true → list_all (nat_lt 32) ds ≡ true
digits_printed [] h = refl
digits_printed (c ∷ cs) h =
    let p = and_parts (nat_le 48 c && nat_le c 57) (all_ascii_digits cs) h in
    and_from (nat_lt 32 c) (list_all (nat_lt 32) cs) (lt-ltb 32 c (omega (arith, leb-true 48 c (and_parts (nat_le 48 c) (nat_le c 57) p.0).0)))
    (digits_printed cs p.1)

pub decimal_printed : (n : ℕ) → n < 2 ^ 64 → list_all (nat_lt 32) (decimal n) ≡ true
decimal_printed n small = digits_printed (decimal n) (digits_decimal own n small)

pub decimal_word : (n : ℕ) → n < 2 ^ 64 → IsWord (decimal n)
decimal_word n small = record { some = decimal_nonempty n small; printed = decimal_printed n small }

-- digits begin with no sign
digits_begin : (c : ℕ) (ds : List ℕ) → (c < 48) ⊎ (57 < c) → all_ascii_digits ds ≡ true → begins c ds ≡ false
digits_begin c [] sign h = refl
digits_begin c (d ∷ ds) sign h =
    let p = and_parts (nat_le 48 d) (nat_le d 57) (and_parts (nat_le 48 d && nat_le d 57) (all_ascii_digits ds) h).0 in
    ne_eqb d c (λ e. elim sign [ inl lt ↦ absurd (omega (arith, leb-true 48 d p.0)) | inr gt ↦ absurd (omega (arith, leb-true d 57 p.1)) ])

pub decimal_begins : (c n : ℕ) → (c < 48) ⊎ (57 < c) → n < 2 ^ 64 → begins c (decimal n) ≡ false
decimal_begins c n sign small = digits_begin c (decimal n) sign (digits_decimal own n small)

pub int_again : (z : ℤ) → FitsSigned w64 z → int_of (signed_decimal z) ≡ Some z
int_again (pos n) f = rw (decimal_begins 45 n (inl (omega arith)) (omega (arith, f.sfits)))
    (ap plus (number_again (2 ^ 63 - 1) n (omega (arith, f.sfits)) (omega (arith, f.sfits))))
int_again (negsuc n) f = ap minus (number_again (2 ^ 63) (suc n) (omega (arith, f.sfits)) (omega (arith, f.sfits)))

pub int_word : (z : ℤ) → FitsSigned w64 z → IsWord (signed_decimal z)
int_word (pos n) f = decimal_word n (omega (arith, f.sfits))
int_word (negsuc n) f = record { some = omega arith; printed = decimal_printed (suc n) (omega (arith, f.sfits)) }

-- ---- kinds

class_again : (classes c : ℕ) → classes < 2 ^ 16 → c < classes → class_of classes (decimal c) ≡ Ok c
class_again classes c few lt = rw (number_again 65535 c (omega arith) (omega arith), lt-ltb c classes lt) refl

pub kind_again : (classes : ℕ) (k : Kind) → classes < 2 ^ 16 → NamesClassBelow classes k → slot_of classes (kind_word k) ≡ Ok (plain k)
unfolding slot_of
kind_again classes kind.Int few h = refl
kind_again classes kind.Place few h = refl
kind_again classes kind.Text few h = refl
kind_again classes kind.Rail few h = refl
kind_again classes (kind.Obj c) few h = ap (slot_with kind.Obj false) (class_again classes c few h)
kind_again classes (kind.Opt c) few h = ap (slot_with kind.Opt false) (class_again classes c few h)
kind_again classes (kind.GRef c) few h = ap (slot_with kind.GRef false) (class_again classes c few h)

here_again : (classes c : ℕ) → classes < 2 ^ 16 → c < classes
    → slot_of classes (codes "here:" ++ decimal c) ≡ Ok (record { kind = kind.GRef c; home_here = true })
unfolding slot_of
here_again classes c few h = ap (slot_with kind.GRef true) (class_again classes c few h)

flagged_again : (classes : ℕ) (k : Kind) (here : Bool) → classes < 2 ^ 16 → NamesClassBelow classes k → (IsTrue here → IsTrue (takes_flag k))
    → slot_of classes (flagged_word here k) ≡ Ok (record { kind = k; home_here = here })
flagged_again classes k false few h flag = kind_again classes k few h
flagged_again classes kind.Int true few h flag = absurd (false≢true (flag refl))
flagged_again classes kind.Place true few h flag = absurd (false≢true (flag refl))
flagged_again classes kind.Text true few h flag = absurd (false≢true (flag refl))
flagged_again classes kind.Rail true few h flag = absurd (false≢true (flag refl))
flagged_again classes (kind.Obj c) true few h flag = absurd (false≢true (flag refl))
flagged_again classes (kind.Opt c) true few h flag = absurd (false≢true (flag refl))
flagged_again classes (kind.GRef c) true few h flag = here_again classes c few h

pub slot_again : (classes : ℕ) (s : Slot) → classes < 2 ^ 16 → FitsSlot classes s → slot_of classes (slot_word s) ≡ Ok s
slot_again classes s few f = flagged_again classes s.kind s.home_here few f.class f.flag

not_none : (classes : ℕ) (k : Kind) (here : Bool) → (if bytes_eq (flagged_word here k) (codes "none") then Ok None else some_slot
    (slot_of classes (flagged_word here k))) ≡ some_slot (slot_of classes (flagged_word here k))
not_none classes kind.Int false = refl
not_none classes kind.Int true = refl
not_none classes kind.Place false = refl
not_none classes kind.Place true = refl
not_none classes kind.Text false = refl
not_none classes kind.Text true = refl
not_none classes kind.Rail false = refl
not_none classes kind.Rail true = refl
not_none classes (kind.Obj c) false = refl
not_none classes (kind.Obj c) true = refl
not_none classes (kind.Opt c) false = refl
not_none classes (kind.Opt c) true = refl
not_none classes (kind.GRef c) false = refl
not_none classes (kind.GRef c) true = refl

pub result_again : (classes : ℕ) (r : Option Slot) → classes < 2 ^ 16 → IfSome r (FitsSlot classes) → result_of classes (result_word r) ≡ Ok r
unfolding result_of
result_again classes None few f = refl
result_again classes (Some s) few f = not_none classes s.kind s.home_here ∙ ap some_slot (slot_again classes s few f)

field_from : (classes : ℕ) (k : Kind) → field_of classes (kind_word k) ≡ (slot_of classes (kind_word k) >>= (λ s. Ok s.kind))
unfolding field_of
field_from classes kind.Int = refl
field_from classes kind.Place = refl
field_from classes kind.Text = refl
field_from classes kind.Rail = refl
field_from classes (kind.Obj c) = refl
field_from classes (kind.Opt c) = refl
field_from classes (kind.GRef c) = refl

pub field_again : (classes : ℕ) (k : Kind) → classes < 2 ^ 16 → NamesClassBelow classes k → field_of classes (kind_word k) ≡ Ok k
field_again classes k few h = field_from classes k ∙ ap (λ (r : Result Slot AsmCause). r >>= (λ s. Ok s.kind)) (kind_again classes k few h)

-- ---- several

pub each_again : {A : Type 0} (read : List ℕ → Result A AsmCause) (word : A → List ℕ) (Fits : A → Type 0) → ((x : A) → Fits x → read (word x) ≡ Ok x)
    → (xs : List A) → AllByRecursion Fits xs → each read (map word xs) ≡ Ok xs
each_again read word Fits again [] h = refl
each_again read word Fits again (x ∷ xs) h = rw (again x h.0, each_again read word Fits again xs h.1) refl

pub known_again : {A : Type 0} (read : List ℕ → Result A AsmCause) (word : A → List ℕ) (Fits : A → Type 0) → ((x : A) → Fits x → read (word x) ≡ Ok x)
    → (xs : List A) → AllByRecursion Fits xs → are_known read (map word xs) ≡ true
known_again read word Fits again [] h = refl
known_again read word Fits again (x ∷ xs) h = rw (again x h.0, known_again read word Fits again xs h.1) refl

pub all_words : {A : Type 0} (word : A → List ℕ) (Fits : A → Type 0) → ((x : A) → Fits x → IsWord (word x)) → (xs : List A) → AllByRecursion Fits xs
    → AllByRecursion IsWord (map word xs)
all_words word Fits is [] h = tt
all_words word Fits is (x ∷ xs) h = (is x h.0, all_words word Fits is xs h.1)

classed_word : (prefix : List ℕ) (classes c : ℕ) → IsWord prefix → classes < 2 ^ 16 → c < classes → IsWord (prefix ++ decimal c)
classed_word prefix classes c h few lt = word_join prefix (decimal c) h (decimal_printed c (omega arith))

literal_word : (first : ℕ) (others : List ℕ) → list_all (nat_lt 32) (first ∷ others) ≡ true → IsWord (first ∷ others)
literal_word first others h = record { some = omega arith; printed = h }

pub kind_is_word : (classes : ℕ) (k : Kind) → classes < 2 ^ 16 → NamesClassBelow classes k → IsWord (kind_word k)
kind_is_word classes kind.Int few h = literal_word 105 _ refl
kind_is_word classes kind.Place few h = literal_word 112 _ refl
kind_is_word classes kind.Text few h = literal_word 116 _ refl
kind_is_word classes kind.Rail few h = literal_word 114 _ refl
kind_is_word classes (kind.Obj c) few h = classed_word (codes "obj:") classes c (literal_word 111 _ refl) few h
kind_is_word classes (kind.Opt c) few h = classed_word (codes "opt:") classes c (literal_word 111 _ refl) few h
kind_is_word classes (kind.GRef c) few h = classed_word (codes "gref:") classes c (literal_word 103 _ refl) few h

flagged_is_word : (classes : ℕ) (k : Kind) (here : Bool) → classes < 2 ^ 16 → NamesClassBelow classes k → IsWord (flagged_word here k)
flagged_is_word classes k false few h = kind_is_word classes k few h
flagged_is_word classes kind.Int true few h = kind_is_word classes kind.Int few h
flagged_is_word classes kind.Place true few h = kind_is_word classes kind.Place few h
flagged_is_word classes kind.Text true few h = kind_is_word classes kind.Text few h
flagged_is_word classes kind.Rail true few h = kind_is_word classes kind.Rail few h
flagged_is_word classes (kind.Obj c) true few h = kind_is_word classes (kind.Obj c) few h
flagged_is_word classes (kind.Opt c) true few h = kind_is_word classes (kind.Opt c) few h
flagged_is_word classes (kind.GRef c) true few h = classed_word (codes "here:") classes c (literal_word 104 _ refl) few h

pub slot_is_word : (classes : ℕ) (s : Slot) → classes < 2 ^ 16 → FitsSlot classes s → IsWord (slot_word s)
slot_is_word classes s few f = flagged_is_word classes s.kind s.home_here few f.class

pub result_is_word : (classes : ℕ) (r : Option Slot) → classes < 2 ^ 16 → IfSome r (FitsSlot classes) → IsWord (result_word r)
result_is_word classes None few f = literal_word 110 _ refl
result_is_word classes (Some s) few f = slot_is_word classes s few f
