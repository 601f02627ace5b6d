-- What each line takes in is in the ranges of an image.
use Rattle.std.proofs.Common.{◌≡◌, ℕ, ℤ, suc, ◌<◌, ◌≤◌, Bool, true, false, ◌&&◌, List, [], ◌∷◌, ◌++◌, length, IfSome, Ok, FitsSigned, refl, subst, arith, slice_get, leb-true, ltb-true, length-append}
use Rattle.std.specs.Prelude.{nat_le, nat_lt}
use Rattle.std.specs.List.{AllByRecursion}
use Rattle.std.specs.Int.{w64}
use Rattle.std.proofs.lemmas.Bool.{and_parts}
use Rattle.x10_kinds.specs.declared.kind.Kind.{Kind}
use Rattle.x10_model.specs.declared.version.ImageVersion.{ImageVersion}
use Rattle.x10_model.specs.Modules.{Function, NamesClassBelow, FitsSlot, FitsClass, FitsText, IsInstrOf}
use Rattle.x10_model.specs.ReadingImages.{is_within, is_entry}
use Rattle.x10_model.proofs.ImageParts.{of_within}
use Rattle.x10_asm.specs.declared.fault.AsmCause.{AsmCause}
use Rattle.x10_asm.specs.declared.fault.AsmCause.TheVariants as cause
use Rattle.x10_asm.specs.declared.stage.Stage.{Stage}
use Rattle.x10_asm.specs.declared.stage.Stage.TheVariants as stage
use Rattle.x10_asm.specs.Lines.{int_of}
use Rattle.x10_asm.specs.Checks.{check, given, number_at, one_number, no_more}
use Rattle.x10_asm.specs.Kinds.{slot_of, field_of, result_of, each}
use Rattle.x10_asm.specs.Literals.{literal}
use Rattle.x10_asm.specs.Reading.{is_start, takes_class, takes_int, takes_text, takes_func, is_inside, is_finished, is_one, one_version, version_of, places_of, class_of, one_int, int_line_of, text_of, signature_fits, kinds_after, signature_of, func_of, end_of, entry_of, function_with}
use Rattle.x10_asm.proofs.InRanges.{bound, then_bound, checked, given_is, same_ok, int_fits, slot_fits, field_fits, result_fits, each_fits, text_fits}

-- a function that is not ended
pub record IsOpen (version : ImageVersion) (classes : ℕ) (f : Function) : Type 0 where
  pub parameters : length f.parameters ≤ 16
  pub registers : (1 ≤ f.registers) × (f.registers ≤ 64)
  pub room : length f.parameters ≤ f.registers
  pub loops : f.loops ≤ 8
  pub slots : AllByRecursion (FitsSlot classes) f.parameters
  pub result : IfSome f.result (FitsSlot classes)
  pub few : length f.code ≤ 4096
  pub code : AllByRecursion (IsInstrOf version) f.code

-- ---- stages

pub not_true : {A : Type 0} → false ≡ true → A
not_true e = absurd cc

pub int_begun : (s : Stage) → takes_int s ≡ true → is_start s ≡ false
int_begun stage.Classes e = refl
int_begun stage.Ints e = refl
int_begun _ e = absurd cc

pub text_begun : (s : Stage) → takes_text s ≡ true → is_start s ≡ false
text_begun stage.Classes e = refl
text_begun stage.Ints e = refl
text_begun stage.Texts e = refl
text_begun _ e = absurd cc

pub func_begun : (s : Stage) → takes_func s ≡ true → is_start s ≡ false
func_begun stage.Classes e = refl
func_begun stage.Ints e = refl
func_begun stage.Texts e = refl
func_begun stage.Functions e = refl
func_begun _ e = absurd cc

pub inside_begun : (s : Stage) → is_inside s ≡ true → is_start s ≡ false
inside_begun stage.Inside e = refl
inside_begun _ e = absurd cc

pub begun : (s : Stage) → is_finished s ≡ true → is_start s ≡ false
begun stage.Finished e = refl
begun _ e = absurd cc

pub one_more : {A : Type 0} (xs : List A) (x : A) → length (xs ++ x ∷ []) ≡ suc (length xs)
one_more xs x = omega (arith, length-append xs (x ∷ []))

pub not_both : (b : Bool) → b ≡ true → b ≡ false → ⊥
not_both true h k = absurd cc
not_both false h k = absurd cc

-- ---- what each statement takes in

pub last_check : (b : Bool) (c : AsmCause) (u : Unit {0}) → check b c ≡ Ok u → b ≡ true
last_check true c u e = refl
last_check false c u e = absurd cc

pub version_starts : (s : Stage) (before : ImageVersion) (ws : List (List ℕ)) (u : Unit {0}) → version_of s before ws ≡ Ok u
    → (is_start s ≡ true) × (is_one before ≡ true)
unfolding version_of
version_starts s before ws u e = and_parts (is_start s) (is_one before)
    (last_check (is_start s && is_one before) cause.Order u (then_bound (one_version ws) _ u e))

pub small_places : (s : Stage) (ws : List (List ℕ)) (n : ℕ) → places_of s ws ≡ Ok n → (1 ≤ n) × (n ≤ 64)
unfolding places_of
small_places s ws n e =
    let number = bound (one_number 65535 ws) _ n e in
    let order = checked (is_start s) cause.Order _ n number.2 in
    let limit = checked (is_within 1 64 number.0) cause.Limit (Ok number.0) n order.1 in
    subst (λ k. (1 ≤ k) × (k ≤ 64)) (same_ok number.0 n limit.1) (of_within 1 64 number.0 limit.0)

pub record TakesClass (s : Stage) (classes before : ℕ) (fields : List Kind) : Type 0 where
  pub stage_is : takes_class s ≡ true
  pub room : before < 65535
  pub fits : FitsClass classes fields

pub class_fits : (s : Stage) (classes before : ℕ) (ws : List (List ℕ)) (fields : List Kind) → class_of s classes before ws ≡ Ok fields
    → TakesClass s classes before fields
unfolding class_of
class_fits s classes before ws fields e =
    let known = checked _ cause.Word _ fields e in
    let found = bound (each (field_of classes) ws) _ fields known.1 in
    let order = checked (takes_class s) cause.Order _ fields found.2 in
    let limit = checked (nat_le (length found.0) 16 && nat_lt before 65535) cause.Limit (Ok found.0) fields order.1 in
    let b = and_parts (nat_le (length found.0) 16) (nat_lt before 65535) limit.0 in
    record {
      stage_is = order.0;
      room = ltb-true before 65535 b.1;
      fits = subst (FitsClass classes) (same_ok found.0 fields limit.1)
          (record {
            count = leb-true (length found.0) 16 b.0;
            kinds = each_fits (NamesClassBelow classes) (field_of classes)
                (field_fits classes) ws found.0 found.1;
          });
    }

pub one_int_fits : (ws : List (List ℕ)) (z : ℤ) → one_int ws ≡ Ok z → FitsSigned w64 z
one_int_fits [] z e = absurd cc
one_int_fits (word ∷ others) z e =
    let found = bound (given (int_of word) cause.Number) _ z e in
    subst (FitsSigned w64) (same_ok found.0 z (then_bound (no_more others) (Ok found.0) z found.2))
    (int_fits word found.0 (given_is (int_of word) cause.Number found.0 found.1))

pub record TakesInt (s : Stage) (before : ℕ) (z : ℤ) : Type 0 where
  pub stage_is : takes_int s ≡ true
  pub room : before < 65535
  pub fits : FitsSigned w64 z

pub int_taken : (s : Stage) (before : ℕ) (ws : List (List ℕ)) (z : ℤ) → int_line_of s before ws ≡ Ok z → TakesInt s before z
unfolding int_line_of
int_taken s before ws z e =
    let found = bound (one_int ws) _ z e in
    let order = checked (takes_int s) cause.Order _ z found.2 in
    let limit = checked (nat_lt before 65535) cause.Limit (Ok found.0) z order.1 in
    record {
      stage_is = order.0;
      room = ltb-true before 65535 limit.0;
      fits = subst (FitsSigned w64) (same_ok found.0 z limit.1) (one_int_fits ws found.0 found.1);
    }

pub record TakesText (s : Stage) (before : ℕ) (text : List ℕ) : Type 0 where
  pub stage_is : takes_text s ≡ true
  pub room : before < 65535
  pub fits : FitsText text

pub text_taken : (s : Stage) (before : ℕ) (rest text : List ℕ) → text_of s before rest ≡ Ok text → TakesText s before text
unfolding text_of
text_taken s before rest text e =
    let count = checked _ cause.Count _ text e in
    let order = checked (takes_text s) cause.Order _ text count.1 in
    let found = bound (literal rest) _ text order.1 in
    let limit = checked (nat_lt before 65535) cause.Limit (Ok found.0) text found.2 in
    record {
      stage_is = order.0;
      room = ltb-true before 65535 limit.0;
      fits = subst FitsText (same_ok found.0 text limit.1) (text_fits rest found.0 found.1);
    }

-- the kinds of a function that begins
pub record HasKinds (classes : ℕ) (f : Function) : Type 0 where
  pub slots : AllByRecursion (FitsSlot classes) f.parameters
  pub result : IfSome f.result (FitsSlot classes)
  pub code : f.code ≡ []

pub kinds_taken : (classes registers loops : ℕ) (ws : List (List ℕ)) (f : Function) → kinds_after classes registers loops ws ≡ Ok f
    → HasKinds classes f
kinds_taken classes registers loops [] f e = absurd cc
kinds_taken classes registers loops (word ∷ others) f e =
    let result = bound (result_of classes word) _ f e in
    let slots = bound (each (slot_of classes) others) _ f result.2 in
    subst (HasKinds classes) (same_ok (function_with registers loops result.0 slots.0) f slots.2)
    (record {
      slots = each_fits (FitsSlot classes) (slot_of classes) (slot_fits classes) others slots.0 slots.1;
      result = result_fits classes word result.0 result.1;
      code = refl;
    })

pub signature_taken : (classes : ℕ) (ws : List (List ℕ)) (f : Function) → signature_of classes ws ≡ Ok f → HasKinds classes f
signature_taken classes ws f e =
    let registers = bound (number_at 255 ws) _ f e in
    let loops = bound (number_at 255 registers.0.1) _ f registers.2 in
    kinds_taken classes registers.0.0 loops.0.0 loops.0.1 f loops.2

pub record TakesFunction (version : ImageVersion) (s : Stage) (classes before : ℕ) (f : Function) : Type 0 where
  pub stage_is : takes_func s ≡ true
  pub room : before < 256
  pub fits : IsOpen version classes f

pub open_of : (version : ImageVersion) (classes : ℕ) (f : Function) → signature_fits f ≡ true → HasKinds classes f → IsOpen version classes f
open_of version classes f t k =
    let b3 = and_parts _ (nat_le (length f.parameters) 16) t in
    let b2 = and_parts _ (nat_le f.loops 8) b3.0 in
    let b1 = and_parts (is_within 1 64 f.registers) (nat_le (length f.parameters) f.registers) b2.0 in
    record {
      parameters = leb-true (length f.parameters) 16 b3.1;
      registers = of_within 1 64 f.registers b1.0;
      room = leb-true (length f.parameters) f.registers b1.1;
      loops = leb-true f.loops 8 b2.1;
      slots = k.slots;
      result = k.result;
      few = rw k.code (omega arith);
      code = rw k.code tt;
    }

pub func_taken : (version : ImageVersion) (s : Stage) (classes before : ℕ) (ws : List (List ℕ)) (f : Function) → func_of s classes before ws ≡ Ok f
    → TakesFunction version s classes before f
unfolding func_of
func_taken version s classes before ws f e =
    let known = checked _ cause.Word _ f e in
    let found = bound (signature_of classes ws) _ f known.1 in
    let order = checked (takes_func s) cause.Order _ f found.2 in
    let limit = checked (signature_fits found.0 && nat_lt before 256) cause.Limit (Ok found.0) f order.1 in
    let b = and_parts (signature_fits found.0) (nat_lt before 256) limit.0 in
    record {
      stage_is = order.0;
      room = ltb-true before 256 b.1;
      fits = subst (IsOpen version classes) (same_ok found.0 f limit.1)
          (open_of version classes found.0 b.0 (signature_taken classes ws found.0 found.1));
    }

pub record TakesEnd (s : Stage) (count : ℕ) : Type 0 where
  pub stage_is : is_inside s ≡ true
  pub some : 0 < count

pub end_taken : (s : Stage) (count : ℕ) (ws : List (List ℕ)) (u : Unit {0}) → end_of s count ws ≡ Ok u → TakesEnd s count
unfolding end_of
end_taken s count ws u e =
    let words = then_bound (no_more ws) _ u e in
    let order = checked (is_inside s) cause.Order _ u words in
    record { stage_is = order.0; some = ltb-true 0 count (last_check (nat_lt 0 count) cause.Limit u order.1) }

pub record TakesEntry (s : Stage) (functions : List Function) (n : ℕ) : Type 0 where
  pub stage_is : takes_func s ≡ true
  pub some : 0 < length functions
  pub entry : is_entry (slice_get functions n) ≡ true

pub entry_taken : (s : Stage) (functions : List Function) (ws : List (List ℕ)) (n : ℕ) → entry_of s functions ws ≡ Ok n → TakesEntry s functions n
unfolding entry_of
entry_taken s functions ws n e =
    let number = bound (one_number 65535 ws) _ n e in
    let order = checked (takes_func s) cause.Order _ n number.2 in
    let limit = checked (nat_lt 0 (length functions)) cause.Limit _ n order.1 in
    let entry = checked (is_entry (slice_get functions number.0)) cause.Entry (Ok number.0) n limit.1 in
    record {
      stage_is = order.0;
      some = ltb-true 0 (length functions) limit.0;
      entry = subst (λ k. is_entry (slice_get functions k) ≡ true) (same_ok number.0 n entry.1) entry.0;
    }
