-- Numbers and parts at the front of bytes, or too few bytes for them.
use Rattle.std.proofs.Common.{◌≡◌, ℕ, ℤ, ◌^◌, ◌<◌, ◌≤◌, Bool, true, false, List, length, take, drop, Option, Some, Result, Ok, Err, refl, lt-ltb, le-ltb}
use Rattle.std.specs.Prelude.{IsUtf8}
use Rattle.std.specs.Int.{from_be_bytes, w64, cast_signed, cast_unsigned}
use Rattle.std.specs.Str.{is_utf8}
use Rattle.std.proofs.lemmas.Int.{of_z-to_z}
use Rattle.std.proofs.lemmas.Str.{IsUtf8-from_is_utf8, is_utf8-from_IsUtf8}
use Rattle.x10_model.specs.Readers.{such_that, part, int, number, bind, check, done}
use Rattle.x10_bytes.specs.Faults.{IsFault}

pub fault_is : {E Y : Type 0} (f : Option E) (e : E) (read : Result Y E) → f ≡ Some e → read ≡ Err e → IsFault f read
fault_is f e read names is = rw names is

pub int_short : {E : Type 0} (short : E) (bytes : List ℕ) → length bytes < 8 → int short bytes ≡ Err short
unfolding int number bind part
int_short short bytes h = rw (lt-ltb _ _ h) refl

pub int_is : {E : Type 0} (short : E) (bytes : List ℕ) (n : ℕ) (z : ℤ) → 8 ≤ length bytes → n ≡ from_be_bytes w64 (take 8 bytes)
    → cast_signed w64 n ≡ z → int short bytes ≡ Ok (z, drop 8 bytes)
unfolding int number bind part done
int_is short bytes n z h e s = rw (le-ltb _ _ h, ← e, s) refl

pub signed_is : (n : ℕ) (z : ℤ) → n < 2 ^ 64 → z ≡ cast_signed w64 n → cast_signed w64 n ≡ cast_signed w64 (cast_unsigned w64 z)
signed_is n z lt e = rw (e, of_z-to_z w64 n lt) refl

pub part_is : {E : Type 0} (short : E) (n : ℕ) (bytes : List ℕ) → n ≤ length bytes → part n short bytes ≡ Ok (take n bytes, drop n bytes)
unfolding part
part_is short n bytes le = rw (le-ltb _ _ le) refl

-- ---- texts

pub text_is : {E : Type 0} (short no_text : E) (n : ℕ) (bytes : List ℕ) → n ≤ length bytes → IsUtf8 (take n bytes)
    → such_that (part n short) is_utf8 no_text bytes ≡ Ok (take n bytes, drop n bytes)
unfolding such_that bind part check done
text_is short no_text n bytes le utf8 = rw (le-ltb _ _ le, is_utf8-from_IsUtf8 (take n bytes) utf8) refl

not_utf8 : (text : List ℕ) (b : Bool) → is_utf8 text ≡ b → ¬ (IsUtf8 text) → is_utf8 text ≡ false
not_utf8 text true e never = absurd (never (IsUtf8-from_is_utf8 text e))
not_utf8 text false e never = e

pub text_bad : {E : Type 0} (short no_text : E) (n : ℕ) (bytes : List ℕ) → n ≤ length bytes → ¬ (IsUtf8 (take n bytes))
    → such_that (part n short) is_utf8 no_text bytes ≡ Err no_text
unfolding such_that bind part check done
text_bad short no_text n bytes le never = rw (le-ltb _ _ le, not_utf8 (take n bytes) (is_utf8 (take n bytes)) refl never) refl
