-- Numbers in decimal and bytes in hexadecimal, read again.
use Rattle.std.proofs.Common.{◌≡◌, ◌≢◌, ℕ, ℤ, pos, negsuc, zero, suc, ◌/◌, ◌%◌, ◌<◌, ◌⊎◌, ◌^◌, inl, inr, true, ◌&&◌, List, [], ◌∷◌, Option, Result, Ok, Err, refl, sym, ap, ◌∙◌, arith}
use Rattle.std.specs.Prelude.{decimal, FitsSigned, ok_or, nat_le, is_ok}
use Rattle.std.specs.Int.{w64}
use Rattle.std.specs.Fmt.{signed_decimal}
use Rattle.std.specs.List.{slice_index}
use Rattle.std.specs.Str.{all_ascii_digits}
use Rattle.std.specs.Str.Parse.{ParsesUnsigned, ParsesSigned}
use Rattle.std.specs.Result.{result_ok, result_unwrap_or}
use Rattle.std.proofs.lemmas.Bool.{and_parts, leb-true, false≢true}
use Rattle.std.proofs.lemmas.Fmt.{parse-decimal, parse-signed_decimal, digits_decimal}
use Rattle.hex.specs.Hex.{IsBytes, encode_with, encode_lower, decode_of, lower_digits}
use Rattle.hex.specs.declared.error.FromHexError.{FromHexError}
use Rattle.hex.specs.declared.error.FromHexError.TheVariants.{OutOfMemory}
use Rattle.hex.proofs.HexLemmas.{decode_of-encode_lower}
use Rattle.x10_asm.proofs.Numbers.{own}
use Rattle.x10_log.specs.declared.fault.LogCause.{LogCause}
use Rattle.x10_log.specs.declared.fault.LogCause.TheVariants.{Memory}
use Rattle.x10_log.specs.Reading.{Lacks}
use Rattle.x10_log.proofs.Cuts.{lacks_cons, lacks_head, lacks_rest}

pub number_read : {E : Type 0} (k n : ℕ) (cause : LogCause) (bs : List ℕ) (r : Result ℕ E) (o : Option ℕ) (out : Result ℕ LogCause)
    → out ≡ ok_or o cause → o ≡ result_ok r → ParsesUnsigned k 10 bs r → n < 2 ^ k → n < 2 ^ 64 → bs ≡ decimal n → out ≡ Ok n
number_read k n cause bs r o out e f p fits small d = e ∙ ap (λ (x : Option ℕ). ok_or x cause) f
    ∙ ap (λ (x : Result ℕ _). ok_or (result_ok x) cause) (parse-decimal k n bs r fits small d p)

ok_read : {E : Type 0} (z : ℤ) (cause : LogCause) (r : Result ℤ E) (o : Option ℤ) (out : Result ℤ LogCause)
    → out ≡ ok_or o cause → o ≡ result_ok r → r ≡ Ok z → out ≡ Ok z
ok_read z cause r o out e f is = e ∙ ap (λ (x : Option ℤ). ok_or x cause) f ∙ ap (λ (x : Result ℤ _). ok_or (result_ok x) cause) is

pub int_read : {E : Type 0} (z : ℤ) (cause : LogCause) (bs : List ℕ) (r : Result ℤ E) (o : Option ℤ) (out : Result ℤ LogCause)
    → out ≡ ok_or o cause → o ≡ result_ok r → ParsesSigned w64 10 bs r → FitsSigned w64 z → bs ≡ signed_decimal z → out ≡ Ok z
int_read (pos n) cause bs r o out e f p fits d =
    ok_read (pos n) cause r o out e f (parse-signed_decimal w64 (pos n) bs r fits (omega (arith, fits.sfits)) d p)
int_read (negsuc n) cause bs r o out e f p fits d =
    ok_read (negsuc n) cause r o out e f (parse-signed_decimal w64 (negsuc n) bs r fits (omega (arith, fits.sfits)) d p)

-- bytes in hexadecimal
pub bytes_read : (text bytes read : List ℕ) → IsBytes bytes → text ≡ encode_lower bytes → decode_of text ≡ Ok read → read ≡ bytes
bytes_read text bytes read fits e d =
    ap (λ (r : Result (List ℕ) FromHexError). result_unwrap_or r []) (sym d ∙ ap decode_of e ∙ decode_of-encode_lower bytes fits)

-- they are no fault
pub bytes_decode : (text bytes : List ℕ) (fault : FromHexError) (cause : LogCause) → IsBytes bytes → text ≡ encode_lower bytes
    → (fault ≡ OutOfMemory) ⊎ (decode_of text ≡ Err fault) → (fault ≡ OutOfMemory → cause ≡ Memory) → cause ≡ Memory
bytes_decode text bytes fault cause fits e (inl m) memory = memory m
bytes_decode text bytes fault cause fits e (inr d) memory =
    absurd (false≢true (ap (λ (r : Result (List ℕ) FromHexError). is_ok r) (sym d ∙ ap decode_of e ∙ decode_of-encode_lower bytes fits)))

-- ---- bytes that digits lack

digits_lack : (c : ℕ) (ds : List ℕ) → (c < 48) ⊎ (57 < c) → all_ascii_digits ds ≡ true → Lacks c ds
digits_lack c [] out h = refl
digits_lack c (d ∷ ds) out h =
    let p = and_parts (nat_le 48 d && nat_le d 57) (all_ascii_digits ds) h in
    let q = and_parts (nat_le 48 d) (nat_le d 57) p.0 in
    lacks_cons c d ds (λ e. elim out [ inl lt ↦ omega (arith, leb-true 48 d q.0, e, lt) | inr gt ↦ omega (arith, leb-true d 57 q.1, e, gt) ])
    (digits_lack c ds out p.1)

pub decimal_lacks : (c n : ℕ) → (c < 48) ⊎ (57 < c) → n < 2 ^ 64 → Lacks c (decimal n)
decimal_lacks c n out small = digits_lack c (decimal n) out (digits_decimal own n small)

pub signed_lacks : (c : ℕ) (z : ℤ) → (c < 45) ⊎ (57 < c) → FitsSigned w64 z → Lacks c (signed_decimal z)
signed_lacks c (pos n) out f = decimal_lacks c n (wider c out) (omega (arith, f.sfits))
  where
    wider : (c : ℕ) → (c < 45) ⊎ (57 < c) → (c < 48) ⊎ (57 < c)
    wider c (inl lt) = inl (omega arith)
    wider c (inr gt) = inr gt
signed_lacks c (negsuc n) out f = lacks_cons c 45 (decimal (suc n)) (λ e. elim out [ inl lt ↦ omega (arith, e, lt) | inr gt ↦ omega (arith, e, gt) ])
    (decimal_lacks c (suc n) (wider c out) (omega (arith, f.sfits)))
  where
    wider : (c : ℕ) → (c < 45) ⊎ (57 < c) → (c < 48) ⊎ (57 < c)
    wider c (inl lt) = inl (omega arith)
    wider c (inr gt) = inr gt

-- an item of a list that lacks a byte isn't that byte, nor what stands for an item that isn't there
item_lacks : (c : ℕ) (xs : List ℕ) (i : ℕ) → c ≢ 0 → Lacks c xs → slice_index xs i ≢ c
item_lacks c [] i n h e = n (sym e)
item_lacks c (x ∷ xs) zero n h e = lacks_head c x xs h e
item_lacks c (x ∷ xs) (suc i) n h e = item_lacks c xs i n (lacks_rest c x xs h) e

pub hex_lacks : (c : ℕ) (bytes : List ℕ) → c ≢ 0 → Lacks c lower_digits → Lacks c (encode_lower bytes)
unfolding encode_with
hex_lacks c [] n h = refl
hex_lacks c (b ∷ bs) n h = lacks_cons c (slice_index lower_digits (b / 16)) (slice_index lower_digits (b % 16) ∷ encode_lower bs)
    (item_lacks c lower_digits (b / 16) n h)
    (lacks_cons c (slice_index lower_digits (b % 16)) (encode_lower bs) (item_lacks c lower_digits (b % 16) n h) (hex_lacks c bs n h))
