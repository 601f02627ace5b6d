-- What an escaped text is made of.
use Rattle.std.proofs.Common.{◌≡◌, ◌≢◌, ℕ, zero, suc, ◌<◌, ◌≤◌, Bool, true, ◌&&◌, List, [], ◌∷◌, ◌++◌, length, get_or, flat_map, inl, inr, refl, sym, arith, append-nil}
use Rattle.std.proofs.lemmas.Bool.{and_parts, and_from, cases_lt, cases_eq}
use Rattle.std.proofs.lemmas.Str.{inside_one}
use Rattle.std.specs.Char.{encode_utf8}
use Rattle.x10_draw.specs.Escapes.{escape, is_content, are_content}

joined : (xs ys : List ℕ) → are_content xs ≡ true → are_content ys ≡ true → are_content (xs ++ ys) ≡ true
joined [] ys p q = q
joined (x ∷ xs) ys p q = let parts = and_parts _ _ p in and_from _ _ parts.0 (joined xs ys parts.1 q)

high_byte : (b : ℕ) → 128 ≤ b → is_content b ≡ true
high_byte b h = grind (arith)

high_bytes : (xs : List ℕ) → ((k : ℕ) → k < length xs → 128 ≤ get_or xs k 0) → are_content xs ≡ true
high_bytes [] h = refl
high_bytes (x ∷ xs) h = and_from _ _ (high_byte x (h 0 (omega arith))) (high_bytes xs (λ k below. h (suc k) (omega arith)))

high_char : (c : ℕ) → 128 ≤ c → are_content (encode_utf8 c) ≡ true
high_char c big = high_bytes (encode_utf8 c) (λ k below. elim (cases_lt (get_or (encode_utf8 c) k 0) 128) [
  | inl low ↦ absurd (omega (arith, big, inside_one c [] (encode_utf8 c) k (sym (append-nil _)) below low))
  | inr h ↦ h
])

-- the escapes of the characters below n
abbrev are_content_below : ℕ → Bool
are_content_below zero = true
are_content_below (suc n) = are_content (escape n) && are_content_below n

low_chars : (n : ℕ) → are_content_below n ≡ true → (c : ℕ) → c < n → are_content (escape c) ≡ true
low_chars zero e c h = absurd (omega arith)
low_chars (suc n) e c h =
    let p = and_parts _ _ e in
    elim (cases_eq c n) [ inl same ↦ rw same p.0 | inr other ↦ low_chars n p.1 c (omega arith) ]

all_low : are_content_below 128 ≡ true
unfolding encode_utf8
all_low = refl

itself : (c : ℕ) → 128 ≤ c → c ≢ 65534 → c ≢ 65535 → escape c ≡ encode_utf8 c
itself c h one other = grind (arith)

one_char : (c : ℕ) → are_content (escape c) ≡ true
one_char c = elim (cases_lt c 128) [
  | inl low ↦ low_chars 128 all_low c low
  | inr big ↦ elim (cases_eq c 65534) [
    | inl same ↦ rw same refl
    | inr one ↦ elim (cases_eq c 65535) [
      | inl same ↦ rw same refl
      | inr other ↦ rw (itself c big one other) (high_char c big)
    ]
  ]
]

pub all_chars : (cs : List ℕ) → are_content (flat_map escape cs) ≡ true
all_chars [] = refl
all_chars (c ∷ cs) = joined (escape c) (flat_map escape cs) (one_char c) (all_chars cs)
