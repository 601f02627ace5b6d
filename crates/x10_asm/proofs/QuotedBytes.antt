-- A text between quotes, byte by byte.
use Rattle.std.proofs.Common.{◌≡◌, ◌≢◌, ℕ, ◌+◌, ◌≤◌, ◌<◌, Bool, true, false, List, [], ◌∷◌, ◌++◌, length, drop, get_or, Option, Some, None, refl, sym, ap, ◌∙◌, append_assoc, append-nil, add-one, Ok, Err, inl, inr}
use Rattle.std.specs.Prelude.{nat_le}
use Rattle.std.specs.Str.{IsUtf8, is_utf8}
use Rattle.std.proofs.lemmas.Str.{is_utf8-from_IsUtf8, IsUtf8-from_is_utf8}
use Rattle.std.proofs.Math.Seq.{drop-cons}
use Rattle.std.proofs.lemmas.List.{drop_all}
use Rattle.std.proofs.lemmas.Bool.{ne_eqb, eq-eqb, le-leb, and_from, and_right, cases_Bool}
use Rattle.x10_asm.specs.declared.fault.AsmCause.TheVariants.{Text}
use Rattle.x10_asm.specs.Literals.{unescaped, onto, onto_escape, scan, fitting}

-- what was read before, and what is still read
abbrev pub with_front : List ℕ → Option (List ℕ × List ℕ) → Option (List ℕ × List ℕ)
with_front front None = None
with_front front (Some p) = Some (front ++ p.0, p.1)

-- with these bytes read, what scanning all gives is known
pub record IsScanned (front : List ℕ) (after_backslash : Bool) (bytes all : List ℕ) : Type 0 where
  pub is : with_front front (scan after_backslash bytes) ≡ scan false all

-- some bytes were read, whichever they are
pub record IsWithin (after_backslash : Bool) (bytes all : List ℕ) : Type 0 where
  pub front : List ℕ
  pub scanned : IsScanned front after_backslash bytes all

regroup : (front : List ℕ) (c : ℕ) (r : Option (List ℕ × List ℕ)) → with_front front (onto c r) ≡ with_front (front ++ c ∷ []) r
regroup front c None = refl
regroup front c (Some p) = ap (λ (t : List ℕ). Some (t, p.1)) (sym (append_assoc front (c ∷ []) p.0))

scan_escape : (bytes : List ℕ) (at : ℕ) → at < length bytes → scan true (drop at bytes)
    ≡ onto_escape (unescaped (get_or bytes at 0)) (scan false (drop (at + 1) bytes))
unfolding scan
scan_escape bytes at lt = rw (drop-cons bytes at 0 lt, add-one) refl

scan_quote : (bytes : List ℕ) (at : ℕ) → at < length bytes → get_or bytes at 0 ≡ 34 → scan false (drop at bytes) ≡ Some ([], drop (at + 1) bytes)
unfolding scan
scan_quote bytes at lt e = rw (drop-cons bytes at 0 lt, add-one, eq-eqb (get_or bytes at 0) 34 e) refl

scan_backslash : (bytes : List ℕ) (at : ℕ) → at < length bytes → get_or bytes at 0 ≡ 92 → scan false (drop at bytes) ≡ scan true (drop (at + 1) bytes)
unfolding scan
scan_backslash bytes at lt e = rw (drop-cons bytes at 0 lt, add-one, e) refl

scan_other : (bytes : List ℕ) (at : ℕ) → at < length bytes → get_or bytes at 0 ≢ 34 → get_or bytes at 0 ≢ 92
    → scan false (drop at bytes) ≡ onto (get_or bytes at 0) (scan false (drop (at + 1) bytes))
unfolding scan
scan_other bytes at lt q b = rw (drop-cons bytes at 0 lt, add-one, ne_eqb (get_or bytes at 0) 34 q, ne_eqb (get_or bytes at 0) 92 b) refl

pub escape_scanned : (front new bytes : List ℕ) (at c : ℕ) → IsScanned front true (drop at bytes) bytes → at < length bytes
    → unescaped (get_or bytes at 0) ≡ Some c → new ≡ front ++ c ∷ [] → IsScanned new false (drop (at + 1) bytes) bytes
escape_scanned front new bytes at c s lt e n =
    record {
      is = rw n (sym (regroup front c (scan false (drop (at + 1) bytes)))
          ∙ ap (λ (o : Option ℕ). with_front front (onto_escape o (scan false (drop (at + 1) bytes)))) (sym e)
          ∙ ap (with_front front) (sym (scan_escape bytes at lt)) ∙ s.is);
    }

pub bad_escape : (front bytes : List ℕ) (at : ℕ) → IsScanned front true (drop at bytes) bytes → at < length bytes
    → unescaped (get_or bytes at 0) ≡ None → scan false bytes ≡ None
bad_escape front bytes at s lt e = sym s.is ∙ ap (with_front front) (scan_escape bytes at lt)
    ∙ ap (λ (o : Option ℕ). with_front front (onto_escape o (scan false (drop (at + 1) bytes)))) e

pub quote_scanned : (front bytes : List ℕ) (at : ℕ) → IsScanned front false (drop at bytes) bytes → at < length bytes → get_or bytes at 0 ≡ 34
    → scan false bytes ≡ Some (front, drop (at + 1) bytes)
quote_scanned front bytes at s lt e = sym s.is ∙ ap (with_front front) (scan_quote bytes at lt e)
    ∙ ap (λ (t : List ℕ). Some (t, drop (at + 1) bytes)) (append-nil front)

pub backslash_scanned : (front bytes : List ℕ) (at : ℕ) → IsScanned front false (drop at bytes) bytes → at < length bytes → get_or bytes at 0 ≡ 92
    → IsScanned front true (drop (at + 1) bytes) bytes
backslash_scanned front bytes at s lt e = record { is = ap (with_front front) (sym (scan_backslash bytes at lt e)) ∙ s.is }

pub other_scanned : (front new bytes : List ℕ) (at : ℕ) → IsScanned front false (drop at bytes) bytes → at < length bytes → get_or bytes at 0 ≢ 34
    → get_or bytes at 0 ≢ 92 → new ≡ front ++ get_or bytes at 0 ∷ [] → IsScanned new false (drop (at + 1) bytes) bytes
other_scanned front new bytes at s lt q b n = record {
  is = rw n
      (sym (regroup front (get_or bytes at 0) (scan false (drop (at + 1) bytes))) ∙ ap (with_front front) (sym (scan_other bytes at lt q b)) ∙ s.is);
}

scan_nothing : (after_backslash : Bool) → scan after_backslash [] ≡ None
unfolding scan
scan_nothing false = refl
scan_nothing true = refl

pub not_closed : (front bytes : List ℕ) (after_backslash : Bool) (at : ℕ) → IsScanned front after_backslash (drop at bytes) bytes → length bytes ≤ at
    → scan false bytes ≡ None
not_closed front bytes b at s le = sym s.is ∙ ap (λ (t : List ℕ). with_front front (scan b t)) (drop_all at bytes le)
    ∙ ap (with_front front) (scan_nothing b)

-- ---- of which only the place is kept

pub escape_within : (bytes : List ℕ) (at meant : ℕ) → unescaped (get_or bytes at 0) ≡ Some meant → IsWithin true (drop at bytes) bytes
    → at < length bytes → IsWithin false (drop (at + 1) bytes) bytes
escape_within bytes at meant is w lt = record {
  front = w.front ++ meant ∷ [];
  scanned = escape_scanned w.front (w.front ++ meant ∷ []) bytes at meant w.scanned lt is refl;
}

pub bad_within : (bytes : List ℕ) (at : ℕ) → unescaped (get_or bytes at 0) ≡ None → IsWithin true (drop at bytes) bytes → at < length bytes
    → scan false bytes ≡ None
bad_within bytes at is w lt = bad_escape w.front bytes at w.scanned lt is

pub quote_within : (bytes : List ℕ) (at : ℕ) → IsWithin false (drop at bytes) bytes → at < length bytes → get_or bytes at 0 ≡ 34
    → (text : List ℕ) × (scan false bytes ≡ Some (text, drop (at + 1) bytes))
quote_within bytes at w lt e = (w.front, quote_scanned w.front bytes at w.scanned lt e)

pub backslash_within : (bytes : List ℕ) (at : ℕ) → IsWithin false (drop at bytes) bytes → at < length bytes → get_or bytes at 0 ≡ 92
    → IsWithin true (drop (at + 1) bytes) bytes
backslash_within bytes at w lt e = record { front = w.front; scanned = backslash_scanned w.front bytes at w.scanned lt e }

pub other_within : (bytes : List ℕ) (at : ℕ) → IsWithin false (drop at bytes) bytes → at < length bytes → get_or bytes at 0 ≢ 34
    → get_or bytes at 0 ≢ 92 → IsWithin false (drop (at + 1) bytes) bytes
other_within bytes at w lt q b = record {
  front = w.front ++ get_or bytes at 0 ∷ [];
  scanned = other_scanned w.front (w.front ++ get_or bytes at 0 ∷ []) bytes at w.scanned lt q b refl;
}

pub none_within : (bytes : List ℕ) (after_backslash : Bool) (at : ℕ) → IsWithin after_backslash (drop at bytes) bytes → length bytes ≤ at
    → scan false bytes ≡ None
none_within bytes b at w le = not_closed w.front bytes b at w.scanned le

-- ---- the whole text

pub fitting_gives : (text : List ℕ) → length text ≤ 65535 → IsUtf8 text → fitting text ≡ Ok text
fitting_gives text le utf8 = rw (and_from (nat_le (length text) 65535) (is_utf8 text) (le-leb (length text) 65535 le) (is_utf8-from_IsUtf8 text utf8))
    refl

pub no_text : (text : List ℕ) → (IsUtf8 text → ⊥) → fitting text ≡ Err Text
no_text text wrong = elim (cases_Bool (is_utf8 text)) [
  | inl e ↦ absurd (wrong (IsUtf8-from_is_utf8 text e))
  | inr e ↦ rw (and_right (nat_le (length text) 65535) (is_utf8 text) e) refl
]
