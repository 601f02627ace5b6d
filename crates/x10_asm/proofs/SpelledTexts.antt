-- A text between its quotes is read again.
use Rattle.std.proofs.Common.{◌≡◌, ◌≢◌, ℕ, true, false, not, List, [], ◌∷◌, ◌++◌, length, Option, Some, Ok, refl, ap, ◌∙◌, append_assoc, append-nil, arith, inl, inr}
use Rattle.std.specs.Prelude.{◌==◌, codes}
use Rattle.std.specs.List.{list_all, flat_map}
use Rattle.std.proofs.lemmas.Bool.{cases_eq, ne_eqb, and_from, and_parts, not_from_false}
use Rattle.std.proofs.lemmas.List.Folds.{list_all-append}
use Rattle.x10_model.specs.Modules.{FitsText}
use Rattle.x10_asm.specs.Lines.{after_word}
use Rattle.x10_asm.specs.Listing.{escape, quoted, spaced}
use Rattle.x10_asm.specs.Literals.{unescaped, onto, onto_escape, scan, closed, unquoted, literal}
use Rattle.x10_asm.specs.declared.fault.AsmCause.TheVariants as cause
use Rattle.x10_asm.specs.Checks.{◌>>=◌, given}
use Rattle.x10_asm.proofs.QuotedBytes.{fitting_gives}
use Rattle.x10_asm.proofs.Names.{words_nil}
use Rattle.x10_asm.proofs.SpelledLines.{is_plain}

scan_end : (rest : List ℕ) → scan false (34 ∷ rest) ≡ Some ([], rest)
unfolding scan
scan_end rest = refl

scan_escaped : (c d : ℕ) (rest : List ℕ) → unescaped d ≡ Some c → scan false (92 ∷ d ∷ rest) ≡ onto c (scan false rest)
unfolding scan
scan_escaped c d rest e = ap (λ (o : Option ℕ). onto_escape o (scan false rest)) e

scan_plain : (c : ℕ) (rest : List ℕ) → c ≢ 34 → c ≢ 92 → scan false (c ∷ rest) ≡ onto c (scan false rest)
unfolding scan
scan_plain c rest q b = rw (ne_eqb c 34 q, ne_eqb c 92 b) refl

escape_plain : (c : ℕ) → c ≢ 34 → c ≢ 92 → c ≢ 10 → escape c ≡ c ∷ []
escape_plain c q b f = rw (ne_eqb c 34 q, ne_eqb c 92 b, ne_eqb c 10 f) refl

scan_escape : (c : ℕ) (rest : List ℕ) → scan false (escape c ++ rest) ≡ onto c (scan false rest)
scan_escape c rest = elim (cases_eq c 34) [
  | inl e ↦ rw e (scan_escaped 34 34 rest refl)
  | inr q ↦ elim (cases_eq c 92) [
    | inl e ↦ rw e (scan_escaped 92 92 rest refl)
    | inr b ↦ elim (cases_eq c 10) [
      | inl e ↦ rw e (scan_escaped 10 110 rest refl)
      | inr f ↦ ap (λ (t : List ℕ). scan false (t ++ rest)) (escape_plain c q b f) ∙ scan_plain c rest q b
    ]
  ]
]

scan_again : (text : List ℕ) → scan false (flat_map escape text ++ 34 ∷ []) ≡ Some (text, [])
scan_again [] = scan_end []
scan_again (c ∷ cs) = ap (scan false) (append_assoc (escape c) (flat_map escape cs) (34 ∷ [])) ∙ scan_escape c (flat_map escape cs ++ 34 ∷ [])
    ∙ ap (onto c) (scan_again cs)

closed_again : (text : List ℕ) → FitsText text → closed text [] ≡ Ok text
closed_again text f = rw words_nil (fitting_gives text (omega (arith, f.length)) f.utf8)

literal_opens : (cs : List ℕ) → literal (34 ∷ cs) ≡ unquoted (Some cs)
unfolding literal
literal_opens cs =
    let some : length {A = ℕ} (34 ∷ cs) ≢ 0 = λ e. omega (arith, e) in
    rw (ne_eqb (length {A = ℕ} (34 ∷ cs)) 0 some) refl

pub literal_again : (text : List ℕ) → FitsText text → literal (quoted text) ≡ Ok text
literal_again text f = literal_opens (flat_map escape text ++ 34 ∷ [])
    ∙ ap (λ (o : Option (List ℕ × List ℕ)). given o cause.Text >>= (λ p. closed p.0 p.1)) (scan_again text) ∙ closed_again text f

-- ---- its line

pub after_text : (text : List ℕ) → after_word (codes "text" ++ flat_map spaced (quoted text ∷ [])) ≡ quoted text
after_text text = append-nil (quoted text)

escape_has_no_feed : (c : ℕ) → list_all (λ b. not (b == 10)) (escape c) ≡ true
escape_has_no_feed c = elim (cases_eq c 34) [
  | inl e ↦ rw e refl
  | inr q ↦ elim (cases_eq c 92) [
    | inl e ↦ rw e refl
    | inr b ↦ elim (cases_eq c 10) [
      | inl e ↦ rw e refl
      | inr f ↦ rw (escape_plain c q b f) (and_from (not (c == 10)) true (not_from_false (c == 10) (ne_eqb c 10 f)) refl)
    ]
  ]
]

plain_before_quote : (xs : List ℕ) → list_all (λ b. not (b == 10)) xs ≡ true → is_plain (xs ++ 34 ∷ []) ≡ true
plain_before_quote [] h = refl
plain_before_quote (c ∷ []) h = and_from (not (c == 10)) true (and_parts (not (c == 10)) true h).0 refl
plain_before_quote (c ∷ d ∷ ds) h =
    let p = and_parts (not (c == 10)) (list_all (λ b. not (b == 10)) (d ∷ ds)) h in
    and_from (not (c == 10)) (is_plain (d ∷ (ds ++ 34 ∷ []))) p.0 (plain_before_quote (d ∷ ds) p.1)

escapes_have_no_feed : (text : List ℕ) → list_all (λ b. not (b == 10)) (flat_map escape text) ≡ true
escapes_have_no_feed [] = refl
escapes_have_no_feed (c ∷ cs) = list_all-append (λ b. not (b == 10)) (escape c) (flat_map escape cs)
    ∙ and_from (list_all (λ b. not (b == 10)) (escape c)) (list_all (λ b. not (b == 10)) (flat_map escape cs)) (escape_has_no_feed c)
    (escapes_have_no_feed cs)

pub plain_text : (text : List ℕ) → is_plain (codes "text" ++ flat_map spaced (quoted text ∷ [])) ≡ true
plain_text text = ap (λ (t : List ℕ). is_plain (116 ∷ 101 ∷ 120 ∷ 116 ∷ 32 ∷ t)) (append-nil (quoted text))
    ∙ plain_before_quote (116 ∷ 101 ∷ 120 ∷ 116 ∷ 32 ∷ 34 ∷ flat_map escape text) (escapes_have_no_feed text)
