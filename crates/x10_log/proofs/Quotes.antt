-- A text between its quotes is read again.
use Rattle.std.proofs.Common.{◌≡◌, ◌≢◌, ◌<◌, ◌==◌, ℕ, suc, Bool, true, false, List, [], ◌∷◌, ◌++◌, length, Option, Some, None, Result, Ok, Err, inl, inr, refl, ap, ◌∙◌, append_assoc, arith}
use Rattle.std.specs.Prelude.{if◌then◌else◌}
use Rattle.std.specs.List.{flat_map}
use Rattle.std.proofs.lemmas.Bool.{cases_eq, ne_eqb}
use Rattle.x10_asm.specs.declared.fault.AsmCause.{AsmCause}
use Rattle.x10_asm.specs.declared.fault.AsmCause.TheVariants.{Text}
use Rattle.x10_asm.specs.Checks.{given}
use Rattle.x10_asm.specs.Listing.{escape}
use Rattle.x10_asm.specs.Literals.{unescaped, onto, onto_escape, scan}

scan_end : (rest : List ℕ) → scan false (34 ∷ rest) ≡ Some ([], rest)
unfolding scan
scan_end rest = refl

scan_escaped : (c d : ℕ) (rest : List ℕ) → unescaped d ≡ Some c → scan false (92 ∷ d ∷ rest) ≡ onto c (scan false rest)
unfolding scan
scan_escaped c d rest e = ap (λ (o : Option ℕ). onto_escape o (scan false rest)) e

scan_plain : (c : ℕ) (rest : List ℕ) → c ≢ 34 → c ≢ 92 → scan false (c ∷ rest) ≡ onto c (scan false rest)
unfolding scan
scan_plain c rest q b = rw (ne_eqb c 34 q, ne_eqb c 92 b) refl

escape_plain : (c : ℕ) → c ≢ 34 → c ≢ 92 → c ≢ 10 → escape c ≡ c ∷ []
escape_plain c q b f = rw (ne_eqb c 34 q, ne_eqb c 92 b, ne_eqb c 10 f) refl

scan_escape : (c : ℕ) (rest : List ℕ) → scan false (escape c ++ rest) ≡ onto c (scan false rest)
scan_escape c rest = elim (cases_eq c 34) [
  | inl e ↦ rw e (scan_escaped 34 34 rest refl)
  | inr q ↦ elim (cases_eq c 92) [
    | inl e ↦ rw e (scan_escaped 92 92 rest refl)
    | inr b ↦ elim (cases_eq c 10) [
      | inl e ↦ rw e (scan_escaped 10 110 rest refl)
      | inr f ↦ ap (λ (t : List ℕ). scan false (t ++ rest)) (escape_plain c q b f) ∙ scan_plain c rest q b
    ]
  ]
]

pub scan_quoted : (text rest : List ℕ) → scan false (flat_map escape text ++ 34 ∷ rest) ≡ Some (text, rest)
scan_quoted [] rest = scan_end rest
scan_quoted (c ∷ cs) rest =
    ap (scan false) (append_assoc (escape c) (flat_map escape cs) (34 ∷ rest)) ∙ scan_escape c (flat_map escape cs ++ 34 ∷ rest)
    ∙ ap (onto c) (scan_quoted cs rest)

-- ---- what follows the closing quote is shorter

abbrev pub IsShorter : ℕ → Option (List ℕ × List ℕ) → Type 0
IsShorter n None = Unit {0}
IsShorter n (Some p) = length p.1 < n

longer : (n : ℕ) (o : Option (List ℕ × List ℕ)) → IsShorter n o → IsShorter (suc n) o
longer n None h = tt
longer n (Some p) h = omega (arith, h)

onto_shorter : (c n : ℕ) (o : Option (List ℕ × List ℕ)) → IsShorter n o → IsShorter (suc n) (onto c o)
onto_shorter c n None h = tt
onto_shorter c n (Some p) h = omega (arith, h)

escape_shorter : (n : ℕ) (meant : Option ℕ) (o : Option (List ℕ × List ℕ)) → IsShorter n o → IsShorter (suc n) (onto_escape meant o)
escape_shorter n None o h = tt
escape_shorter n (Some c) o h = onto_shorter c n o h

either_shorter : (n : ℕ) (b : Bool) (o p : Option (List ℕ × List ℕ)) → IsShorter n o → IsShorter n p → IsShorter n (if b then o else p)
either_shorter n true o p h g = h
either_shorter n false o p h g = g

pub scan_shorter : (after_backslash : Bool) (bytes : List ℕ) → IsShorter (length bytes) (scan after_backslash bytes)
unfolding scan
scan_shorter after_backslash [] = tt
scan_shorter false (c ∷ cs) =
    either_shorter (suc (length cs)) (c == 34) (Some ([], cs)) _ (omega arith)
    (either_shorter (suc (length cs)) (c == 92) (scan true cs) (onto c (scan false cs))
    (longer (length cs) (scan true cs) (scan_shorter true cs)) (onto_shorter c (length cs) (scan false cs) (scan_shorter false cs)))
scan_shorter true (c ∷ cs) = escape_shorter (length cs) (unescaped c) (scan false cs) (scan_shorter false cs)

-- ---- what is given is what was scanned

abbrev as_some : Result (List ℕ × List ℕ) AsmCause → Option (List ℕ × List ℕ)
as_some (Ok x) = Some x
as_some (Err cause) = None

pub given_is : (o : Option (List ℕ × List ℕ)) (x : List ℕ × List ℕ) → given o Text ≡ Ok x → o ≡ Some x
given_is None x e = absurd cc
given_is (Some y) x e = ap as_some e
