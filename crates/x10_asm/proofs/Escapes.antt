-- Texts pushed with their escapes, run by run.
use Rattle.std.proofs.Common.{◌≡◌, ℕ, ◌+◌, ◌-◌, ◌≤◌, ◌<◌, List, [], ◌∷◌, ◌++◌, length, take, drop, get_or, refl, sym, ap, ◌∙◌, append_assoc, append-nil, arith}
use Rattle.std.specs.Str.{IsCharBoundary, IsUtf8}
use Rattle.std.specs.List.{flat_map}
use Rattle.std.proofs.lemmas.List.{take_more, length-take-le, drop-append-le, drop_all, drop-take, take_all}
use Rattle.std.proofs.lemmas.Grind.{flat_map-append}
use Rattle.std.proofs.lemmas.Str.{IsCharBoundary-start, IsCharBoundary-after_ascii}
use Rattle.x10_asm.specs.Listing.{escape}

-- the bytes before a place are pushed, and those from it up to here stand for themselves
pub record ArePushed (before out text : List ℕ) (from at : ℕ) : Type 0 where
  pub order : from ≤ at
  pub end : at ≤ length text
  pub boundary : IsCharBoundary text from
  pub is : out ++ drop from (take at text) ≡ before ++ flat_map escape (take at text)

pub none_pushed : (text out : List ℕ) → IsUtf8 text → ArePushed out out text 0 0
none_pushed text out utf8 = record { order = omega arith; end = omega arith; boundary = IsCharBoundary-start text utf8; is = refl }

escaped_more : (text : List ℕ) (at : ℕ) → at < length text → flat_map escape (take (at + 1) text)
    ≡ flat_map escape (take at text) ++ escape (get_or text at 0)
escaped_more text at lt = ap (flat_map escape) (take_more text at 0 lt) ∙ flat_map-append escape (take at text) (get_or text at 0 ∷ [])
    ∙ ap (λ (e : List ℕ). flat_map escape (take at text) ++ e) (append-nil (escape (get_or text at 0)))

-- a byte that stands for itself
pub one_kept : (before out text : List ℕ) (from at : ℕ) → ArePushed before out text from at → at < length text
    → escape (get_or text at 0) ≡ get_or text at 0 ∷ [] → ArePushed before out text from (at + 1)
one_kept before out text from at a lt e = record {
  order = omega (arith, a.order);
  end = omega arith;
  boundary = a.boundary;
  is = ap (λ (t : List ℕ). out ++ drop from t) (take_more text at 0 lt)
      ∙ ap (λ (t : List ℕ). out ++ t) (drop-append-le from (take at text) (get_or text at 0 ∷ [])
      (omega (arith, length-take-le at text (omega arith), a.order)))
      ∙ sym (append_assoc out (drop from (take at text)) (get_or text at 0 ∷ []))
      ∙ ap (λ (t : List ℕ). t ++ get_or text at 0 ∷ []) a.is
      ∙ append_assoc before (flat_map escape (take at text)) (get_or text at 0 ∷ [])
      ∙ ap (λ (t : List ℕ). before ++ (flat_map escape (take at text) ++ t)) (sym e)
      ∙ ap (λ (t : List ℕ). before ++ t) (sym (escaped_more text at lt));
}

-- a byte that has an escape
pub one_escaped : (before out new text word : List ℕ) (from at : ℕ) → ArePushed before out text from at → IsUtf8 text → at < length text
    → get_or text at 0 < 128 → escape (get_or text at 0) ≡ word
    → new ≡ (out ++ drop from (take at text)) ++ word → ArePushed before new text (at + 1) (at + 1)
one_escaped before out new text word from at a utf8 lt ascii e n = record {
  order = omega arith;
  end = omega arith;
  boundary = IsCharBoundary-after_ascii text at utf8 lt ascii;
  is = ap (λ (t : List ℕ). new ++ t) (drop_all (at + 1) (take (at + 1) text) (omega (arith, length-take-le (at + 1) text (omega arith))))
      ∙ append-nil new
      ∙ n
      ∙ ap (λ (t : List ℕ). t ++ word) a.is
      ∙ append_assoc before (flat_map escape (take at text)) word
      ∙ ap (λ (t : List ℕ). before ++ (flat_map escape (take at text) ++ t)) (sym e)
      ∙ ap (λ (t : List ℕ). before ++ t) (sym (escaped_more text at lt));
}

-- the run from a place up to another
pub run_between : (text : List ℕ) (from at : ℕ) → from ≤ at → drop from (take at text) ≡ take (at - from) (drop from text)
run_between text from at le =
    let e : from + (at - from) ≡ at = omega arith in
    ap (λ (n : ℕ). drop from (take n text)) (sym e) ∙ drop-take from (at - from) text

-- what is left is pushed at the end
pub all_pushed : (before out new text rest : List ℕ) (from at : ℕ) → ArePushed before out text from at → length text ≤ at → rest ≡ drop from text
    → new ≡ out ++ rest → new ≡ before ++ flat_map escape text
all_pushed before out new text rest from at a le r n =
    n ∙ ap (λ (t : List ℕ). out ++ t) (r ∙ ap (λ (t : List ℕ). drop from t) (sym (take_all at text le))) ∙ a.is
    ∙ ap (λ (t : List ℕ). before ++ flat_map escape t) (take_all at text le)
