-- A key that is pushed again and again.
use Rattle.std.proofs.Common.{◌≡◌, ℕ, zero, suc, ◌+◌, ◌≤◌, List, [], ◌∷◌, ◌++◌, length, replicate, refl, sym, ap, ◌∙◌, append_assoc, append-nil, add-one, arith, length-append}
use Rattle.std.proofs.lemmas.List.{length-replicate}

-- so many of the key are behind what was there
pub record AreRepeated (before now : List ℕ) (key count : ℕ) : Type 0 where
  pub is : now ≡ before ++ replicate count key

pub replicate_last : (count key : ℕ) → replicate count key ++ key ∷ [] ≡ replicate (suc count) key
replicate_last zero key = refl
replicate_last (suc n) key = ap (λ (l : List ℕ). key ∷ l) (replicate_last n key)

pub none_repeated : (before : List ℕ) (key : ℕ) → AreRepeated before before key 0
none_repeated before key = record { is = sym (append-nil before) }

pub one_repeated : (before now new : List ℕ) (key count : ℕ) → AreRepeated before now key count → new ≡ now ++ key ∷ [] → AreRepeated before new key
    (count + 1)
one_repeated before now new key count r e = record {
  is = e ∙ ap (λ (l : List ℕ). l ++ key ∷ []) r.is ∙ append_assoc before (replicate count key) (key ∷ [])
      ∙ ap (λ (l : List ℕ). before ++ l) (replicate_last count key) ∙ ap (λ (n : ℕ). before ++ replicate n key) (sym (add-one count));
}

pub all_repeated : (before now : List ℕ) (key count at : ℕ) → AreRepeated before now key at → at ≤ count → count ≤ at
    → now ≡ before ++ replicate count key
all_repeated before now key count at r le ge = r.is ∙ ap (λ (n : ℕ). before ++ replicate n key) (omega arith)

pub length_repeated : (before now : List ℕ) (key count at : ℕ) → AreRepeated before now key at → at ≤ count → length before + count ≤ 64
    → length now ≤ 64
length_repeated before now key count at r le few =
    omega (arith, ap length r.is, length-append before (replicate at key), length-replicate at key)
