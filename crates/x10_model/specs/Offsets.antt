-- Where the parts of something that is spelled stand in its bytes.
use Rattle.std.specs.Prelude.{◌≡◌, ℕ, List, ◌++◌, drop}
use Rattle.x10_model.specs.Maps.{Pairwise}

-- the part stands at this place of the bytes
pub record StandsAt (bytes : List ℕ) (at : ℕ) (part : List ℕ) : Type 0 where
  pub rest : List ℕ
  pub is : drop at bytes ≡ part ++ rest

-- the bytes end so
pub record EndsWith (bytes rest : List ℕ) : Type 0 where
  pub before : List ℕ
  pub is : bytes ≡ before ++ rest

-- the place of each item's spelling
abbrev pub AreAt : {A : Type 0} → (A → List ℕ) → List ℕ → List ℕ → List A → Type 0
AreAt spell bytes table xs = Pairwise (λ at x. StandsAt bytes at (spell x)) table xs
