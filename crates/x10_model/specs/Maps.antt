-- Finite and infinite maps as functions, and members of lists.
use Rattle.std.specs.Prelude.{◌≡◌, ℕ, ◌==◌, ◌&&◌, List, [], ◌∷◌, Some, if◌then◌else◌, slice_get}

-- the map with another value at one number
abbrev pub with_entry : {V : Type 0} → (ℕ → V) → ℕ → V → ℕ → V
with_entry map key value other = if other == key then value else map other

-- the map with another value at one pair of numbers
abbrev pub with_pair : {V : Type 0} → (ℕ → ℕ → V) → ℕ → ℕ → V → ℕ → ℕ → V
with_pair map first second value other another =
    if other == first && another == second then value else map other another

-- x is a member of xs
abbrev pub IsIn : {X : Type 0} → X → List X → Type 0
IsIn x xs = (i : ℕ) × (slice_get xs i ≡ Some x)

-- no two places of the list have the same number
abbrev pub AreDistinct : List ℕ → Type 0
AreDistinct xs = (i j x : ℕ) → slice_get xs i ≡ Some x → slice_get xs j ≡ Some x → i ≡ j

-- as many of one list as of the other, and the relation holds of each two in their places
abbrev pub Pairwise : {X Y : Type 0} → (X → Y → Type 0) → List X → List Y → Type 0
Pairwise R [] [] = Unit {0}
Pairwise R (x ∷ xs) (y ∷ ys) = R x y × Pairwise R xs ys
Pairwise R _ _ = ⊥
