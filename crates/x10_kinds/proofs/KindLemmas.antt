-- The laws of kinds, for the proofs of other crates.
use Rattle.std.proofs.Common.{◌≡◌, Some, None, rules}
use Rattle.x10_kinds.specs.declared.kind.Kind.{Kind}
use Rattle.x10_kinds.specs.Kinds.{Fits, meet_of}

-- a kind fits itself
pub Fits-refl : (a : Kind) → Fits a a
Fits-refl a = search rules

-- fitting is transitive
pub Fits-trans : (a b c : Kind) → Fits a b → Fits b c → Fits a c
Fits-trans a b c one two = search rules

-- two kinds that fit each other are the same
pub Fits-antisym : (a b : Kind) → Fits a b → Fits b a → a ≡ b
Fits-antisym a b one two = search rules

-- both kinds fit their common kind
pub meet_of-above : (a b m : Kind) → meet_of a b ≡ Some m → Fits a m × Fits b m
meet_of-above a b m e = search rules

-- the common kind fits each kind that both fit
pub meet_of-least : (a b m : Kind) → meet_of a b ≡ Some m → (k : Kind) → Fits a k → Fits b k → Fits m k
meet_of-least a b m e k one two = search rules

-- kinds without a common kind both fit none
pub meet_of-none : (a b : Kind) → meet_of a b ≡ None → (k : Kind) → Fits a k → Fits b k → ⊥
meet_of-none a b e k one two = search rules
