-- Laws of the definitions: fitting is an order with least common kinds, and equations are equivalences.
use Rattle.std.specs.Prelude.{◌≡◌, ℕ, Some, None, IsTrue}
use Rattle.x10_kinds.specs.declared.kind.Kind.{Kind}
use Rattle.x10_kinds.specs.declared.homes.Term.{Term}
use Rattle.x10_kinds.specs.declared.homes.Homes.{Homes}
use Rattle.x10_kinds.specs.Kinds.{Fits, meet_of}
use Rattle.x10_kinds.specs.Equations.{Equations, IsTerm, IsEquivalence, Includes, alone, joined, met, written, equations}

-- a kind fits itself
abbrev pub FittingIsReflexive : Type 0
FittingIsReflexive = (a : Kind) → Fits a a

-- what fits a kind fits each kind that this one fits
abbrev pub FittingIsTransitive : Type 0
FittingIsTransitive = (a b c : Kind) → Fits a b → Fits b c → Fits a c

-- two kinds that fit each other are the same
abbrev pub FittingIsAntisymmetric : Type 0
FittingIsAntisymmetric = (a b : Kind) → Fits a b → Fits b a → a ≡ b

-- both kinds fit their common kind
abbrev pub MeetIsAbove : Type 0
MeetIsAbove = (a b m : Kind) → meet_of a b ≡ Some m → Fits a m × Fits b m

-- and it fits each kind that both fit
abbrev pub MeetIsLeast : Type 0
MeetIsLeast = (a b m : Kind) → meet_of a b ≡ Some m → (k : Kind) → Fits a k → Fits b k → Fits m k

-- kinds without a common kind both fit none
abbrev pub NoMeetIsNone : Type 0
NoMeetIsNone = (a b : Kind) → meet_of a b ≡ None → (k : Kind) → Fits a k → Fits b k → ⊥

-- what labels say is an equivalence
abbrev pub EquationsAreAnEquivalence : Type 0
EquationsAreAnEquivalence = (h : Homes) → IsEquivalence (equations h)

-- every equivalence has the equations of a term with itself
abbrev pub AloneIsLeast : Type 0
AloneIsLeast = (r : Equations) → IsEquivalence r → Includes r alone

-- a join keeps what was known
abbrev pub JoinKeeps : Type 0
JoinKeeps = (r : Equations) (t u : Term) → Includes (joined r t u) r

-- a join makes the two terms equal
abbrev pub JoinEquates : Type 0
JoinEquates = (r : Equations) (t u : Term) → IsTerm t → IsTerm u → IsEquivalence r
    → IsTrue (joined r t u t u)

-- the join of an equivalence is an equivalence
abbrev pub JoinIsAnEquivalence : Type 0
JoinIsAnEquivalence = (r : Equations) (t u : Term) → IsTerm t → IsTerm u → IsEquivalence r
    → IsEquivalence (joined r t u)

-- and it is within every equivalence that keeps what was known and makes the two terms equal
abbrev pub JoinIsLeast : Type 0
JoinIsLeast = (r s : Equations) (t u : Term) → IsTerm t → IsTerm u → IsEquivalence s → Includes s r
    → IsTrue (s t u) → Includes s (joined r t u)

-- what two equivalences have in common is an equivalence
abbrev pub MetIsAnEquivalence : Type 0
MetIsAnEquivalence = (r s : Equations) → IsEquivalence r → IsEquivalence s → IsEquivalence (met r s)

-- it is within both
abbrev pub MetIsBelow : Type 0
MetIsBelow = (r s : Equations) → Includes r (met r s) × Includes s (met r s)

-- and whatever is within both is within it
abbrev pub MetIsGreatest : Type 0
MetIsGreatest = (r s q : Equations) → Includes r q → Includes s q → Includes (met r s) q

-- a write of a place that a term stands for leaves an equivalence
abbrev pub WriteOfATermIsAnEquivalence : Type 0
WriteOfATermIsAnEquivalence = (r : Equations) (reg : ℕ) (t : Term) → IsTerm t → IsEquivalence r
    → IsEquivalence (written r reg (Some t))

-- and so does one of a place that nothing is known of
abbrev pub WriteOfAnyPlaceIsAnEquivalence : Type 0
WriteOfAnyPlaceIsAnEquivalence = (r : Equations) (reg : ℕ) → IsEquivalence r
    → IsEquivalence (written r reg None)

-- a join of what knows more knows more
abbrev pub JoinIsMonotone : Type 0
JoinIsMonotone = (r s : Equations) (t u : Term) → IsTerm t → IsTerm u → Includes r s
    → Includes (joined r t u) (joined s t u)

-- so does a write of a place that a term stands for
abbrev pub WriteOfATermIsMonotone : Type 0
WriteOfATermIsMonotone = (r s : Equations) (reg : ℕ) (t : Term) → IsTerm t → Includes r s
    → Includes (written r reg (Some t)) (written s reg (Some t))

-- and one of a place that nothing is known of
abbrev pub WriteOfAnyPlaceIsMonotone : Type 0
WriteOfAnyPlaceIsMonotone = (r s : Equations) (reg : ℕ) → Includes r s
    → Includes (written r reg None) (written s reg None)
