-- Which terms are known to be the same place: an equivalence on here, the places 0 to 63 and the registers 0 to 63.
use Rattle.std.specs.Prelude.{◌≡◌, ℕ, ◌+◌, ◌<◌, Bool, true, false, ◌==◌, ◌&&◌, ◌||◌, not, Option, Some, None, if◌then◌else◌, IsTrue, slice_index}
use Rattle.x10_kinds.specs.declared.homes.Term.{Term}
use Rattle.x10_kinds.specs.declared.homes.Term.TheVariants.{Here, Place, Reg}
use Rattle.x10_kinds.specs.declared.homes.Homes.{Homes}

-- the terms that there are
abbrev pub IsTerm : Term → Type 0
IsTerm Here = Unit {0}
IsTerm (Place p) = p < 64
IsTerm (Reg r) = r < 64

-- the terms in one row: here, the places, the registers
abbrev pub index_of : Term → ℕ
index_of Here = 0
index_of (Place p) = p + 1
index_of (Reg r) = r + 65

abbrev pub same_term : Term → Term → Bool
same_term Here Here = true
same_term (Place p) (Place q) = p == q
same_term (Reg r) (Reg s) = r == s
same_term _ _ = false

-- which two terms are equal
abbrev pub Equations : Type 0
Equations = Term → Term → Bool

-- two equivalences say the same of every two terms
abbrev pub SameEquations : Equations → Equations → Type 0
SameEquations r s = (v w : Term) → IsTerm v → IsTerm w → r v w ≡ s v w

-- each equation of the second holds in the first too
abbrev pub Includes : Equations → Equations → Type 0
Includes r s = (v w : Term) → IsTerm v → IsTerm w → IsTrue (s v w) → IsTrue (r v w)

-- no two
abbrev pub alone : Equations
alone v w = same_term v w

-- the equation t = u beside those of r, and what follows from them
abbrev pub joined : Equations → Term → Term → Equations
joined r t u v w = r v w || (r v t && r u w) || (r v u && r t w)

-- what a term stood for before the register was given the place of t
abbrev pub read_as : ℕ → Term → Term → Term
read_as reg t v = if same_term v (Reg reg) then t else v

-- the register stands for the place of a term from now on, or for one that nothing is known of
abbrev pub written : Equations → ℕ → Option Term → Equations
written r reg (Some t) v w = r (read_as reg t v) (read_as reg t w)
written r reg None v w = same_term v w ||
    (not (same_term v (Reg reg)) && not (same_term w (Reg reg)) && r v w)

-- the equations that hold in both
abbrev pub met : Equations → Equations → Equations
met r s v w = r v w && s v w

-- equality, as far as it is known: of each term with itself, both ways, and along a third term
pub record IsEquivalence (r : Equations) : Type 0 where
  pub reflexive : (v : Term) → IsTerm v → IsTrue (r v v)
  pub symmetric : (v w : Term) → IsTerm v → IsTerm w → IsTrue (r v w) → IsTrue (r w v)
  pub transitive : (u v w : Term) → IsTerm u → IsTerm v → IsTerm w → IsTrue (r u v) → IsTrue (r v w)
      → IsTrue (r u w)

-- what a value of the program says: two terms are equal where their labels are
unfoldable pub equations : Homes → Equations
equations h v w = slice_index h.labels (index_of v) == slice_index h.labels (index_of w)
