-- The places that terms stand for in a call frame, and when place equations are true of it.
use Rattle.std.specs.Prelude.{◌≡◌, ℕ, IsTrue, Option, Some, None}
use Rattle.x10_kinds.specs.declared.homes.Term.{Term}
use Rattle.x10_kinds.specs.declared.homes.Term.TheVariants as term
use Rattle.x10_kinds.specs.Equations.{Equations, IsTerm}
use Rattle.x10_model.specs.Values.{Value}
use Rattle.x10_model.specs.Results.{place_of}

-- the place that a register's value stands for: itself, or its home
abbrev pub place_in : Option Value → Option ℕ
place_in None = None
place_in (Some v) = place_of v

-- the place that a term stands for, at a place and with these registers
abbrev pub place_at : ℕ → (ℕ → Option Value) → Term → Option ℕ
place_at here registers term.Here = Some here
place_at here registers (term.Place p) = Some p
place_at here registers (term.Reg r) = place_in (registers r)

-- terms that are known to be equal stand for the same place
abbrev pub AreHomes : ℕ → Equations → (ℕ → Option Value) → Type 0
AreHomes here e registers = (v w : Term) → IsTerm v → IsTerm w → IsTrue (e v w)
    → place_at here registers v ≡ place_at here registers w

-- the term, where there is one, stands for the place of the value
abbrev pub IsLike : ℕ → (ℕ → Option Value) → Option Term → Value → Type 0
IsLike here registers None v = Unit {0}
IsLike here registers (Some t) v = IsTerm t × (place_at here registers t ≡ place_of v)
