-- What is known on two ways to one instruction, and how much of it there is to lose.
use Rattle.std.specs.Prelude.{◌≡◌, ◌≢◌, ℕ, ◌+◌, ◌*◌, ◌<◌, ◌≤◌, Bool, true, false, Option, Some, None}
use Rattle.x10_kinds.specs.declared.kind.Kind.{Kind}
use Rattle.x10_kinds.specs.declared.kind.Kind.TheVariants.{Obj}
use Rattle.x10_kinds.specs.declared.homes.Term.{Term}
use Rattle.x10_kinds.specs.declared.homes.Term.TheVariants as term
use Rattle.x10_kinds.specs.Kinds.{meet_of}
use Rattle.x10_kinds.specs.Equations.{IsTerm, Includes, equations, written}
use Rattle.x10_kinds.specs.Ranks.{sum_below, rank, ranks}
use Rattle.x10_model.specs.Maps.{with_entry}
use Rattle.x10_model.specs.Assignments.{State, IsState, IsBelow, IsKind, holds_place}
use Rattle.x10_verify.specs.declared.known.Known.{Known}
use Rattle.x10_verify.specs.Known.{kind_in, state_of}
use Rattle.x10_verify.specs.Effects.{IsKept}

-- the kind that a register has on both ways, if there is one
abbrev pub common_of : Option Kind → Option Kind → Option Kind
common_of (Some k) (Some l) = meet_of k l
common_of _ _ = None

-- the least state above both
pub record IsMet (v s u : State) : Type 0 where
  pub kept : IsKept u
  pub first : IsBelow v u
  pub second : IsBelow s u
  pub least : (w : State) → IsState w → IsBelow v w → IsBelow s w → IsBelow u w

-- a register with another kind, none of which has a place, and with nothing known of it
abbrev pub parted : State → ℕ → Option Kind → State
parted s r k = record { kinds = with_entry s.kinds r k; homes = written s.homes r None }

-- a free register is alone
abbrev pub IsAloneIn : State → Type 0
IsAloneIn s = (r : ℕ) (t : Term) → r < 64 → holds_place (s.kinds r) ≡ false → IsTerm t
    → s.homes (term.Reg r) t ≡ true → t ≡ term.Reg r

-- u is v with the kinds of the registers below n weakened by those of s
pub record IsWeakened (v s : Known) (n : ℕ) (u : Known) (changed : Bool) : Type 0 where
  pub kinds : (r : ℕ) → r < n → kind_in u.kinds r
      ≡ common_of (kind_in v.kinds r) (kind_in s.kinds r)
  pub rest : (r : ℕ) → n ≤ r → kind_in u.kinds r ≡ kind_in v.kinds r
  pub within : Includes (equations v.homes) (equations u.homes)
  pub least : (w : State) → IsState w → ((r : ℕ) (want : Kind) → w.kinds r ≡ Some want
      → IsKind (state_of v) r want × IsKind (state_of s) r want)
      → Includes (equations v.homes) w.homes → Includes (equations u.homes) w.homes
  pub alone : IsAloneIn (state_of v) → IsAloneIn (state_of u)
  pub same : changed ≡ false → u ≡ v
  pub falls : changed ≡ true → (k : ℕ) × (k < n)
      × (common_of (kind_in v.kinds k) (kind_in s.kinds k) ≢ kind_in v.kinds k)

-- how often a register's kind can still be weakened
abbrev pub weight : Option Kind → ℕ
weight None = 0
weight (Some (Obj c)) = 2
weight (Some k) = 1

-- how often a state can still be weakened, at most
unfoldable pub rank_of : Known → ℕ
rank_of k = ranks * sum_below 64 (λ r. weight (kind_in k.kinds r)) + rank k.homes

-- a state can be weakened less often than so: the kind of each register twice, and the equations by each
-- rank before, between and after
abbrev pub heights : ℕ
heights = ranks * (64 * 2 + 1)
