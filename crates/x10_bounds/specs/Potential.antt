-- How many steps a function can still take from where it stands, at most: a number that falls with every step.
use Rattle.std.specs.Prelude.{◌≡◌, ◌≢◌, ℕ, ◌+◌, ◌-◌, ◌*◌, ◌<◌, ◌≤◌, true, List, [], ◌∷◌, drop, None, Some, slice_get}
use Rattle.x10_code.specs.declared.op.Op.{Op}
use Rattle.x10_code.specs.declared.op.Op.TheVariants as op
use Rattle.x10_code.specs.declared.instr.Instr.{Instr}
use Rattle.x10_code.specs.Table.{form_of}
use Rattle.x10_model.specs.Maps.{with_entry}
use Rattle.x10_model.specs.Structure.{Region, Turning, Waiting, Atomic, around, depth_of, is_target, nesting_fault, jump_fault, slot_fault, atomic_fault, cost, bound_of}

-- A list of levels: what the rest of the innermost loop's text costs, then what follows that loop in the next one, and so
-- on; past its end every level is 0.
abbrev pub inner : List ℕ → ℕ
inner [] = 0
inner (l ∷ ls) = l

abbrev pub outer : List ℕ → List ℕ
outer [] = []
outer (l ∷ ls) = ls

abbrev pub total : List ℕ → ℕ
total [] = 0
total (l ∷ ls) = l + total ls

-- the levels before an instruction, by those after it: a LOOP joins what its turns cost to what follows it, an ENDL begins
-- a level
abbrev pub levels_before : List ℕ → Op → Instr → List ℕ → List ℕ
levels_before earlier op.Loop i ls = (1 + i.x * inner ls + inner (outer ls)) ∷ outer (outer ls)
levels_before earlier op.Endl i ls = 1 ∷ ls
levels_before earlier _ i ls = (cost earlier i + inner ls) ∷ outer ls

abbrev pub levels : List ℕ → List Instr → List ℕ
levels earlier [] = []
levels earlier (i ∷ code) = levels_before earlier i.op i (levels earlier code)

-- the levels from an instruction on
abbrev pub levels_from : List ℕ → List Instr → ℕ → List ℕ
levels_from earlier code pc = levels earlier (drop pc code)

-- what the turns cost that the loops around an instruction still have to make, beside those that they are in
abbrev pub pending : List ℕ → List Instr → (ℕ → ℕ) → List Region → ℕ
pending earlier code slots [] = 0
pending earlier code slots (Turning opener limit ∷ rs) = (slots (depth_of rs) - 1) * inner
    (levels_from earlier code (opener + 1)) + pending earlier code slots rs
pending earlier code slots (Waiting opener ∷ rs) = pending earlier code slots rs
pending earlier code slots (Atomic opener ∷ rs) = pending earlier code slots rs

-- how many steps there are still, at most, at an instruction with the loops' slots as they are
abbrev pub potential : List ℕ → List Instr → ℕ → (ℕ → ℕ) → ℕ
potential earlier code pc slots = total (levels_from earlier code pc) + pending earlier code slots
    (around code pc)

-- what the rules of structure say of a function's code with so many loop slots
pub record IsStructured (loops : ℕ) (code : List Instr) : Type 0 where
  pub nests : nesting_fault code ≡ None
  pub jumps : jump_fault code ≡ None
  pub slots : slot_fault loops code ≡ None
  pub atomics : atomic_fault code ≡ None

-- Where a function begins, its potential is its bound; an instruction that goes on to the next one takes what it costs; a
-- loop's begin, each of its turns, its end and each jump take 1.
pub record PotentialFalls (loops : ℕ) (earlier : List ℕ) (code : List Instr) : Type 0 where
  pub begins : (slots : ℕ → ℕ) → potential earlier code 0 slots ≡ bound_of earlier code
  pub onward : (pc : ℕ) (i : Instr) (slots : ℕ → ℕ) → slice_get code pc ≡ Some i → i.op ≢ op.Loop
      → i.op ≢ op.Endl
      → potential earlier code (pc + 1) slots + cost earlier i ≡ potential earlier code pc slots
  pub loop : (pc : ℕ) (i : Instr) (slots : ℕ → ℕ) → slice_get code pc ≡ Some i → i.op ≡ op.Loop
      → potential earlier code (pc + 1) (with_entry slots i.a i.x) + 1
      ≤ potential earlier code pc slots
  pub turns : (pc : ℕ) (i : Instr) (slots : ℕ → ℕ) → slice_get code pc ≡ Some i → i.op ≡ op.Endl
      → 0 < slots i.a - 1
      → potential earlier code i.x (with_entry slots i.a (slots i.a - 1)) + 1
      ≤ potential earlier code pc slots
  pub ends : (pc : ℕ) (i : Instr) (slots : ℕ → ℕ) → slice_get code pc ≡ Some i → i.op ≡ op.Endl
      → potential earlier code (pc + 1) (with_entry slots i.a (slots i.a - 1)) + 1
      ≤ potential earlier code pc slots
  pub jump : (pc : ℕ) (i : Instr) (slots : ℕ → ℕ) → slice_get code pc ≡ Some i → i.op ≢ op.Endl
      → is_target (form_of i.op).x ≡ true
      → potential earlier code i.x slots + 1 ≤ potential earlier code pc slots

-- in a function whose structure holds, the potential falls with every step
abbrev pub StructuredFalls : Type 0
StructuredFalls = (loops : ℕ) (earlier : List ℕ) (code : List Instr) → IsStructured loops code
    → PotentialFalls loops earlier code
