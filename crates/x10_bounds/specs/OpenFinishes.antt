-- How many finishes an instruction stands in.
use Rattle.std.specs.Prelude.{◌≡◌, ◌≢◌, ℕ, ◌+◌, true, List, Some, slice_get}
use Rattle.x10_code.specs.declared.op.Op.TheVariants as op
use Rattle.x10_code.specs.declared.instr.Instr.{Instr}
use Rattle.x10_code.specs.Table.{form_of}
use Rattle.x10_model.specs.Structure.{around, is_target}
use Rattle.x10_bounds.specs.Spots.{finishes_of}
use Rattle.x10_bounds.specs.Potential.{IsStructured}

abbrev pub finishes_around : List Instr → ℕ → ℕ
finishes_around code pc = finishes_of (around code pc)

-- A FINB stands outside its finish and a FINE inside; every other instruction and every jump stays in as many, and no
-- function ends inside one.
pub record FinishesMatch (code : List Instr) : Type 0 where
  pub onward : (pc : ℕ) (i : Instr) → slice_get code pc ≡ Some i → i.op ≢ op.Finb → i.op ≢ op.Fine
      → finishes_around code (pc + 1) ≡ finishes_around code pc
  pub opens : (pc : ℕ) (i : Instr) → slice_get code pc ≡ Some i → i.op ≡ op.Finb
      → finishes_around code (pc + 1) ≡ finishes_around code pc + 1
  pub closes : (pc : ℕ) (i : Instr) → slice_get code pc ≡ Some i → i.op ≡ op.Fine
      → finishes_around code pc ≡ finishes_around code (pc + 1) + 1
  pub jump : (pc : ℕ) (i : Instr) → slice_get code pc ≡ Some i → is_target (form_of i.op).x ≡ true
      → finishes_around code i.x ≡ finishes_around code pc
  pub ends : (pc : ℕ) (i : Instr) → slice_get code pc ≡ Some i → i.op ≡ op.Ret
      → finishes_around code pc ≡ 0

-- so it is in a function whose structure holds
abbrev pub StructuredMatches : Type 0
StructuredMatches = (loops : ℕ) (code : List Instr) → IsStructured loops code → FinishesMatch code
