-- Which instructions stand in an atomic region.
use Rattle.std.specs.Prelude.{◌≡◌, ◌≢◌, ℕ, ◌+◌, Bool, true, false, List, Some, slice_get}
use Rattle.x10_code.specs.declared.op.Op.TheVariants as op
use Rattle.x10_code.specs.declared.instr.Instr.{Instr}
use Rattle.x10_code.specs.Table.{form_of}
use Rattle.x10_model.specs.Structure.{around, is_in_atomic, is_kept_out, is_target}
use Rattle.x10_bounds.specs.Potential.{IsStructured}

abbrev pub is_inside : List Instr → ℕ → Bool
is_inside code pc = is_in_atomic (around code pc)

-- An ATOMB stands outside and leads inside, an ATOME stands inside and leads outside; every other instruction and every jump
-- leads nowhere else. No function ends inside, and what begins something or goes elsewhere stands outside.
pub record RegionsMatch (code : List Instr) : Type 0 where
  pub onward : (pc : ℕ) (i : Instr) → slice_get code pc ≡ Some i → i.op ≢ op.Atomb → i.op ≢ op.Atome
      → is_inside code (pc + 1) ≡ is_inside code pc
  pub opens : (pc : ℕ) (i : Instr) → slice_get code pc ≡ Some i → i.op ≡ op.Atomb
      → is_inside code (pc + 1) ≡ true
  pub closes : (pc : ℕ) (i : Instr) → slice_get code pc ≡ Some i → i.op ≡ op.Atome
      → is_inside code pc ≡ true
  pub leaves : (pc : ℕ) (i : Instr) → slice_get code pc ≡ Some i → i.op ≡ op.Atome
      → is_inside code (pc + 1) ≡ false
  pub jump : (pc : ℕ) (i : Instr) → slice_get code pc ≡ Some i → is_target (form_of i.op).x ≡ true
      → is_inside code i.x ≡ is_inside code pc
  pub ends : (pc : ℕ) (i : Instr) → slice_get code pc ≡ Some i → i.op ≡ op.Ret
      → is_inside code pc ≡ false
  pub outside : (pc : ℕ) (i : Instr) → slice_get code pc ≡ Some i → is_kept_out i.op ≡ true
      → is_inside code pc ≡ false

-- so it is in a function whose structure holds
abbrev pub StructuredKeeps : Type 0
StructuredKeeps = (loops : ℕ) (code : List Instr) → IsStructured loops code → RegionsMatch code
