-- Parts of a module by their numbers.
use Rattle.std.proofs.Common.{◌≡◌, ℕ, Option, Some, None}
use Rattle.std.specs.Prelude.{slice_get}
use Rattle.x10_code.specs.declared.instr.Instr.{Instr}
use Rattle.x10_model.specs.Modules.{Function}
use Rattle.x10_model.specs.Ranges.{instr_in}
use Rattle.x10_image.specs.Parts.{code_in}

pub instr_reached : (f : Option Function) (pc : ℕ) (i : Instr) → instr_in f pc ≡ Some i → slice_get (code_in f) pc ≡ Some i
instr_reached None pc i h = cc
instr_reached (Some f) pc i h = h
