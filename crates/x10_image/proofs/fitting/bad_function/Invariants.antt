use Rattle.std.proofs.Common.{◌≡◌, true, take}
use Rattle.std.specs.List.{list_all}
use Rattle.x10_image.specs.Written.{instr_fits}
use Rattle.x10_image.proofs.fitting.bad_function.Given as goal

abbrev pub invariant-loop-number : goal.invariant-loop-number
invariant-loop-number l = list_all (λ f. list_all (instr_fits l.version) f.code.items) (take l.number l.functions) ≡ true
