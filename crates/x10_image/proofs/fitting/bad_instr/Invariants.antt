use Rattle.std.proofs.Common.{◌≡◌, true, take}
use Rattle.std.specs.List.{list_all}
use Rattle.x10_image.specs.Written.{instr_fits}
use Rattle.x10_image.proofs.fitting.bad_instr.Given as goal

abbrev pub invariant-loop-pc : goal.invariant-loop-pc
invariant-loop-pc l = list_all (instr_fits l.version) (take l.pc l.code) ≡ true
