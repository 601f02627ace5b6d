use Rattle.std.proofs.Common.{◌≡◌, ◌++◌, take, flat_map, FitsSigned}
use Rattle.std.specs.List.{AllByRecursion}
use Rattle.std.specs.Int.{w64}
use Rattle.x10_model.specs.Images.{int_bytes}
use Rattle.x10_image.proofs.writing.push_ints.Given as goal

abbrev pub invariant-loop-int : goal.invariant-loop-int
invariant-loop-int l = record {
  written : l.out.items ≡ l.initial.out.items ++ flat_map int_bytes (take l.int-index l.ints);
  fit : AllByRecursion (FitsSigned w64) (take l.int-index l.ints);
}
