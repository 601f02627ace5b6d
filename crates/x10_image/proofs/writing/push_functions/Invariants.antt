use Rattle.std.proofs.Common.{◌≡◌, ◌++◌, take, flat_map}
use Rattle.x10_model.specs.Images.{function_bytes}
use Rattle.x10_image.specs.Written.{function_shown}
use Rattle.x10_image.proofs.writing.push_functions.Given as goal

abbrev pub invariant-loop-function : goal.invariant-loop-function
invariant-loop-function l = l.out.items ≡ l.initial.out.items ++ flat_map (λ f. function_bytes (function_shown f)) (take l.function-index l.functions)
