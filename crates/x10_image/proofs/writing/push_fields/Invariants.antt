use Rattle.std.proofs.Common.{◌≡◌, ◌++◌, take, flat_map}
use Rattle.x10_model.specs.Images.{kind_bytes}
use Rattle.x10_image.proofs.writing.push_fields.Given as goal

abbrev pub invariant-loop-kind : goal.invariant-loop-kind
invariant-loop-kind l = l.out.items ≡ l.initial.out.items ++ flat_map kind_bytes (take l.kind-index l.fields)
