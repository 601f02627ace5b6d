use Rattle.std.proofs.Common.{◌≡◌, ◌++◌, take, flat_map}
use Rattle.x10_model.specs.Images.{class_bytes}
use Rattle.x10_image.proofs.writing.push_classes.Given as goal

abbrev pub invariant-loop-fields : goal.invariant-loop-fields
invariant-loop-fields l = l.out.items ≡ l.initial.out.items ++ flat_map (λ c. class_bytes c.items) (take l.fields-index l.classes)
