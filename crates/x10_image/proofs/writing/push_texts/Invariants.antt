use Rattle.std.proofs.Common.{◌≡◌, ◌++◌, take, flat_map}
use Rattle.std.specs.String.{string_bytes}
use Rattle.x10_model.specs.Images.{text_bytes}
use Rattle.x10_image.proofs.writing.push_texts.Given as goal

abbrev pub invariant-loop-text : goal.invariant-loop-text
invariant-loop-text l = l.out.items ≡ l.initial.out.items ++ flat_map (λ t. text_bytes (string_bytes t)) (take l.text-index l.texts)
