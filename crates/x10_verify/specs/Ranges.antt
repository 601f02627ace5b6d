-- What a view's signature says of a function.
use Rattle.std.specs.Prelude.{◌≡◌, ℕ, Some}
use Rattle.x10_model.specs.Modules.{Module, Function}
use Rattle.x10_model.specs.Ranges.{function_at}
use Rattle.x10_image.specs.Parts.{Signature, signature_of}

-- the signature is that of function f
abbrev pub SaysOf : Module → ℕ → Signature → Type 0
SaysOf program f s = (function : Function) → function_at program f ≡ Some function
    → s ≡ signature_of function
