-- What is left of a command that wrote to memory.
use Rattle.std.specs.Prelude.{◌≡◌, List, ℕ, [], Result, Ok, Err}
use Rattle.x10_cli.specs.declared.fault.Fault.{Fault}
use Rattle.x10_cli.specs.declared.fault.Fault.TheVariants as fault

-- a fault that is kept with what was written, or that memory was refused, and nothing
abbrev pub Keeps : Fault → List ℕ → Result Unit Fault → List ℕ → Type 0
Keeps fault.File old result new = (result ≡ Err fault.Memory) × (new ≡ [])
Keeps f old result new = (result ≡ Err f) × (new ≡ old)

abbrev pub Settles : Result Unit Fault → List ℕ → Result Unit Fault → List ℕ → Type 0
Settles (Ok u) old result new = (result ≡ Ok u) × (new ≡ old)
Settles (Err f) old result new = Keeps f old result new
