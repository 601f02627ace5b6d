-- What an exact answer says of a module that was read.
use Rattle.std.proofs.Common.{◌≡◌, ◌≢◌, ℕ, List, Result, Ok, Err, refl, ap, ◌∙◌}
use Rattle.x10_model.specs.Modules.{Module}
use Rattle.x10_model.specs.Images.{spelling}
use Rattle.x10_asm.specs.declared.fault.AsmCause.{AsmCause}
use Rattle.x10_asm.specs.declared.fault.AsmCause.TheVariants.{Word, Memory}
use Rattle.x10_asm.specs.declared.fault.AsmFault.{AsmFault}
use Rattle.x10_asm.specs.Sources.{GivesImage, IsSpelledUnlessMemory}

same_module : (read : Result Module AsmFault) (m n : Module) → read ≡ Ok m → read ≡ Ok n → m ≡ n
same_module read m n e f = cc

not_both : (read : Result Module AsmFault) (m : Module) (fault : AsmFault) → read ≡ Ok m → read ≡ Err fault → ⊥
not_both read m fault e f = cc

-- every cause but one is another
memory_or : (c : AsmCause) → ((c ≢ Memory) → ⊥) → c ≡ Memory
memory_or Memory h = refl
memory_or Word h = absurd (h (λ e. cc))
memory_or _ h = absurd (h (λ e. cc))

pub only_spelled : {X : Type 0} (bytes : X → List ℕ) (answer : Result X AsmFault) (read : Result Module AsmFault) (m : Module)
    → GivesImage bytes answer read → read ≡ Ok m → IsSpelledUnlessMemory bytes answer m
only_spelled bytes (Ok x) read m g e = g.2 ∙ ap spelling (same_module read g.0 m g.1 e)
only_spelled bytes (Err fault) read m g e = memory_or fault.cause (λ ne. not_both read m fault e (g ne))
