-- The fault that a fault's numbers stand for has the same line.
use Rattle.std.proofs.Common.{◌≡◌, ℕ, Some, refl, sym, ap, ◌∙◌}
use Rattle.std.proofs.lemmas.Option.{same_Some}
use Rattle.x10_kinds.specs.declared.limit.Limit.{Limit}
use Rattle.x10_kinds.specs.declared.limit.Limit.TheVariants as limits
use Rattle.x10_asm.specs.declared.fault.AsmCause.{AsmCause}
use Rattle.x10_asm.specs.declared.fault.AsmCause.TheVariants as asm
use Rattle.x10_image.specs.declared.fault.ImageFault.{ImageFault}
use Rattle.x10_image.specs.declared.fault.ImageFault.TheVariants as image
use Rattle.x10_bounds.specs.declared.fault.BoundCause.{BoundCause}
use Rattle.x10_bounds.specs.declared.fault.BoundCause.TheVariants as bound
use Rattle.x10_verify.specs.declared.fault.VerifyCause.{VerifyCause}
use Rattle.x10_verify.specs.declared.fault.VerifyCause.TheVariants as verify
use Rattle.x10_frame.specs.declared.fault.FrameFault.{FrameFault}
use Rattle.x10_frame.specs.declared.fault.FrameFault.TheVariants as frame
use Rattle.x10_log.specs.declared.fault.LogCause.{LogCause}
use Rattle.x10_log.specs.declared.fault.LogCause.TheVariants as log
use Rattle.x10_cli.specs.declared.fault.Fault.{Fault}
use Rattle.x10_cli.specs.declared.fault.Fault.TheVariants as fault
use Rattle.x10_cli.specs.Telling.{fault_line}
use Rattle.x10_c.specs.declared.numbers.FaultNumbers.{FaultNumbers}
use Rattle.x10_c.specs.Numbers.{numbers_of, fault_of}

abbrev Back : Fault → Type 0
Back f = (g : Fault) × (fault_of (numbers_of f) ≡ Some g) × (fault_line g ≡ fault_line f)

of_asm : (line : ℕ) (c : AsmCause) → Back (fault.Asm (record { line = line; cause = c }))
of_asm line asm.Word = (_, refl, refl)
of_asm line asm.Number = (_, refl, refl)
of_asm line asm.Count = (_, refl, refl)
of_asm line asm.Order = (_, refl, refl)
of_asm line asm.Label = (_, refl, refl)
of_asm line asm.Text = (_, refl, refl)
of_asm line asm.Limit = (_, refl, refl)
of_asm line asm.Entry = (_, refl, refl)
of_asm line asm.Memory = (_, refl, refl)

of_image : (f : ImageFault) → Back (fault.Image f)
of_image image.Short = (_, refl, refl)
of_image image.Magic = (_, refl, refl)
of_image image.Version = (_, refl, refl)
of_image image.Count = (_, refl, refl)
of_image image.Kind = (_, refl, refl)
of_image image.Text = (_, refl, refl)
of_image image.Trailing = (_, refl, refl)
of_image image.Reserved = (_, refl, refl)
of_image image.Entry = (_, refl, refl)
of_image (image.Code f pc) = (_, refl, refl)
of_image image.Memory = (_, refl, refl)

of_bounds : (c : BoundCause) (f pc : ℕ) → Back (fault.Bounds (record { cause = c; function = f; pc = pc }))
of_bounds bound.Nesting f pc = (_, refl, refl)
of_bounds bound.Jump f pc = (_, refl, refl)
of_bounds bound.LoopSlot f pc = (_, refl, refl)
of_bounds bound.CallOrder f pc = (_, refl, refl)
of_bounds bound.Atomic f pc = (_, refl, refl)
of_bounds bound.TooLarge f pc = (_, refl, refl)
of_bounds bound.Memory f pc = (_, refl, refl)

of_verify : (c : VerifyCause) (f pc : ℕ) → Back (fault.Verify (record { cause = c; function = f; pc = pc }))
of_verify (verify.Structure bound.Nesting) f pc = (_, refl, refl)
of_verify (verify.Structure bound.Jump) f pc = (_, refl, refl)
of_verify (verify.Structure bound.LoopSlot) f pc = (_, refl, refl)
of_verify (verify.Structure bound.CallOrder) f pc = (_, refl, refl)
of_verify (verify.Structure bound.Atomic) f pc = (_, refl, refl)
of_verify (verify.Structure bound.TooLarge) f pc = (_, refl, refl)
of_verify (verify.Structure bound.Memory) f pc = (_, refl, refl)
of_verify verify.Index f pc = (_, refl, refl)
of_verify verify.Unset f pc = (_, refl, refl)
of_verify verify.Kind f pc = (_, refl, refl)
of_verify verify.Home f pc = (_, refl, refl)
of_verify verify.Result f pc = (_, refl, refl)
of_verify verify.Memory f pc = (_, refl, refl)

of_limit : (l : Limit) → Back (fault.StopLimit l)
of_limit limits.Objects = (_, refl, refl)
of_limit limits.Texts = (_, refl, refl)
of_limit limits.Rails = (_, refl, refl)
of_limit limits.References = (_, refl, refl)
of_limit limits.Finishes = (_, refl, refl)
of_limit limits.Activities = (_, refl, refl)
of_limit limits.FrameObjects = (_, refl, refl)
of_limit limits.FrameTexts = (_, refl, refl)
of_limit limits.FrameRails = (_, refl, refl)
of_limit limits.Keys = (_, refl, refl)
of_limit limits.Frames = (_, refl, refl)

of_log : (line : ℕ) (c : LogCause) → Back (fault.Log (record { line = line; cause = c }))
of_log line log.Head = (_, refl, refl)
of_log line log.Place = (_, refl, refl)
of_log line log.Taken = (_, refl, refl)
of_log line log.Key = (_, refl, refl)
of_log line log.Frame = (_, refl, refl)
of_log line log.Printed = (_, refl, refl)
of_log line log.Count = (_, refl, refl)
of_log line log.Spelling = (_, refl, refl)
of_log line log.Ending = (_, refl, refl)
of_log line log.Memory = (_, refl, refl)

of_frame : (f : FrameFault) → Back (fault.Frame f)
of_frame frame.Short = (_, refl, refl)
of_frame frame.Version = (_, refl, refl)
of_frame frame.FrameType = (_, refl, refl)
of_frame frame.Place = (_, refl, refl)
of_frame frame.Tag = (_, refl, refl)
of_frame frame.Text = (_, refl, refl)
of_frame frame.Order = (_, refl, refl)
of_frame frame.Trailing = (_, refl, refl)
of_frame frame.Memory = (_, refl, refl)

back : (f : Fault) → Back f
back (fault.Asm f) = of_asm f.line f.cause
back (fault.Image f) = of_image f
back (fault.Verify f) = of_verify f.cause f.function f.pc
back (fault.Bounds f) = of_bounds f.cause f.function f.pc
back fault.Places = (_, refl, refl)
back fault.Memory = (_, refl, refl)
back fault.StopMemory = (_, refl, refl)
back (fault.StopLimit l) = of_limit l
back fault.Limit = (_, refl, refl)
back fault.Turns = (_, refl, refl)
back (fault.Refused p) = (_, refl, refl)
back (fault.Differs t) = (_, refl, refl)
back fault.Thread = (_, refl, refl)
back fault.File = (_, refl, refl)
back (fault.Log f) = of_log f.line f.cause
back fault.LogImage = (_, refl, refl)
back (fault.LogDiffers t) = (_, refl, refl)
back fault.LogOpen = (_, refl, refl)
back (fault.Frame f) = of_frame f

-- the line of the fault that numbers stand for is that of each fault with these numbers
pub same_line : (f g : Fault) (n : FaultNumbers) → numbers_of f ≡ n → fault_of n ≡ Some g → fault_line g ≡ fault_line f
same_line f g n is found = let b = back f in
    ap fault_line (same_Some g b.0 (sym found ∙ sym (ap fault_of is) ∙ b.1)) ∙ b.2
