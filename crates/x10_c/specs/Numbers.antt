-- The numbers that stand for a fault.
use Rattle.std.specs.Prelude.{◌==◌, ℕ, List, [], ◌∷◌, Option, Some, None, find, map, if◌then◌else◌}
use Rattle.x10_kinds.specs.Limits.{number_of}
use Rattle.x10_kinds.specs.declared.limit.Limit.{Limit}
use Rattle.x10_kinds.specs.declared.limit.Limit.TheVariants as limits
use Rattle.x10_asm.specs.declared.fault.AsmCause.{AsmCause}
use Rattle.x10_asm.specs.declared.fault.AsmCause.TheVariants as asm
use Rattle.x10_image.specs.declared.fault.ImageFault.{ImageFault}
use Rattle.x10_image.specs.declared.fault.ImageFault.TheVariants as image
use Rattle.x10_bounds.specs.declared.fault.BoundCause.{BoundCause}
use Rattle.x10_bounds.specs.declared.fault.BoundCause.TheVariants as bound
use Rattle.x10_verify.specs.declared.fault.VerifyCause.{VerifyCause}
use Rattle.x10_verify.specs.declared.fault.VerifyCause.TheVariants as verify
use Rattle.x10_frame.specs.declared.fault.FrameFault.{FrameFault}
use Rattle.x10_frame.specs.declared.fault.FrameFault.TheVariants as frame
use Rattle.x10_log.specs.declared.fault.LogCause.{LogCause}
use Rattle.x10_log.specs.declared.fault.LogCause.TheVariants as log
use Rattle.x10_cli.specs.declared.fault.Fault.{Fault}
use Rattle.x10_cli.specs.declared.fault.Fault.TheVariants as fault
use Rattle.x10_c.specs.declared.numbers.FaultNumbers.{FaultNumbers}

-- ---- a number for each cause

abbrev pub asm_kind : AsmCause → ℕ
asm_kind asm.Word = 101
asm_kind asm.Number = 102
asm_kind asm.Count = 103
asm_kind asm.Order = 104
asm_kind asm.Label = 105
asm_kind asm.Text = 106
asm_kind asm.Limit = 107
asm_kind asm.Entry = 108
asm_kind asm.Memory = 109

abbrev pub image_kind : ImageFault → ℕ
image_kind image.Short = 201
image_kind image.Magic = 202
image_kind image.Version = 203
image_kind image.Count = 204
image_kind image.Kind = 205
image_kind image.Text = 206
image_kind image.Trailing = 207
image_kind image.Reserved = 208
image_kind image.Entry = 209
image_kind (image.Code f pc) = 210
image_kind image.Memory = 211

abbrev pub structure_kind : BoundCause → ℕ
structure_kind bound.Nesting = 301
structure_kind bound.Jump = 302
structure_kind bound.LoopSlot = 303
structure_kind bound.CallOrder = 304
structure_kind bound.Atomic = 305
structure_kind bound.TooLarge = 306
structure_kind bound.Memory = 307

abbrev pub verify_kind : VerifyCause → ℕ
verify_kind (verify.Structure c) = structure_kind c
verify_kind verify.Index = 401
verify_kind verify.Unset = 402
verify_kind verify.Kind = 403
verify_kind verify.Home = 404
verify_kind verify.Result = 405
verify_kind verify.Memory = 406

abbrev pub log_kind : LogCause → ℕ
log_kind log.Head = 801
log_kind log.Place = 802
log_kind log.Taken = 803
log_kind log.Key = 804
log_kind log.Frame = 805
log_kind log.Printed = 806
log_kind log.Count = 807
log_kind log.Spelling = 808
log_kind log.Ending = 809
log_kind log.Memory = 810

abbrev pub frame_kind : FrameFault → ℕ
frame_kind frame.Short = 901
frame_kind frame.Version = 902
frame_kind frame.FrameType = 903
frame_kind frame.Place = 904
frame_kind frame.Tag = 905
frame_kind frame.Text = 906
frame_kind frame.Order = 907
frame_kind frame.Trailing = 908
frame_kind frame.Memory = 909

-- ---- the numbers of a fault

abbrev pub plain : ℕ → FaultNumbers
plain kind = record { kind = kind; function = 0; pc = 0; at = 0 }

abbrev pub counted : ℕ → ℕ → FaultNumbers
counted kind at = record { kind = kind; function = 0; pc = 0; at = at }

abbrev pub placed : ℕ → ℕ → ℕ → FaultNumbers
placed kind f pc = record { kind = kind; function = f; pc = pc; at = 0 }

abbrev pub no_fault : FaultNumbers
no_fault = plain 0

abbrev pub of_image : ImageFault → FaultNumbers
of_image (image.Code f pc) = placed 210 f pc
of_image f = plain (image_kind f)

abbrev pub numbers_of : Fault → FaultNumbers
numbers_of (fault.Asm f) = counted (asm_kind f.cause) f.line
numbers_of (fault.Image f) = of_image f
numbers_of (fault.Verify f) = placed (verify_kind f.cause) f.function f.pc
numbers_of (fault.Bounds f) = placed (structure_kind f.cause) f.function f.pc
numbers_of fault.Places = plain 501
numbers_of fault.Memory = plain 601
numbers_of fault.StopMemory = plain 602
numbers_of (fault.StopLimit limit) = counted 603 (number_of limit)
numbers_of fault.Limit = plain 604
numbers_of fault.Turns = plain 605
numbers_of (fault.Refused place) = placed 606 place 0
numbers_of (fault.Differs turn) = counted 607 turn
numbers_of fault.Thread = plain 608
numbers_of fault.File = plain 701
numbers_of (fault.Log f) = counted (log_kind f.cause) f.line
numbers_of fault.LogImage = plain 811
numbers_of (fault.LogDiffers turn) = counted 812 turn
numbers_of fault.LogOpen = plain 813
numbers_of (fault.Frame f) = plain (frame_kind f)

-- ---- the fault that numbers stand for

abbrev pub asm_causes : List AsmCause
asm_causes = asm.Word ∷ asm.Number ∷ asm.Count ∷ asm.Order ∷ asm.Label ∷ asm.Text ∷ asm.Limit
    ∷ asm.Entry ∷ asm.Memory ∷ []

abbrev pub image_faults : ℕ → ℕ → List ImageFault
image_faults f pc = image.Short ∷ image.Magic ∷ image.Version ∷ image.Count ∷ image.Kind
    ∷ image.Text ∷ image.Trailing ∷ image.Reserved ∷ image.Entry ∷ image.Code f pc
    ∷ image.Memory ∷ []

abbrev pub verify_causes : List VerifyCause
verify_causes = verify.Structure bound.Nesting ∷ verify.Structure bound.Jump
    ∷ verify.Structure bound.LoopSlot ∷ verify.Structure bound.CallOrder
    ∷ verify.Structure bound.Atomic ∷ verify.Structure bound.TooLarge
    ∷ verify.Structure bound.Memory ∷ verify.Index ∷ verify.Unset ∷ verify.Kind ∷ verify.Home
    ∷ verify.Result ∷ verify.Memory ∷ []

abbrev pub limits_all : List Limit
limits_all = limits.Objects ∷ limits.Texts ∷ limits.Rails ∷ limits.References ∷ limits.Finishes
    ∷ limits.Activities ∷ limits.FrameObjects ∷ limits.FrameTexts ∷ limits.FrameRails
    ∷ limits.Keys ∷ limits.Frames ∷ []

abbrev pub frame_faults : List FrameFault
frame_faults = frame.Short ∷ frame.Version ∷ frame.FrameType ∷ frame.Place ∷ frame.Tag
    ∷ frame.Text ∷ frame.Order ∷ frame.Trailing ∷ frame.Memory ∷ []

abbrev pub asm_of : ℕ → Option AsmCause
asm_of n = find (λ c. asm_kind c == n) asm_causes

abbrev pub image_of : ℕ → ℕ → ℕ → Option ImageFault
image_of n f pc = find (λ x. image_kind x == n) (image_faults f pc)

abbrev pub verify_of : ℕ → Option VerifyCause
verify_of n = find (λ c. verify_kind c == n) verify_causes

abbrev pub frame_of : ℕ → Option FrameFault
frame_of n = find (λ f. frame_kind f == n) frame_faults

abbrev pub limit_of : ℕ → Option Limit
limit_of n = find (λ l. number_of l == n) limits_all

abbrev pub if_limit : Option Limit → Option Fault
if_limit None = None
if_limit (Some limit) = Some (fault.StopLimit limit)

abbrev pub if_frame : Option FrameFault → Option Fault
if_frame None = None
if_frame (Some f) = Some (fault.Frame f)

-- those of a log, at a line of it
abbrev pub logs : ℕ → List Fault
logs line = map (λ c. fault.Log (record { line = line; cause = c }))
    (log.Head ∷ log.Place ∷ log.Taken ∷ log.Key ∷ log.Frame ∷ log.Printed ∷ log.Count
    ∷ log.Spelling ∷ log.Ending ∷ log.Memory ∷ [])

-- those from 501 on, but for a frame's
abbrev pub others : FaultNumbers → List Fault
others n = fault.Places ∷ fault.Memory ∷ fault.StopMemory ∷ fault.Limit ∷ fault.Turns
    ∷ fault.Refused n.function ∷ fault.Differs n.at ∷ fault.Thread ∷ fault.File ∷ fault.LogImage
    ∷ fault.LogDiffers n.at ∷ fault.LogOpen ∷ logs n.at

abbrev pub kind_of : Fault → ℕ
kind_of f = (numbers_of f).kind

abbrev pub or_frame : ℕ → Option Fault → Option Fault
or_frame kind None = if_frame (frame_of kind)
or_frame kind (Some f) = Some f

abbrev pub other_of : FaultNumbers → Option Fault
other_of n = if n.kind == 603 then if_limit (limit_of n.at)
    else or_frame n.kind (find (λ f. kind_of f == n.kind) (others n))

abbrev pub if_verify : FaultNumbers → Option VerifyCause → Option Fault
if_verify n None = other_of n
if_verify n (Some c) = Some (fault.Verify (record { cause = c; function = n.function; pc = n.pc }))

abbrev pub if_image : FaultNumbers → Option ImageFault → Option Fault
if_image n None = if_verify n (verify_of n.kind)
if_image n (Some f) = Some (fault.Image f)

abbrev pub if_asm : FaultNumbers → Option AsmCause → Option Fault
if_asm n None = if_image n (image_of n.kind n.function n.pc)
if_asm n (Some c) = Some (fault.Asm (record { line = n.at; cause = c }))

-- the fault that numbers stand for, or one with the same line; fields that a kind doesn't have may be anything
abbrev pub fault_of : FaultNumbers → Option Fault
fault_of n = if_asm n (asm_of n.kind)
