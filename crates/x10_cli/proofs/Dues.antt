-- Which fault is due.
use Rattle.std.proofs.Common.{◌≡◌, ℕ, Bool, true, false, List, Option, Some, None, Ok, Err, refl, sym, ap, subst, ◌∙◌, inl, inr}
use Rattle.std.proofs.lemmas.Option.{same_Some}
use Rattle.std.specs.Prelude.{◌≢◌, ◌⊎◌}
use Rattle.x10_model.specs.Modules.{Module}
use Rattle.x10_model.specs.ReadingImages.{module_at}
use Rattle.x10_model.specs.Structure.{bounds_of}
use Rattle.x10_asm.specs.Reading.{module_of}
use Rattle.x10_asm.specs.declared.fault.AsmCause.{AsmCause}
use Rattle.x10_asm.specs.declared.fault.AsmCause.TheVariants as asm
use Rattle.x10_asm.specs.declared.fault.AsmFault.{AsmFault}
use Rattle.x10_image.specs.Faults as images
use Rattle.x10_image.specs.declared.fault.ImageFault.{ImageFault}
use Rattle.x10_image.specs.declared.fault.ImageFault.TheVariants as image
use Rattle.x10_bounds.specs.Faults as bounds
use Rattle.x10_bounds.specs.declared.fault.BoundCause.{BoundCause}
use Rattle.x10_bounds.specs.declared.fault.BoundCause.TheVariants as bound
use Rattle.x10_bounds.specs.declared.fault.BoundFault.{BoundFault}
use Rattle.x10_explain.specs.declared.check.CheckFault.{CheckFault}
use Rattle.x10_explain.specs.declared.check.CheckFault.TheVariants as refusal
use Rattle.x10_explain.specs.Verdicts.{Reports}
use Rattle.x10_kinds.specs.declared.stop.Stop.{Stop}
use Rattle.x10_kinds.specs.declared.stop.Stop.TheVariants as stop
use Rattle.x10_verify.specs.Certified.{Certified}
use Rattle.x10_verify.specs.Faults.{Refutes}
use Rattle.x10_verify.specs.declared.fault.VerifyCause.{VerifyCause}
use Rattle.x10_verify.specs.declared.fault.VerifyCause.TheVariants as verify
use Rattle.x10_verify.specs.declared.fault.VerifyFault.{VerifyFault}
use Rattle.x10_workers.specs.declared.halt.WorkFault.{WorkFault}
use Rattle.x10_workers.specs.declared.halt.WorkFault.TheVariants as work
use Rattle.x10_world.specs.Endings.{IsImageOf}
use Rattle.x10_world.specs.Opening.{IsForbidden}
use Rattle.x10_world.specs.declared.fault.OpenFault.{OpenFault}
use Rattle.x10_world.specs.declared.fault.OpenFault.TheVariants as opened
use Rattle.x10_world.specs.declared.rounds.Unfinished.{Unfinished}
use Rattle.x10_world.specs.declared.rounds.Unfinished.TheVariants as halt
use Rattle.x10_cli.specs.declared.fault.Fault.{Fault}
use Rattle.x10_cli.specs.Answers.{IsImage, IsDue, IsOfModule, begins_as_image, places_for, of_asm, of_image, of_verify, of_bounds, of_open, of_stop, of_halt, of_work, of_refusal, RefusesFile}

kind_of_image : (f : ImageFault) → IsOfModule (of_image f)
kind_of_image image.Memory = tt
kind_of_image image.Short = tt
kind_of_image _ = tt

pub image_kind : (f : ImageFault) (told : Fault) → told ≡ of_image f → IsOfModule told
image_kind f told e = subst IsOfModule (sym e) (kind_of_image f)

kind_of_verify : (c : VerifyCause) (f : VerifyFault) → IsOfModule (of_verify c f)
kind_of_verify verify.Memory f = tt
kind_of_verify verify.Index f = tt
kind_of_verify _ f = tt

pub verify_kind : (f : VerifyFault) (told : Fault) → told ≡ of_verify f.cause f → IsOfModule told
verify_kind f told e = subst IsOfModule (sym e) (kind_of_verify f.cause f)

text_by : (asked : Option ℕ) (bytes : List ℕ) (c : AsmCause) (f : AsmFault) → (c ≢ asm.Memory → module_of bytes ≡ Err f)
    → IsDue asked bytes (of_asm c f)
text_by asked bytes asm.Memory f h = tt
text_by asked bytes asm.Word f h = h (λ e. cc)
text_by asked bytes _ f h = h (λ e. cc)

pub due_text : (asked : Option ℕ) (bytes : List ℕ) (f : AsmFault) (told : Fault) → (f.cause ≢ asm.Memory → module_of bytes ≡ Err f)
    → told ≡ of_asm f.cause f → IsDue asked bytes told
due_text asked bytes f told h e = subst (IsDue asked bytes) (sym e) (text_by asked bytes f.cause f h)

image_by : (asked : Option ℕ) (bytes : List ℕ) (f : ImageFault) → images.IsFaultOrMemory (images.named f) (module_at bytes)
    → IsDue asked bytes (of_image f)
image_by asked bytes image.Memory h = tt
image_by asked bytes image.Short h = h
image_by asked bytes _ h = h

pub due_image : (asked : Option ℕ) (bytes : List ℕ) (f : ImageFault) (told : Fault) → images.IsFaultOrMemory (images.named f) (module_at bytes)
    → told ≡ of_image f → IsDue asked bytes told
due_image asked bytes f told h e = subst (IsDue asked bytes) (sym e) (image_by asked bytes f h)

module_by : (asked : Option ℕ) (bytes : List ℕ) (m : Module) (c : VerifyCause) (f : VerifyFault)
    → (IsImage bytes m) ⊎ ((begins_as_image bytes ≡ false) × (module_of bytes ≡ Ok m)) → Refutes m f → IsDue asked bytes (of_verify c f)
module_by asked bytes m verify.Memory f is r = tt
module_by asked bytes m verify.Index f is r = (m, is, r)
module_by asked bytes m _ f is r = (m, is, r)

pub due_module : (asked : Option ℕ) (bytes : List ℕ) (m : Module) (f : VerifyFault) (told : Fault) → IsImage bytes m → Refutes m f
    → told ≡ of_verify f.cause f → IsDue asked bytes told
due_module asked bytes m f told is r e = subst (IsDue asked bytes) (sym e) (module_by asked bytes m f.cause f (inl is) r)

bounds_by : (asked : Option ℕ) (bytes : List ℕ) (m : Module) (c : BoundCause) (f : BoundFault) → IsImage bytes m
    → bounds.IsFaultOrMemory (bounds.named f.cause) f (bounds_of m) → IsDue asked bytes (of_bounds c f)
bounds_by asked bytes m bound.Memory f is h = tt
bounds_by asked bytes m bound.Jump f is h = (m, is, h)
bounds_by asked bytes m _ f is h = (m, is, h)

pub due_bounds : (asked : Option ℕ) (bytes : List ℕ) (m : Module) (f : BoundFault) (told : Fault) → IsImage bytes m
    → bounds.IsFaultOrMemory (bounds.named f.cause) f (bounds_of m) → told ≡ of_bounds f.cause f → IsDue asked bytes told
due_bounds asked bytes m f told is h e = subst (IsDue asked bytes) (sym e) (bounds_by asked bytes m f.cause f is h)

open_by : (asked : Option ℕ) (bytes : List ℕ) (c : Certified) (f : OpenFault) → IsImageOf bytes c
    → (f ≡ opened.Places → IsForbidden c (places_for asked c)) → IsDue asked bytes (of_open f)
open_by asked bytes c opened.Places is h = (c, is, h refl)
open_by asked bytes c opened.Memory is h = tt

pub due_open : (asked : Option ℕ) (bytes : List ℕ) (c : Certified) (n : ℕ) (f : OpenFault) (told : Fault) → IsImageOf bytes c
    → (f ≡ opened.Places → IsForbidden c n) → n ≡ places_for asked c → told ≡ of_open f → IsDue asked bytes told
due_open asked bytes c n f told is h en e = subst (IsDue asked bytes) (sym e) (open_by asked bytes c f is (λ x. subst (IsForbidden c) en (h x)))

stop_by : (asked : Option ℕ) (bytes : List ℕ) (why : Stop) → IsDue asked bytes (of_stop why)
stop_by asked bytes (stop.Limit limit) = tt
stop_by asked bytes stop.Memory = tt
stop_by asked bytes stop.Stopped = tt

pub due_stop : (asked : Option ℕ) (bytes : List ℕ) (why : Stop) (told : Fault) → told ≡ of_stop why → IsDue asked bytes told
due_stop asked bytes why told e = subst (IsDue asked bytes) (sym e) (stop_by asked bytes why)

halt_by : (asked : Option ℕ) (bytes : List ℕ) (why : Unfinished) → IsDue asked bytes (of_halt why)
halt_by asked bytes (halt.Stop why) = stop_by asked bytes why
halt_by asked bytes halt.Limit = tt
halt_by asked bytes halt.Memory = tt

pub due_halt : (asked : Option ℕ) (bytes : List ℕ) (why : Unfinished) (told : Fault) → told ≡ of_halt why → IsDue asked bytes told
due_halt asked bytes why told e = subst (IsDue asked bytes) (sym e) (halt_by asked bytes why)

work_by : (asked : Option ℕ) (bytes : List ℕ) (c : Certified) (f : WorkFault) → IsImageOf bytes c
    → (f ≡ work.Places → IsForbidden c (places_for asked c)) → IsDue asked bytes (of_work f)
work_by asked bytes c (work.Stop place why report) is h = stop_by asked bytes why
work_by asked bytes c (work.Turns report) is h = tt
work_by asked bytes c (work.Refused place why) is h = tt
work_by asked bytes c (work.Differs turn) is h = tt
work_by asked bytes c work.Memory is h = tt
work_by asked bytes c work.Places is h = (c, is, h refl)
work_by asked bytes c work.Thread is h = tt

pub due_work : (asked : Option ℕ) (bytes : List ℕ) (c : Certified) (n : ℕ) (f : WorkFault) (told : Fault) → IsImageOf bytes c
    → (f ≡ work.Places → IsForbidden c n) → n ≡ places_for asked c → told ≡ of_work f → IsDue asked bytes told
due_work asked bytes c n f told is h en e = subst (IsDue asked bytes) (sym e) (work_by asked bytes c f is (λ x. subst (IsForbidden c) en (h x)))

lenient : (f : ImageFault) (bytes : List ℕ) → images.IsFault (images.named f) (module_at bytes)
    → images.IsFaultOrMemory (images.named f) (module_at bytes)
lenient image.Memory bytes h = tt
lenient image.Short bytes h = h
lenient _ bytes h = h

refusal_by : (asked : Option ℕ) (bytes : List ℕ) (b : Bool) (r : CheckFault) → begins_as_image bytes ≡ b → RefusesFile b bytes r
    → IsDue asked bytes (of_refusal r)
refusal_by asked bytes true (refusal.Asm f) e h = absurd h
refusal_by asked bytes true (refusal.Image f) e h = image_by asked bytes f (lenient f bytes h)
refusal_by asked bytes true (refusal.Verify f) e h = module_by asked bytes h.0 f.cause f (inl (record { fits = h.1; spelled = h.2 })) h.3
refusal_by asked bytes false (refusal.Asm f) e h = text_by asked bytes f.cause f (λ _. h)
refusal_by asked bytes false (refusal.Image f) e h = absurd h
refusal_by asked bytes false (refusal.Verify f) e h = module_by asked bytes h.0 f.cause f (inr (e, h.1)) h.3

pub due_refusal : (asked : Option ℕ) (bytes : List ℕ) (r : CheckFault) (told : Fault) → RefusesFile (begins_as_image bytes) bytes r
    → told ≡ of_refusal r → IsDue asked bytes told
due_refusal asked bytes r told h e = subst (IsDue asked bytes) (sym e) (refusal_by asked bytes (begins_as_image bytes) r refl h)

pub due_reported : (asked : Option ℕ) (bytes : List ℕ) (verified : Bool) (found : Option CheckFault) (r : CheckFault) (told : Fault)
    → Reports verified found (RefusesFile (begins_as_image bytes) bytes) → found ≡ Some r → told ≡ of_refusal r → IsDue asked bytes told
due_reported asked bytes verified None r told h is e = absurd cc
due_reported asked bytes verified (Some q) r told h is e = due_refusal asked bytes q told h.1 (e ∙ ap of_refusal (same_Some r q (sym is)))
