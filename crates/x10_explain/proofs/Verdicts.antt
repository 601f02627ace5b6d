-- Whether bytes are the image of a verified module, by what the verifier says.
use Rattle.std.proofs.Common.{◌≡◌, ℕ, Bool, true, List, Option, Some, None, Result, Ok, refl, sym, ap, subst, ◌∙◌}
use Rattle.std.specs.Prelude.{◌↔◌}
use Rattle.x10_model.specs.Images.{spelling}
use Rattle.x10_model.specs.Modules.{Module, FitsImage}
use Rattle.x10_model.specs.ReadingImages.{ImageFault, module_at}
use Rattle.x10_model.specs.Structure as structure
use Rattle.x10_model.specs.Structure.{bounds_of}
use Rattle.x10_model.specs.Verified.{IsVerified}
use Rattle.x10_model.proofs.ImageLaws.{module_again}
use Rattle.x10_asm.specs.Reading.{module_of}
use Rattle.x10_asm.specs.Sources.{IsImageOf}
use Rattle.x10_asm.specs.declared.fault.AsmFault.{AsmFault}
use Rattle.x10_bounds.specs.Faults.{named}
use Rattle.x10_verify.specs.Certified.{Certified, IsCertified}
use Rattle.x10_verify.specs.Faults.{IsStructureFault, RefutesBy, Refutes}
use Rattle.x10_verify.specs.Verdict.{IsFirstOut, IsFirstWithout}
use Rattle.x10_verify.specs.declared.fault.VerifyCause.{VerifyCause}
use Rattle.x10_verify.specs.declared.fault.VerifyCause.TheVariants as cause
use Rattle.x10_verify.specs.declared.fault.VerifyFault.{VerifyFault}
use Rattle.x10_image.specs.Faults as images
use Rattle.x10_image.specs.Faults.{IsFault, IsFaultOrMemory}
use Rattle.x10_image.specs.declared.fault.ImageFault.{ImageFault as Fault}
use Rattle.x10_image.specs.declared.fault.ImageFault.TheVariants as fault
use Rattle.x10_explain.specs.declared.check.CheckFault.{CheckFault}
use Rattle.x10_explain.specs.declared.check.CheckFault.TheVariants as refusal
use Rattle.x10_explain.specs.Verdicts.{IsGood, IsVerifiedImage, IsVerifiedText, Reports, RefusesImage, RefusesText}

abbrev answer : Module → Result Module ImageFault
answer m = Ok m

-- bytes are the image of one module
pub same_module : (m n : Module) (bytes : List ℕ) → FitsImage m → bytes ≡ spelling m → FitsImage n → bytes ≡ spelling n → m ≡ n
same_module m n bytes fm em fn en =
    let h : answer m ≡ answer n = sym (module_again m fm) ∙ ap module_at (sym em ∙ en) ∙ module_again n fn in
    cc

broken : (m : Module) (bounds : List ℕ) (c : Option structure.BoundCause) (f pc : ℕ) → IsStructureFault m c f pc → bounds_of m ≡ Ok bounds → ⊥
broken m bounds None f pc r e = r
broken m bounds (Some c) f pc r e = absurd (let h = sym r ∙ e in cc)

out_of_range : (m : Module) (bounds : List ℕ) (f pc : ℕ) → IsFirstOut m f pc → IsVerified m bounds → ⊥
out_of_range m bounds f pc out v = out.out.out (v.in_range f pc out.function out.out.instr out.is_function out.out.is_instr)

without : (m : Module) (bounds : List ℕ) (f : ℕ) → IsFirstWithout m f → IsVerified m bounds → ⊥
without m bounds f out v = out.without (v.assignments f out.function out.is_function)

not_by : (m : Module) (bounds : List ℕ) (c : VerifyCause) (f pc : ℕ) → RefutesBy c m f pc → (c ≡ cause.Memory → ⊥) → IsVerified m bounds → ⊥
not_by m bounds (cause.Structure c) f pc r other v = broken m bounds (named c) f pc r v.bounds_are
not_by m bounds cause.Index f pc r other v = out_of_range m bounds f pc r.1 v
not_by m bounds cause.Unset f pc r other v = without m bounds f r.2 v
not_by m bounds cause.Kind f pc r other v = without m bounds f r.2 v
not_by m bounds cause.Home f pc r other v = without m bounds f r.2 v
not_by m bounds cause.Result f pc r other v = without m bounds f r.2 v
not_by m bounds cause.Memory f pc r other v = other refl

-- what the verifier refutes isn't the image of a verified module
pub not_verified : (bytes : List ℕ) (m : Module) (f : VerifyFault) → FitsImage m → bytes ≡ spelling m → Refutes m f → (f.cause ≡ cause.Memory → ⊥)
    → IsVerifiedImage bytes → ⊥
not_verified bytes m f fits spelled r other (n, is, good) =
    let same = same_module n m bytes good.fits is fits spelled in
    not_by m good.bounds f.cause f.function f.pc r other (subst (λ k. IsVerified k good.bounds) same good.verified)

-- what it accepts is
pub is_verified : (bytes : List ℕ) (m : Module) (c : Certified) → bytes ≡ spelling m → c.program ≡ m → IsCertified c → IsVerifiedImage bytes
is_verified bytes m c spelled same is = (
  c.program,
  spelled ∙ ap spelling (sym same),
  record { bounds = c.bounds; fits = is.fits; verified = is.verified },
)

-- ---- of a text

abbrev read_as : Module → Result Module AsmFault
read_as m = Ok m

pub text_verdict : (text items slice : List ℕ) (b : Bool) → slice ≡ items → IsImageOf items (module_of text) → (b ≡ true ↔ IsVerifiedImage slice)
    → (b ≡ true ↔ IsVerifiedText text)
text_verdict text items slice b same (m, fits, read, spelled) h = (
  λ is. (let v = h.0 is in (m, read, subst IsGood (same_module v.0 m items v.2.fits (sym same ∙ v.1) fits spelled) v.2)),
  λ v. (
      let e : read_as m ≡ read_as v.0 = sym read ∙ v.1 in
      let one : v.0 ≡ m = cc in
      h.1 (m, same ∙ spelled, subst IsGood one v.2)),
)

-- ---- why not

-- every fault but one is that of reading
pub of_reading : (f : Fault) (read : Result Module ImageFault) → (f ≡ fault.Memory → ⊥) → IsFaultOrMemory (images.named f) read
    → IsFault (images.named f) read
of_reading fault.Memory read other h = other refl
of_reading fault.Short read other h = h
of_reading _ read other h = h

no_fault : (f : Option ImageFault) (read : Result Module ImageFault) (m : Module) → read ≡ Ok m → IsFault f read → ⊥
no_fault None read m e h = h
no_fault (Some f) read m e h = absurd (let c = sym h ∙ e in cc)

-- what refuses the image of a text's module refuses the text
pub text_why : (text items slice : List ℕ) (b : Bool) (r : Option CheckFault) → slice ≡ items → IsImageOf items (module_of text)
    → Reports b r (RefusesImage slice) → Reports b r (RefusesText text)
text_why text items slice b None same is h = h
text_why text items slice b (Some (refusal.Asm f)) same is h = absurd h.1
text_why text items slice b (Some (refusal.Image f)) same (m, fits, read, spelled) h =
    absurd (no_fault (images.named f) (module_at slice) m (ap module_at (same ∙ spelled) ∙ module_again m fits) h.1)
text_why text items slice b (Some (refusal.Verify f)) same (m, fits, read, spelled) h =
    let one : m ≡ h.1.0 = same_module m h.1.0 items fits spelled h.1.1 (sym same ∙ h.1.2) in
    (h.0, (h.1.0, read ∙ ap (λ (n : Module). read_as n) one, h.1.1, h.1.3))
