-- What a check's verdict says.
use Rattle.std.specs.Prelude.{◌≡◌, Bool, true, false, ℕ, List, Option, Some, None, Ok, Err}
use Rattle.x10_asm.specs.Reading.{module_of}
use Rattle.x10_explain.specs.declared.check.CheckFault.{CheckFault}
use Rattle.x10_explain.specs.declared.check.CheckFault.TheVariants as refusal
use Rattle.x10_image.specs.Faults.{named, IsFault}
use Rattle.x10_model.specs.Images.{spelling}
use Rattle.x10_model.specs.Modules.{Module, FitsImage}
use Rattle.x10_model.specs.ReadingImages.{module_at}
use Rattle.x10_model.specs.Verified.{IsVerified}
use Rattle.x10_verify.specs.Faults.{Refutes}

-- a module that has an image and is verified, with the bounds of its functions
pub record IsGood (m : Module) : Type 0 where
  pub bounds : List ℕ
  pub fits : FitsImage m
  pub verified : IsVerified m bounds

-- the bytes are the image of a verified module
abbrev pub IsVerifiedImage : List ℕ → Type 0
IsVerifiedImage bytes = (m : Module) × (bytes ≡ spelling m) × IsGood m

-- the text spells a verified module
abbrev pub IsVerifiedText : List ℕ → Type 0
IsVerifiedText text = (m : Module) × (module_of text ≡ Ok m) × IsGood m

-- why bytes aren't the image of a verified module: reading them gives the fault, or the verifier refutes the module
abbrev pub RefusesImage : List ℕ → CheckFault → Type 0
RefusesImage bytes (refusal.Asm f) = ⊥
RefusesImage bytes (refusal.Image f) = IsFault (named f) (module_at bytes)
RefusesImage bytes (refusal.Verify f) = (m : Module) × FitsImage m × (bytes ≡ spelling m)
    × Refutes m f

-- why a text doesn't spell a verified module: reading it gives the fault, or the verifier refutes the module
abbrev pub RefusesText : List ℕ → CheckFault → Type 0
RefusesText text (refusal.Asm f) = module_of text ≡ Err f
RefusesText text (refusal.Image f) = ⊥
RefusesText text (refusal.Verify f) = (m : Module) × (module_of text ≡ Ok m) × FitsImage m
    × Refutes m f

-- a report has a refusal exactly where it doesn't say that the module is verified
abbrev pub Reports : Bool → Option CheckFault → (CheckFault → Type 0) → Type 0
Reports verified None refuses = verified ≡ true
Reports verified (Some r) refuses = (verified ≡ false) × refuses r
