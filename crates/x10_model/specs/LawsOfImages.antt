-- Laws of images, and a worked example.
use Rattle.std.specs.Prelude.{◌≡◌, ℕ, pos, ◌<◌, List, [], ◌∷◌, ◌++◌, take, set, None, Ok, Err, slice_index}
use Rattle.x10_code.specs.declared.instr.Instr.{Instr}
use Rattle.x10_code.specs.declared.op.Op.{Op}
use Rattle.x10_code.specs.declared.op.Op.TheVariants as op
use Rattle.x10_model.specs.declared.version.ImageVersion.{ImageVersion}
use Rattle.x10_model.specs.declared.version.ImageVersion.TheVariants.{One, Two}
use Rattle.x10_model.specs.Modules.{Module, FitsImage}
use Rattle.x10_model.specs.Images.{spelling}
use Rattle.x10_model.specs.ReadingImages.{Short, Version, Trailing, Code, module_at}

-- what is spelled is read again
abbrev pub IsReadAgain : Type 0
IsReadAgain = (m : Module) → FitsImage m → module_at (spelling m) ≡ Ok m

-- no two modules share a spelling
abbrev pub IsOneModule : Type 0
IsOneModule = (m n : Module) → FitsImage m → FitsImage n → spelling m ≡ spelling n → m ≡ n

-- what is read has a spelling, and is spelled so
abbrev pub IsSpelledSo : Type 0
IsSpelledSo = (bytes : List ℕ) (m : Module) → ((k : ℕ) → slice_index bytes k < 256)
    → module_at bytes ≡ Ok m → FitsImage m × (bytes ≡ spelling m)

-- ---- an example

abbrev instruction : Op → ℕ → ℕ → Instr
instruction o a x = record { op = o; a = a; b = 0; c = 0; x = x }

-- prints 7, in an image of each version
abbrev pub seven : ImageVersion → Module
seven version = record {
  version = version;
  least_places = 1;
  classes = [];
  ints = pos 7 ∷ [];
  texts = [];
  functions = record {
    parameters = [];
    registers = 1;
    loops = 0;
    result = None;
    code = instruction op.Intk 0 0 ∷ instruction op.Print 0 0 ∷ instruction op.Ret 0 0 ∷ [];
  } ∷ [];
  entry = 0;
}

-- with the number of a version
abbrev pub bytes_of_seven : ℕ → List ℕ
bytes_of_seven n =
    0x58 ∷ 0x31 ∷ 0x30 ∷ 0x50 ∷ 0 ∷ n ∷ 0 ∷ 1 ∷ 0 ∷ 0 ∷ 0 ∷ 1 ∷ 0 ∷ 0 ∷ 0 ∷ 1 ∷ 0 ∷ 0 ∷ 0 ∷ 0
    ∷ 0 ∷ 0 ∷ 0 ∷ 0 ∷ 0 ∷ 0 ∷ 0 ∷ 7
    ∷ 0 ∷ 1 ∷ 0 ∷ 0 ∷ 0 ∷ 0 ∷ 0 ∷ 0 ∷ 0 ∷ 3 ∷ 0 ∷ 0
    ∷ 0x01 ∷ 0 ∷ 0 ∷ 0 ∷ 0 ∷ 0 ∷ 0 ∷ 0
    ∷ 0x0f ∷ 0 ∷ 0 ∷ 0 ∷ 0 ∷ 0 ∷ 0 ∷ 0
    ∷ 0x29 ∷ 0 ∷ 0 ∷ 0 ∷ 0 ∷ 0 ∷ 0 ∷ 0 ∷ []

abbrev pub IsSpelledSeven : Type 0
IsSpelledSeven = (spelling (seven One) ≡ bytes_of_seven 1)
    × (spelling (seven Two) ≡ bytes_of_seven 2)

abbrev pub IsReadSeven : Type 0
IsReadSeven = (module_at (bytes_of_seven 1) ≡ Ok (seven One))
    × (module_at (bytes_of_seven 2) ≡ Ok (seven Two))

-- another version
abbrev pub IsOtherVersion : Type 0
IsOtherVersion = (module_at (bytes_of_seven 0) ≡ Err Version)
    × (module_at (bytes_of_seven 3) ≡ Err Version)

-- one byte less, one more, and an operand of INTK that its form doesn't use
abbrev pub IsShort : Type 0
IsShort = module_at (take 63 (bytes_of_seven 1)) ≡ Err Short

abbrev pub IsTrailing : Type 0
IsTrailing = module_at (bytes_of_seven 1 ++ 0 ∷ []) ≡ Err Trailing

abbrev pub IsBadOperand : Type 0
IsBadOperand = module_at (set (bytes_of_seven 1) 42 1) ≡ Err (Code 0 0)
