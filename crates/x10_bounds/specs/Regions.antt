-- The regions of a function: loops, finishes and atomic regions with their first and last instructions.
use Rattle.std.specs.Prelude.{◌≡◌, ℕ, ◌+◌, ◌<◌, Bool, true, false, ◌==◌, not, List, [], ◌∷◌, ◌++◌, length, drop, Option, Some, None, slice_get}
use Rattle.x10_code.specs.declared.op.Op.{Op}
use Rattle.x10_code.specs.declared.op.Op.TheVariants as op
use Rattle.x10_code.specs.declared.instr.Instr.{Instr}
use Rattle.x10_model.specs.Structure.{opener_of, around, first_failing}
use Rattle.x10_model.specs.Structure as structure
use Rattle.x10_bounds.specs.declared.region.Region.{Region}

-- the opener of the innermost region
abbrev pub first_opener : List structure.Region → Option ℕ
first_opener [] = None
first_opener (r ∷ rs) = Some (opener_of r)

-- the opener of the region that an operation closes
abbrev pub closed_by : Op → List structure.Region → Option ℕ
closed_by op.Endl rs = first_opener rs
closed_by op.Fine rs = first_opener rs
closed_by op.Atome rs = first_opener rs
closed_by _ rs = None

abbrev pub is_number : ℕ → Option ℕ → Bool
is_number n None = false
is_number n (Some m) = m == n

-- the operation opens a region
abbrev pub is_opener : Op → Bool
is_opener op.Loop = true
is_opener op.Finb = true
is_opener op.Atomb = true
is_opener _ = false

-- an instruction doesn't close the region that an opener opens
abbrev pub leaves_open : List Instr → ℕ → ℕ → Instr → Bool
leaves_open code opener pc i = not (is_number opener (closed_by i.op (around code pc)))

-- the first instruction that closes the region that an opener opens
abbrev pub closer_of : List Instr → ℕ → Option ℕ
closer_of code opener = first_failing (leaves_open code opener) 0 code

abbrev pub region : ℕ → Option ℕ → ℕ → List Region
region opener None limit = []
region opener (Some closer) limit = record { opener = opener; closer = closer; limit = limit } ∷ []

-- the region that an instruction opens
abbrev pub opened_by : List Instr → ℕ → Instr → Op → List Region
opened_by code pc i op.Loop = region pc (closer_of code pc) i.x
opened_by code pc i op.Finb = region pc (closer_of code pc) 1
opened_by code pc i op.Atomb = region pc (closer_of code pc) 1
opened_by code pc i _ = []

abbrev pub regions_from : List Instr → ℕ → List Instr → List Region
regions_from code pc [] = []
regions_from code pc (i ∷ rest) = opened_by code pc i i.op ++ regions_from code (pc + 1) rest

-- the regions by rising opener
abbrev pub regions_of : List Instr → List Region
regions_of code = regions_from code 0 code

-- one region or none
abbrev pub in_list : Option Region → List Region
in_list None = []
in_list (Some r) = r ∷ []

-- for each instruction, the first one from number n on that closes its region
pub record AreClosersFrom (code : List Instr) (n : ℕ) (closers : List (Option ℕ)) : Type 0 where
  pub count : length closers ≡ length code
  pub each : (opener : ℕ) → opener < length code
      → slice_get closers opener ≡ Some (first_failing (leaves_open code opener) n (drop n code))
