-- What the table keeps of the regions around an instruction.
use Rattle.std.specs.Prelude.{◌≡◌, ℕ, ◌+◌, ◌≤◌, ◌^◌, min, List, [], ◌∷◌, length, Some, slice_get, Bool, true, nat_lt}
use Rattle.x10_code.specs.declared.instr.Instr.{Instr}
use Rattle.x10_model.specs.Structure.{Region, Turning, Waiting, Atomic, opener_of, around, depth_of, weight}
use Rattle.x10_bounds.specs.declared.spot.Spot.{Spot}
use Rattle.x10_bounds.specs.declared.spot.Innermost.{Innermost}
use Rattle.x10_bounds.specs.declared.spot.Innermost.TheVariants as innermost

abbrev pub innermost_of : List Region → Innermost
innermost_of [] = innermost.Nothing
innermost_of (Turning opener limit ∷ rs) = innermost.Loop opener
innermost_of (Waiting opener ∷ rs) = innermost.Finish opener
innermost_of (Atomic opener ∷ rs) = innermost.Atomic opener

-- how many of the regions are finishes
abbrev pub finishes_of : List Region → ℕ
finishes_of [] = 0
finishes_of (Turning opener limit ∷ rs) = finishes_of rs
finishes_of (Waiting opener ∷ rs) = finishes_of rs + 1
finishes_of (Atomic opener ∷ rs) = finishes_of rs

-- how many of the regions are atomic ones
abbrev pub atomics_of : List Region → ℕ
atomics_of [] = 0
atomics_of (Turning opener limit ∷ rs) = atomics_of rs
atomics_of (Waiting opener ∷ rs) = atomics_of rs
atomics_of (Atomic opener ∷ rs) = atomics_of rs + 1

-- the innermost region, if there is one, begins before an instruction
abbrev pub begins_before : List Region → ℕ → Bool
begins_before [] pc = true
begins_before (r ∷ rs) pc = nat_lt (opener_of r) pc

-- a number of steps, where all above the greatest bound are one
abbrev pub capped : ℕ → ℕ
capped n = min n (2 ^ 48 + 1)

abbrev pub spot_of : List Region → Spot
spot_of rs = record {
  innermost = innermost_of rs;
  loops = depth_of rs;
  finishes = finishes_of rs;
  atomics = atomics_of rs;
  weight = capped (weight rs);
}

-- the table has the spots of the first instructions up to number n
pub record AreSpotsTo (code : List Instr) (n : ℕ) (spots : List Spot) : Type 0 where
  pub count : length spots ≡ n + 1
  pub each : (pc : ℕ) → pc ≤ n → slice_get spots pc ≡ Some (spot_of (around code pc))
