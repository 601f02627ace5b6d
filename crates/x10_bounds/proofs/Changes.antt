-- How the regions around an instruction change from it to the next one.
use Rattle.std.proofs.Common.{◌≡◌, ◌≢◌, ℕ, true, List, [], ◌∷◌, Option, None, refl, sym}
use Rattle.x10_code.specs.declared.op.Op.{Op}
use Rattle.x10_code.specs.declared.op.Op.TheVariants as op
use Rattle.x10_code.specs.declared.instr.Instr.{Instr}
use Rattle.x10_model.specs.Structure.{Region, Turning, Waiting, Atomic, opener_of, outside, regions_after, nests}
use Rattle.x10_bounds.specs.Regions.{closed_by, first_opener}

-- an instruction opens a region, closes the innermost, or neither; and the opener of the region that it closes
pub data Change (pc : ℕ) (rs : List Region) : Option ℕ → List Region → Type 0 where
  opens : (r : Region) → opener_of r ≡ pc → Change pc rs None (r ∷ rs)
  closes : Change pc rs (first_opener rs) (outside rs)
  keeps : Change pc rs None rs

pub change : (o : Op) (pc : ℕ) (i : Instr) (rs : List Region) → Change pc rs (closed_by o rs) (regions_after o pc i rs)
change op.Loop pc i rs = opens (Turning pc i.x) refl
change op.Finb pc i rs = opens (Waiting pc) refl
change op.Atomb pc i rs = opens (Atomic pc) refl
change op.Endl pc i rs = closes
change op.Fine pc i rs = closes
change op.Atome pc i rs = closes
change _ pc i rs = keeps

-- ---- where it nests

-- the loops stay the same: a finish or an atomic region is opened or closed, or nothing is
pub data SameLoops (pc : ℕ) : List Region → List Region → Type 0 where
  opens_finish : (rs : List Region) → SameLoops pc rs (Waiting pc ∷ rs)
  opens_atomic : (rs : List Region) → SameLoops pc rs (Atomic pc ∷ rs)
  closes_finish : (o : ℕ) (rs : List Region) → SameLoops pc (Waiting o ∷ rs) rs
  closes_atomic : (o : ℕ) (rs : List Region) → SameLoops pc (Atomic o ∷ rs) rs
  none : (rs : List Region) → SameLoops pc rs rs

-- an instruction opens a loop, closes the innermost region, which is a loop, or leaves loops as they are
pub data Nested (pc : ℕ) (i : Instr) : Op → List Region → List Region → Type 0 where
  opens_loop : (rs : List Region) → Nested pc i op.Loop rs (Turning pc i.x ∷ rs)
  closes_loop : (o l : ℕ) (rs : List Region) → Nested pc i op.Endl (Turning o l ∷ rs) rs
  no_loop : (o : Op) (rs after : List Region) → o ≢ op.Loop → o ≢ op.Endl → SameLoops pc rs after → Nested pc i o rs after

pub nested : (o : Op) (pc : ℕ) (i : Instr) (rs : List Region) → nests o rs ≡ true → Nested pc i o rs (regions_after o pc i rs)
nested op.Loop pc i rs n = opens_loop rs
nested op.Endl pc i (Turning o l ∷ rs) n = closes_loop o l rs
nested op.Endl pc i [] n = absurd cc
nested op.Endl pc i (Waiting o ∷ rs) n = absurd cc
nested op.Endl pc i (Atomic o ∷ rs) n = absurd cc
nested op.Finb pc i rs n = no_loop op.Finb rs (Waiting pc ∷ rs) (λ e. absurd cc) (λ e. absurd cc) (opens_finish rs)
nested op.Fine pc i (Waiting o ∷ rs) n = no_loop op.Fine (Waiting o ∷ rs) rs (λ e. absurd cc) (λ e. absurd cc) (closes_finish o rs)
nested op.Fine pc i [] n = absurd cc
nested op.Fine pc i (Turning o l ∷ rs) n = absurd cc
nested op.Fine pc i (Atomic o ∷ rs) n = absurd cc
nested op.Atomb pc i rs n = no_loop op.Atomb rs (Atomic pc ∷ rs) (λ e. absurd cc) (λ e. absurd cc) (opens_atomic rs)
nested op.Atome pc i (Atomic o ∷ rs) n = no_loop op.Atome (Atomic o ∷ rs) rs (λ e. absurd cc) (λ e. absurd cc) (closes_atomic o rs)
nested op.Atome pc i [] n = absurd cc
nested op.Atome pc i (Turning o l ∷ rs) n = absurd cc
nested op.Atome pc i (Waiting o ∷ rs) n = absurd cc
nested o pc i rs n = no_loop o rs rs (λ e. absurd cc) (λ e. absurd cc) (none rs)

-- what doesn't depend on finishes and atomic regions stays the same with the loops
pub kept : {A : Type 0} (f : List Region → A) → ((o : ℕ) (rs : List Region) → f (Waiting o ∷ rs) ≡ f rs)
    → ((o : ℕ) (rs : List Region) → f (Atomic o ∷ rs) ≡ f rs) → (pc : ℕ) (rs after : List Region) → SameLoops pc rs after → f rs ≡ f after
kept f finish atomic pc rs after (opens_finish xs) = sym (finish pc xs)
kept f finish atomic pc rs after (opens_atomic xs) = sym (atomic pc xs)
kept f finish atomic pc rs after (closes_finish o xs) = finish o xs
kept f finish atomic pc rs after (closes_atomic o xs) = atomic o xs
kept f finish atomic pc rs after (none xs) = refl
