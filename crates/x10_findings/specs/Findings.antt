-- The outputs of some runs, each once.
use Rattle.std.specs.Prelude.{◌≡◌, ℕ, ◌+◌, ◌<◌, ◌≤◌, min, Bool, List, [], ◌∷◌, ◌++◌, Some, length, slice_get, slice_set}
use Rattle.std.specs.declared.vec.Vec.{Vec}
use Rattle.std.specs.Global.{Global}
use Rattle.x10_findings.specs.declared.findings.Finding.{Finding}

-- the outputs that are kept, in the order in which they were found first, and how many runs had others
pub record FindingsState : Type 0 where
  pub found : List Finding
  pub others : ℕ

-- it is the output of a run
abbrev pub IsThis : Finding → List ℕ → Bool → Type 0
IsThis f output ended = (f.output.items ≡ output) × (f.ended ≡ ended)

-- no run before had this output
abbrev pub IsNew : List Finding → List ℕ → Bool → Type 0
IsNew found output ended = (at : ℕ) (f : Finding) → slice_get found at ≡ Some f
    → IsThis f output ended → ⊥

-- one more, up to the greatest number of 64 bits
abbrev pub one_more : ℕ → ℕ
one_more n = min (n + 1) 18446744073709551615

-- The output of a run with a seed was counted: with the one that is there, as a new one, or, where as many are kept as can be,
-- among the others.
pub data IsAdded (old : FindingsState) (output : Vec ℕ Global) (ended : Bool) (seed : ℕ)
    (new : FindingsState) : Type 0 where
  again : (at : ℕ) (f : Finding) → slice_get old.found at ≡ Some f → IsThis f output.items ended
      → new ≡ record {
        found = slice_set old.found at (record f { count = one_more f.count });
        others = old.others;
      } → IsAdded old output ended seed new
  first : IsNew old.found output.items ended → length old.found < 100
      → new ≡ record {
        found = old.found ++ (record
            { output = output; ended = ended; count = 1; seed = seed }) ∷ [];
        others = old.others;
      }
      → IsAdded old output ended seed new
  other : IsNew old.found output.items ended → 100 ≤ length old.found
      → new ≡ record { found = old.found; others = one_more old.others }
      → IsAdded old output ended seed new
