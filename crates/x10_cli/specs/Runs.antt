-- What many runs of a module print, each different output once.
use Rattle.std.specs.Prelude.{◌≡◌, ◌≢◌, ℕ, ◌+◌, ◌==◌, Bool, true, false, List, [], ◌∷◌, ◌++◌, codes, decimal, if◌then◌else◌}
use Rattle.std.specs.List.{flat_map}
use Rattle.std.specs.declared.vec.Vec.{Vec}
use Rattle.std.specs.Global.{Global}
use Rattle.x10_findings.specs.declared.findings.Finding.{Finding}
use Rattle.x10_findings.specs.Findings.{FindingsState, IsAdded}
use Rattle.x10_verify.specs.Certified.{Certified}
use Rattle.x10_world.specs.Endings.{lines_at}
use Rattle.x10_world.specs.Opening.{IsOpenedWorld}
use Rattle.x10_world.specs.Rounds.{HasMade, NoneIsLeft, RunsIn, RunsTo}
use Rattle.x10_world.specs.StandsForWorld.{WorldState}
use Rattle.x10_cli.specs.Lines.{all_lines}

-- A run of at most so many events has ended; or so many were made, and the last one didn't end it.
abbrev pub EndsOrNot : Bool → WorldState → ℕ → WorldState → Type 0
EndsOrNot true x limit y = ((n : ℕ) × HasMade x limit n y) × NoneIsLeft y
EndsOrNot false x limit y = RunsIn x limit y × (y.stopped ≢ true)

-- a text is what a world had printed where a run from it ended, or where it was at its limit
abbrev pub IsOutput : WorldState → ℕ → Bool → List ℕ → Type 0
IsOutput x limit ended text = (y : WorldState) × RunsTo x y × EndsOrNot ended x limit y
    × (text ≡ all_lines false 0 (lines_at y.places))

-- What so many runs of a module printed, from its beginning at so many places, each with at most `limit` events: the runs with
-- the seeds 1, 2 and so on were counted one after another.
pub data FoundIn (c : Certified) (places limit : ℕ) : ℕ → FindingsState → Type 0 where
  none : FoundIn c places limit 0 (record { found = []; others = 0 })
  one_more : (n : ℕ) (old new : FindingsState) (first : WorldState) (output : Vec ℕ Global)
      (ended : Bool)
      → FoundIn c places limit n old → IsOpenedWorld c places first
      → IsOutput first limit ended output.items → IsAdded old output ended (n + 1) new
      → FoundIn c places limit (n + 1) new

-- how often it came; of all runs, or of some, with the seed of the first
abbrev pub often : ℕ → Finding → List ℕ
often runs f =
    if f.count == runs then codes "same output in all " ++ (decimal runs ++ codes " runs")
    else (decimal f.count ++ (codes " of "
    ++ (decimal runs ++ (codes " runs, the first by seed " ++ decimal f.seed))))

-- how the line ends, where the runs ended or where they were at the limit
abbrev pub end_text : Bool → List ℕ
end_text true = codes ":"
end_text false = codes ", at the limit:"

-- the line before an output
abbrev pub head_of : ℕ → Finding → List ℕ
head_of runs f = often runs f ++ (end_text f.ended ++ 10 ∷ [])

abbrev pub finding_text : ℕ → Finding → List ℕ
finding_text runs f = head_of runs f ++ f.output.items

-- the line after all outputs that are kept, if there were others
abbrev pub others_text : ℕ → ℕ → List ℕ
others_text runs others = if others == 0 then [] else
    (decimal others ++ (codes " of " ++ (decimal runs
    ++ (codes " runs had other outputs" ++ 10 ∷ []))))

abbrev pub findings_text : ℕ → FindingsState → List ℕ
findings_text runs s = flat_map (finding_text runs) s.found ++ others_text runs s.others
