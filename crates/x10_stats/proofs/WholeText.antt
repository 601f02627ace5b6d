-- The whole text, from its parts.
use Rattle.std.proofs.Common.{◌≡◌, ℕ, List, [], ◌++◌, ap, ◌∙◌, append_assoc}
use Rattle.x10_place.specs.StandsFor.{PlaceState}
use Rattle.x10_verify.specs.Certified.{Certified}
use Rattle.x10_stats.specs.Counts.{CountsState}
use Rattle.x10_stats.specs.Lines.{all_activity_lines, all_function_lines, all_heap_lines, begin_lines, end_lines, event_lines, stats_lines}
use Rattle.x10_stats.specs.Tallies.{TallyState}
use Rattle.x10_stats.specs.declared.stats.Stats.{Stats}
use Rattle.x10_stats.specs.declared.tally.Begun.{Begun}

six_parts : (a b c d e f start t u v w x y : List ℕ) → start ≡ [] → t ≡ start ++ a → u ≡ t ++ b → v ≡ u ++ c → w ≡ v ++ d → x ≡ w ++ e
    → y ≡ x ++ f → y ≡ a ++ (b ++ (c ++ (d ++ (e ++ f))))
six_parts a b c d e f start t u v w x y empty one two three four five last =
    let first : t ≡ a = one ∙ ap (λ bs. bs ++ a) empty in
    let second : u ≡ a ++ b = two ∙ ap (λ bs. bs ++ b) first in
    let third : v ≡ (a ++ b) ++ c = three ∙ ap (λ bs. bs ++ c) second in
    let fourth : w ≡ ((a ++ b) ++ c) ++ d = four ∙ ap (λ bs. bs ++ d) third in
    let fifth : x ≡ (((a ++ b) ++ c) ++ d) ++ e = five ∙ ap (λ bs. bs ++ e) fourth in
    last ∙ ap (λ bs. bs ++ f) fifth ∙ append_assoc (((a ++ b) ++ c) ++ d) e f ∙ append_assoc ((a ++ b) ++ c) d (e ++ f)
    ∙ append_assoc (a ++ b) c (d ++ (e ++ f)) ∙ append_assoc a b (c ++ (d ++ (e ++ f)))

-- what was counted of events, and what is told of functions and of activities
told : Certified → List PlaceState → Stats → ℕ → List Begun → TallyState → List ℕ
told m places s rounds functions tally = event_lines s rounds
    ++ (begin_lines s.spawns s.shifts
    ++ (end_lines s.backs s.reports
    ++ (all_function_lines functions m ++ (all_activity_lines tally m ++ all_heap_lines 0 places))))

pub whole_text : (m : Certified) (k : CountsState) (places : List PlaceState) (s : Stats) (rounds : ℕ) (functions : List Begun) (tally : TallyState)
    (start t u v w x y : List ℕ) → s ≡ k.stats → rounds ≡ k.pace.rounds → functions ≡ k.tally.functions → tally ≡ k.tally → start ≡ []
    → t ≡ start ++ event_lines s rounds → u ≡ t ++ begin_lines s.spawns s.shifts → v ≡ u ++ end_lines s.backs s.reports
    → w ≡ v ++ all_function_lines functions m → x ≡ w ++ all_activity_lines tally m → y ≡ x ++ all_heap_lines 0 places → y ≡ stats_lines m k places
unfolding told
whole_text m k places s rounds functions tally start t u v w x y same round listed tallied empty one two three four five last =
    let parts : y ≡ told m places s rounds functions tally =
    six_parts (event_lines s rounds) (begin_lines s.spawns s.shifts) (end_lines s.backs s.reports) (all_function_lines functions m)
    (all_activity_lines tally m) (all_heap_lines 0 places) start t u v w x y empty one two three four five last in
    parts ∙ ap (λ (z : Stats). told m places z rounds functions tally) same ∙ ap (λ (n : ℕ). told m places k.stats n functions tally) round
    ∙ ap (λ (fs : List Begun). told m places k.stats k.pace.rounds fs tally) listed
    ∙ ap (λ (z : TallyState). told m places k.stats k.pace.rounds k.tally.functions z) tallied
