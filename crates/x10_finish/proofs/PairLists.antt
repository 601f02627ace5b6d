-- Pairs that are seen in a round.
use Rattle.std.proofs.Common.{◌≡◌, ◌≤◌, ◌<◌, ◌==◌, ℕ, zero, suc, false, List, [], ◌∷◌, map, length, replicate, slice_set, refl, ◌∙◌, ap, arith}
use Rattle.std.proofs.lemmas.Bool.{eq-eqb, ne_eqb}
use Rattle.std.proofs.lemmas.List.{map-set}
use Rattle.x10_finish.specs.declared.pair_list.Stamped.{Stamped}
use Rattle.x10_finish.specs.declared.pairs.Pair.{Pair}
use Rattle.x10_finish.specs.Pairs.{no_pair, seen_in, AreUpTo}

later_sees_none : (round later : ℕ) (s : Stamped) → s.round ≤ round → round < later → seen_in later s ≡ no_pair
later_sees_none round later s le lt = let e : (s.round == later) ≡ false = ne_eqb s.round later (λ same. omega (arith, same, le, lt)) in rw e refl

-- in a later round none of them has a number
pub all_none : (round later : ℕ) (items : List Stamped) → round < later → AreUpTo round items
    → map (seen_in later) items ≡ replicate (length items) no_pair
all_none round later [] lt are = refl
all_none round later (s ∷ rest) lt are =
    ap (λ (p : Pair). p ∷ map (seen_in later) rest) (later_sees_none round later s (are 0 s (omega arith)) lt)
    ∙ ap (λ (xs : List Pair). no_pair ∷ xs) (all_none round later rest lt (λ k d below. are (suc k) d (omega (arith, below))))

-- where each was written in a round as nothing, that round sees nothing
pub none_written : (round n : ℕ) → map (seen_in round) (replicate n (record { round = round; pair = no_pair })) ≡ replicate n no_pair
none_written round zero = refl
none_written round (suc n) =
    ap (λ (p : Pair). p ∷ map (seen_in round) (replicate n (record { round = round; pair = no_pair }))) (let e = eq-eqb round round refl in rw e refl)
    ∙ ap (λ (xs : List Pair). no_pair ∷ xs) (none_written round n)

-- what a round writes it sees
pub one_written : (round : ℕ) (items : List Stamped) (i : ℕ) (p : Pair)
    → map (seen_in round) (slice_set items i (record { round = round; pair = p })) ≡ slice_set (map (seen_in round) items) i p
one_written round items i p = map-set (seen_in round) items i (record { round = round; pair = p })
    ∙ ap (slice_set (map (seen_in round) items) i) (let e = eq-eqb round round refl in rw e refl)
