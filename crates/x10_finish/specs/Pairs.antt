-- What the home of a finish keeps, pair by pair of places.
use Rattle.std.specs.Prelude.{ℕ, zero, suc, ◌+◌, ◌*◌, ◌==◌, ◌&&◌, ◌≤◌, nat_lt, max, Bool, List, if◌then◌else◌, slice_index, slice_index_or, All}
use Rattle.x10_finish.specs.declared.pair_list.Stamped.{Stamped}
use Rattle.x10_finish.specs.declared.pairs.Pair.{Pair}

-- f 0 + f 1 + .. + f (n - 1)
abbrev pub sum_below : (ℕ → ℕ) → ℕ → ℕ
sum_below f zero = 0
sum_below f (suc n) = sum_below f n + f n

-- the sum over a square
abbrev pub sum_square : (ℕ → ℕ → ℕ) → ℕ → ℕ
sum_square f n = sum_below (λ a. sum_below (f a) n) n

abbrev pub no_pair : Pair
no_pair = record { sent = 0; received = 0 }

-- what a round sees of a pair: nothing, where it was written in another round
abbrev pub seen_in : ℕ → Stamped → Pair
seen_in round s = if s.round == round then s.pair else no_pair

-- no pair was written in a later round
abbrev pub AreUpTo : ℕ → List Stamped → Type 0
AreUpTo round items = All (λ s. s.round ≤ round) items

-- the pair of two places, row by row of the sender; nothing where there is no such place
abbrev pub pair_at : ℕ → List Pair → ℕ → ℕ → Pair
pair_at places pairs from to = if nat_lt from places && nat_lt to places then slice_index_or pairs
    (from * places + to) no_pair else no_pair

-- 1 where the numbers of a pair differ, 0 where they agree or one of the places is the home
abbrev pub difference : ℕ → ℕ → ℕ → Pair → ℕ
difference home from to pair = if from == home then 0 else
    (if to == home then 0 else (if pair.sent == pair.received then 0 else 1))

-- how many pairs differ
abbrev pub unequal_in : ℕ → ℕ → List Pair → ℕ
unequal_in home places pairs = sum_square
    (λ from to. difference home from to (pair_at places pairs from to)) places

-- one pair has the larger of each number
abbrev pub raised_at : ℕ → ℕ → Pair → (ℕ → ℕ → Pair) → ℕ → ℕ → Pair
raised_at from to by old a b = if a == from && b == to then
    record { sent = max (old a b).sent by.sent; received = max (old a b).received by.received }
    else old a b

-- of the first q places, the numbers that a place sent to and received from them are taken in
abbrev pub merged_to : ℕ → List ℕ → List ℕ → ℕ → (ℕ → ℕ → Pair) → ℕ → ℕ → Pair
merged_to from sent received q old a b = record {
  sent = if a == from && nat_lt b q then max (old a b).sent (slice_index sent b) else
      (old a b).sent;
  received = if b == from && nat_lt a q then max (old a b).received (slice_index received a) else
      (old a b).received;
}

-- the home and a place tell the same of what they sent each other: by the numbers that the home sent and received, and
-- by the pairs
abbrev pub agreed : ℕ → (ℕ → ℕ → Pair) → List ℕ → List ℕ → ℕ → Bool
agreed home pairs sent received q = if q == home then slice_index sent home == slice_index received
    home else
    (slice_index sent q == (pairs home q).received && (pairs q home).sent == slice_index received q)
