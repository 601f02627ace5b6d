-- How objects lie one after another: the fields of each among the words of all.
use Rattle.std.specs.Prelude.{◌≡◌, ℕ, zero, suc, ◌-◌, ◌≤◌, List, [], ◌∷◌, take, drop}
use Rattle.x10_heap.specs.Heaps.{ObjectState}

-- objects of these classes, from the one whose fields start at the first of the words; each one's fields end at its place in
-- `ends`, and places are counted so that the first word's is `start`
abbrev pub objects_from : (start : ℕ) → (classes ends words : List ℕ) → List ObjectState
objects_from start (class ∷ classes) (to ∷ ends) words =
    record { class = class; fields = take (to - start) words }
    ∷ objects_from to classes ends (drop (to - start) words)
objects_from start _ _ words = []

-- an end for each class, none before the one before it, and the last where the words end
abbrev pub AreLaid : (start : ℕ) → (classes ends : List ℕ) → (last : ℕ) → Type 0
AreLaid start [] [] last = start ≡ last
AreLaid start (class ∷ classes) (to ∷ ends) last = (start ≤ to) × AreLaid to classes ends last
AreLaid start _ _ last = ⊥

-- where an object's fields start: where those of the one before it end
abbrev pub start_of : (start : ℕ) → ℕ → (ends : List ℕ) → ℕ
start_of start zero ends = start
start_of start (suc k) [] = start
start_of start (suc k) (to ∷ ends) = start_of to k ends
