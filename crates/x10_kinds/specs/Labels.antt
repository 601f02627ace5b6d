-- Labels: the terms in one row, each labelled by the first term that it is known to be equal to.
use Rattle.std.specs.Prelude.{◌≡◌, ◌≢◌, ℕ, ◌+◌, ◌<◌, ◌≤◌, Bool, ◌==◌, ◌&&◌, ◌||◌, not, IsTrue, List, [], ◌∷◌, slice_index, if◌then◌else◌}
use Rattle.std.specs.Int.{w64, from_le_bytes}

-- each label is the number of the first term of its class, so one equivalence has one row of labels
pub record IsCanonical (labels : List ℕ) : Type 0 where
  pub low : (i : ℕ) → i < 129 → slice_index labels i ≤ i
  pub own : (i : ℕ) → i < 129 → slice_index labels (slice_index labels i) ≡ slice_index labels i

-- whether two terms, by their numbers, have one label
abbrev pub alike : List ℕ → ℕ → ℕ → Bool
alike labels i k = slice_index labels i == slice_index labels k

-- the row says of every two terms what r says
abbrev pub Says : List ℕ → (ℕ → ℕ → Bool) → Type 0
Says labels r = (i k : ℕ) → i < 129 → k < 129 → alike labels i k ≡ r i k

-- the row has each equation of the other
abbrev pub ContainsRow : List ℕ → List ℕ → Type 0
ContainsRow labels less = (i k : ℕ) → i < 129 → k < 129 → IsTrue (alike less i k)
    → IsTrue (alike labels i k)

-- two terms are equal once the classes of two others are one
abbrev pub joined_row : List ℕ → ℕ → ℕ → ℕ → ℕ → Bool
joined_row labels at other i k =
    alike labels i k || (alike labels i at && alike labels other k) ||
    (alike labels i other && alike labels at k)

-- two terms are equal once another has left its class
abbrev pub parted_row : List ℕ → ℕ → ℕ → ℕ → Bool
parted_row labels at i k = (i == k) || (not (i == at) && not (k == at) && alike labels i k)

-- a label is replaced by another wherever it stands
abbrev pub Relabels : List ℕ → List ℕ → ℕ → ℕ → Type 0
Relabels old new from to =
    (i : ℕ) → i < 129 → slice_index new i ≡ (if slice_index old i == from then to else slice_index
    old i)

-- the first number above that of a term at which the term's number is the label
pub record IsNextOf (labels : List ℕ) (at next : ℕ) : Type 0 where
  pub above : at < next
  pub within : next < 129
  pub labelled : slice_index labels next ≡ at
  pub first : (i : ℕ) → at < i → i < next → slice_index labels i ≢ at

-- the term's number is the label of no term above it
abbrev pub HasNoNext : List ℕ → ℕ → Type 0
HasNoNext labels at = (i : ℕ) → at < i → i < 129 → slice_index labels i ≢ at

-- the first term that has the labels of a term in both rows
pub record IsFirstAlike (a b : List ℕ) (at first : ℕ) : Type 0 where
  pub low : first ≤ at
  pub left : slice_index a first ≡ slice_index a at
  pub right : slice_index b first ≡ slice_index b at
  pub least : (i : ℕ) → i < first → slice_index a i ≡ slice_index a at
      → slice_index b i ≢ slice_index b at

-- two rows have the same labels from one term up to another
abbrev pub AreSameIn : List ℕ → List ℕ → ℕ → ℕ → Type 0
AreSameIn a b from to = (i : ℕ) → from ≤ i → i < to → slice_index a i ≡ slice_index b i

-- eight labels as one number, the first lowest
unfoldable pub eight_from : List ℕ → ℕ → ℕ
eight_from labels at = from_le_bytes w64
    (slice_index labels at ∷ slice_index labels (at + 1) ∷ slice_index labels (at + 2)
    ∷ slice_index labels (at + 3)
    ∷ slice_index labels (at + 4) ∷ slice_index labels (at + 5) ∷ slice_index labels (at + 6)
    ∷ slice_index labels (at + 7) ∷ [])

-- the first n terms have their first terms in both rows as labels, the others what they have in the one
pub record IsMetTo (a b : List ℕ) (n : ℕ) (labels : List ℕ) : Type 0 where
  pub done : (i : ℕ) → i < n → IsFirstAlike a b i (slice_index labels i)
  pub rest : (i : ℕ) → n ≤ i → slice_index labels i ≡ slice_index a i
