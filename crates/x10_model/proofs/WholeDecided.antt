-- Whether a graph is whole is decided: its parts that nothing reaches are those that a search leaves over.
use Rattle.std.proofs.Common.{◌≡◌, ◌⊎◌, ℕ, zero, suc, ◌<◌, ◌≤◌, List, length, Some, refl, sym, ap, subst, inl, inr, arith}
use Rattle.std.specs.Prelude.{slice_get}
use Rattle.std.proofs.lemmas.Option.{slice_get_within}
use Rattle.std.proofs.lemmas.Bool.{cases_eq}
use Rattle.x10_model.specs.Maps.{IsIn}
use Rattle.x10_model.specs.Values.{Value, Rail, Object}
use Rattle.x10_model.specs.Copies.{Node, Snapshot, IsReached, root, field, IsInside, IsWhole}
use Rattle.x10_model.proofs.Decided.{below_or_not, both_or_not}
use Rattle.x10_model.proofs.Choices.{OrNot, same_as, either_or_not, some_or_not, member_or_not, every_in, Picked, picked_or_none, every_below, some_below, below, in_below}

object_number : (j k : ℕ) → Object j ≡ Object k → j ≡ k
object_number j k e = cc

rail_number : (j k : ℕ) → Rail j ≡ Rail k → j ≡ k
rail_number j k e = cc

object_or_not : (k : ℕ) (v : Value) → OrNot (v ≡ Object k)
object_or_not k (Object j) = same_as (ap Object) (object_number j k) (cases_eq j k)
object_or_not k _ = inr (λ e. absurd cc)

rail_or_not : (i : ℕ) (v : Value) → OrNot (v ≡ Rail i)
rail_or_not i (Rail j) = same_as (ap Rail) (rail_number j i) (cases_eq j i)
rail_or_not i _ = inr (λ e. absurd cc)

-- node j has the value in a field
abbrev HasField : Snapshot → ℕ → Value → Type 0
HasField s j v = (node : Node) × (slice_get s.nodes j ≡ Some node) × IsIn v node.fields

field_or_not : (s : Snapshot) (j : ℕ) (v : Value) → ((w : Value) → OrNot (w ≡ v)) → OrNot (HasField s j v)
field_or_not s j v same = some_or_not (slice_get s.nodes j) (λ node. IsIn v node.fields) (λ node. member_or_not v same node.fields)

-- ---- the search

abbrev IsObjectReached : Snapshot → ℕ → Type 0
IsObjectReached s k = IsReached s (Object k)

-- a root, or in a field of a node that isn't left over
abbrev IsNext : Snapshot → List ℕ → ℕ → Type 0
IsNext s left k = IsIn (Object k) s.roots ⊎ ((j : ℕ) × (j < length s.nodes) × ((IsIn j left → ⊥) × HasField s j (Object k)))

not_or_not : {A : Type 0} → OrNot A → OrNot (A → ⊥)
not_or_not (inl a) = inr (λ n. n a)
not_or_not (inr n) = inl n

next_or_not : (s : Snapshot) (left : List ℕ) (k : ℕ) → OrNot (IsNext s left k)
next_or_not s left k =
    either_or_not (member_or_not (Object k) (object_or_not k) s.roots)
    (some_below (λ j. (IsIn j left → ⊥) × HasField s j (Object k)) (length s.nodes)
    (λ j lt. both_or_not (not_or_not (member_or_not j (λ i. cases_eq i j) left)) (field_or_not s j (Object k) (object_or_not k))))

-- each node is reached or left over
abbrev AreSorted : Snapshot → List ℕ → Type 0
AreSorted s left = (k : ℕ) → k < length s.nodes → IsObjectReached s k ⊎ IsIn k left

next_reached : (s : Snapshot) (left : List ℕ) (k : ℕ) → AreSorted s left → IsNext s left k → IsObjectReached s k
next_reached s left k sorted (inl h) = root (Object k) h
next_reached s left k sorted (inr (j, lt, (known, (node, is, h)))) = elim (sorted j lt) [
  | inl r ↦ field (Object k) j node r is h
  | inr t ↦ absurd (known t)
]

-- where none that is left over is next, none of them is reached
none_reached : (s : Snapshot) (left : List ℕ) → ((k : ℕ) → IsIn k left → IsNext s left k → ⊥) → (v : Value) → IsReached s v → (k : ℕ) → v ≡ Object k
    → IsIn k left → ⊥
none_reached s left none v (root v' h) k e t = none k t (inl (subst (λ x. IsIn x s.roots) e h))
none_reached s left none v (field v' j node r is h) k e t =
    none k t (inr (
      j,
      slice_get_within s.nodes j node is,
      (
        none_reached s left none (Object j) r j refl,
        (node, is, subst (λ x. IsIn x node.fields) e h),
      ),
    ))

abbrev AreDecided : Snapshot → Type 0
AreDecided s = (k : ℕ) → k < length s.nodes → OrNot (IsObjectReached s k)

ends : (s : Snapshot) (left : List ℕ) → AreSorted s left → ((k : ℕ) → IsIn k left → IsNext s left k → ⊥) → AreDecided s
ends s left sorted none k lt = elim (sorted k lt) [ inl r ↦ inl r | inr t ↦ inr (λ r. none_reached s left none (Object k) r k refl t) ]

sorted_on : (s : Snapshot) (left : List ℕ) → AreSorted s left → (p : Picked (IsNext s left) left) → AreSorted s p.others
sorted_on s left sorted p k lt = elim (sorted k lt) [
  | inl r ↦ inl r
  | inr t ↦ elim (p.kept k t) [
    | inl e ↦ inl (subst (IsObjectReached s) (sym e) (next_reached s left p.item sorted p.holds))
    | inr o ↦ inr o
  ]
]

search_on : (s : Snapshot) (fuel : ℕ) (left : List ℕ) → length left ≤ fuel → AreSorted s left → AreDecided s
search_on s zero left le sorted = elim (picked_or_none (IsNext s left) (next_or_not s left) left) [
  | inl p ↦ absurd (omega (arith, p.shorter, le))
  | inr none ↦ ends s left sorted none
]
search_on s (suc fuel) left le sorted = elim (picked_or_none (IsNext s left) (next_or_not s left) left) [
  | inl p ↦ search_on s fuel p.others (omega (arith, p.shorter, le)) (sorted_on s left sorted p)
  | inr none ↦ ends s left sorted none
]

objects_decided : (s : Snapshot) → AreDecided s
objects_decided s = search_on s (length (below (length s.nodes))) (below (length s.nodes)) (omega arith)
    (λ k lt. inr (in_below (length s.nodes) k lt))

-- ---- rails

-- a root, or in a field of a node that is reached
abbrev HasRail : Snapshot → ℕ → Type 0
HasRail s i = IsIn (Rail i) s.roots ⊎ ((j : ℕ) × (j < length s.nodes) × (IsObjectReached s j × HasField s j (Rail i)))

to_rail : (s : Snapshot) (i : ℕ) → HasRail s i → IsReached s (Rail i)
to_rail s i (inl h) = root (Rail i) h
to_rail s i (inr (j, lt, (r, (node, is, h)))) = field (Rail i) j node r is h

from_rail : (s : Snapshot) (v : Value) → IsReached s v → (i : ℕ) → v ≡ Rail i → HasRail s i
from_rail s v (root v' h) i e = inl (subst (λ x. IsIn x s.roots) e h)
from_rail s v (field v' j node r is h) i e = inr (j, slice_get_within s.nodes j node is, (r, (node, is, subst (λ x. IsIn x node.fields) e h)))

rail_reached_or_not : (s : Snapshot) (i : ℕ) → OrNot (IsReached s (Rail i))
rail_reached_or_not s i =
    same_as (to_rail s i) (λ r. from_rail s (Rail i) r i refl)
    (either_or_not (member_or_not (Rail i) (rail_or_not i) s.roots)
    (some_below (λ j. IsObjectReached s j × HasField s j (Rail i)) (length s.nodes)
    (λ j lt. both_or_not (objects_decided s j lt) (field_or_not s j (Rail i) (rail_or_not i)))))

-- ---- the whole graph

inside_or_not : (s : Snapshot) (v : Value) → OrNot (IsInside s v)
inside_or_not s (Rail i) = below_or_not i (length s.rails)
inside_or_not s (Object k) = below_or_not k (length s.nodes)
inside_or_not s _ = inl tt

pub whole_or_not : (s : Snapshot) → OrNot (IsWhole s)
whole_or_not s =
    same_as (λ h. record { roots = h.0.0; fields = λ k node v is t. h.0.1 node (k, is) v t; nodes_reached = h.1.0; rails_reached = h.1.1 })
    (λ w. ((w.roots, λ node at v t. w.fields at.0 node v at.1 t), (w.nodes_reached, w.rails_reached)))
    (both_or_not
    (both_or_not (every_in (IsInside s) (inside_or_not s) s.roots)
    (every_in (λ (node : Node). (v : Value) → IsIn v node.fields → IsInside s v)
    (λ node. every_in (IsInside s) (inside_or_not s) node.fields) s.nodes))
    (both_or_not (every_below (IsObjectReached s) (length s.nodes) (objects_decided s))
    (every_below (λ i. IsReached s (Rail i)) (length s.rails) (λ i lt. rail_reached_or_not s i))))
