-- The activity of each stay, as the rows of a tally keep it.
use Rattle.std.proofs.Common.{◌≡◌, ℕ, zero, suc, ◌+◌, ◌-◌, ◌<◌, ◌^◌, List, [], ◌∷◌, length, replicate, Option, Some, None, refl, sym, ap, ◌∙◌, inl, inr, arith}
use Rattle.std.specs.Prelude.{slice_get, slice_set}
use Rattle.std.proofs.lemmas.Bool.{cases_eq}
use Rattle.std.proofs.lemmas.List.{length-append, length-replicate, length-set}
use Rattle.std.proofs.lemmas.Option.{slice_get_within}
use Rattle.x10_model.proofs.Lists.{append_front, set_here, set_off}
use Rattle.x10_stats.specs.Stats.{sum}
use Rattle.x10_stats.specs.Tallies.{TallyState, activity_at, in_any_row, nobody, or_nobody, row_with_room, rows_with_room, with_row}
use Rattle.x10_stats.specs.declared.activity.Activity.{Activity}

-- what stands at a key of a row, if there is room for it
abbrev pub slot_in : Option (List Activity) → ℕ → Option Activity
slot_in None key = None
slot_in (Some row) key = slice_get row key

abbrev pub slot : List (List Activity) → ℕ → ℕ → Option Activity
slot rows place key = slot_in (slice_get rows place) key

pub some_below : {A : Type 0} (xs : List A) (i : ℕ) → i < length xs → (x : A) × (slice_get xs i ≡ Some x)
some_below [] i lt = absurd (omega arith)
some_below (x ∷ xs) zero lt = (x, refl)
some_below (x ∷ xs) (suc i) lt = some_below xs i (omega arith)

-- ---- a row changes

pub set_slot_here : (rows : List (List Activity)) (place key : ℕ) (a b : Activity) (o : Option (List Activity)) → slice_get rows place ≡ o
    → slot_in o key ≡ Some b → slot (with_row rows place key a o) place key ≡ Some a
set_slot_here rows place key a b None is e = absurd cc
set_slot_here rows place key a b (Some row) is e =
    ap (λ o. slot_in o key) (set_here rows place (slice_set row key a) (slice_get_within rows place row is))
    ∙ set_here row key a (slice_get_within row key b e)

pub set_slot_off : (rows : List (List Activity)) (place key p k : ℕ) (a : Activity) (o : Option (List Activity)) → slice_get rows place ≡ o
    → ((p ≡ place) × (k ≡ key) → ⊥) → slot (with_row rows place key a o) p k ≡ slot rows p k
set_slot_off rows place key p k a None is apart = refl
set_slot_off rows place key p k a (Some row) is apart = elim (cases_eq p place) [
  | inl same ↦
      ap (λ i. slot (slice_set rows place (slice_set row key a)) i k) same
      ∙ ap (λ o. slot_in o k) (set_here rows place (slice_set row key a) (slice_get_within rows place row is))
      ∙ set_off row key k a (λ e. apart (same, e)) ∙ sym (ap (λ o. slot_in o k) (ap (slice_get rows) same ∙ is))
  | inr ne ↦ ap (λ o. slot_in o k) (set_off rows place p (slice_set row key a) ne)
]

pub row_count : (rows : List (List Activity)) (place key : ℕ) (a : Activity) (o : Option (List Activity))
    → length (with_row rows place key a o) ≡ length rows
row_count rows place key a None = refl
row_count rows place key a (Some row) = length-set rows place (slice_set row key a)

-- ---- a row has more room

pub room_slot : (rows : List (List Activity)) (place key p k : ℕ) (b : Activity) (o : Option (List Activity)) → slice_get rows place ≡ o
    → slot rows p k ≡ Some b → slot (rows_with_room rows place key o) p k ≡ Some b
room_slot rows place key p k b None is e = e
room_slot rows place key p k b (Some row) is e = elim (cases_eq p place) [
  | inl same ↦
      ap (λ i. slot (slice_set rows place (row_with_room row key)) i k) same
      ∙ ap (λ o. slot_in o k) (set_here rows place (row_with_room row key) (slice_get_within rows place row is))
      ∙ append_front row _ k b (sym (ap (λ o. slot_in o k) (ap (slice_get rows) same ∙ is)) ∙ e)
  | inr ne ↦ ap (λ o. slot_in o k) (set_off rows place p (row_with_room row key) ne) ∙ e
]

pub sum_one : (n : ℕ) → n + 1 < 2 ^ 64 → sum n 1 ≡ n + 1
sum_one n few = omega (arith, few)

pub row_has_room : (row : List Activity) (key : ℕ) → key + 1 < 2 ^ 64 → (b : Activity) × (slice_get (row_with_room row key) key ≡ Some b)
row_has_room row key few =
    let one = sum_one key few in
    let whole = length-append row (replicate (sum key 1 - length row) nobody) in
    let more = length-replicate (sum key 1 - length row) nobody in
    some_below (row_with_room row key) key (omega (arith, one, whole, more))

pub slot_has_room : (rows : List (List Activity)) (place key : ℕ) → place < length rows → key + 1 < 2 ^ 64
    → (b : Activity) × (slot (rows_with_room rows place key (slice_get rows place)) place key ≡ Some b)
slot_has_room rows place key lt few =
    let row = some_below rows place lt in
    let room = row_has_room row.0 key few in (
      room.0,
      ap (λ o. slot (rows_with_room rows place key o) place key) row.1
          ∙ ap (λ o. slot_in o key) (set_here rows place (row_with_room row.0 key) (slice_get_within rows place row.0 row.1)) ∙ room.1,
    )

pub room_count : (rows : List (List Activity)) (place key : ℕ) (o : Option (List Activity))
    → length (rows_with_room rows place key o) ≡ length rows
room_count rows place key None = refl
room_count rows place key (Some row) = length-set rows place (row_with_room row key)

-- ---- what stands there

in_slot : (o : Option (List Activity)) (key : ℕ) (b : Activity) → slot_in o key ≡ Some b → in_any_row o key ≡ b
in_slot None key b e = absurd cc
in_slot (Some row) key b e = ap or_nobody e

pub activity_is : (t : TallyState) (place key : ℕ) (b : Activity) → slot t.rows place key ≡ Some b → activity_at t place key ≡ b
activity_is t place key b e = in_slot (slice_get t.rows place) key b e
