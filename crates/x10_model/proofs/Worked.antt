-- The worked examples that the check doesn't compute by itself.
use Rattle.std.proofs.Common.{◌≡◌, ◌⊎◌, ℕ, zero, suc, ◌<◌, ◌≤◌, pos, negsuc, false, List, [], ◌∷◌, map, Option, Some, None, refl, sym, ap, subst, ◌∙◌, inl, inr, arith, lit<, lit≤}
use Rattle.std.specs.Prelude.{slice_get, slice_index}
use Rattle.std.specs.Int.{int_wrap}
use Rattle.x10_model.specs.declared.event.Event.TheVariants.{Step}
use Rattle.x10_model.specs.Maps.{IsIn, AreDistinct}
use Rattle.x10_model.specs.Values.{Value, Int, Rail, Object, Null, Fields, Bytes}
use Rattle.x10_model.specs.Copies.{Node, Names, named, IsInside, IsReached, root, field, IsWhole}
use Rattle.x10_model.specs.Places as places
use Rattle.x10_model.specs.Places.{Effect, Works, Opens, Ends, Number}
use Rattle.x10_model.specs.declared.event.Event.{Event}
use Rattle.x10_model.specs.Maps.{with_entry}
use Rattle.x10_model.specs.Moves.{Moves, with_line}
use Rattle.x10_model.specs.Worlds.{World, Ideal, Steps, steps, Run, done, then, WithinBounds, first_place, opening, net_after, book_after}
use Rattle.x10_model.specs.Examples.{on_places, seven, AddWraps, LoopSetsItsSlot, TextsAreJoined, FieldIsRead, ByteIsSet, PlacesGoRound, FinishIsOpened, NumberIsPrinted, EachGroupMoves, CycleIsCopied, pair_of_objects, pair_snapshot, SevenRuns}
use Rattle.x10_model.proofs.Events.{happens_right}
use Rattle.std.proofs.lemmas.Option.{same_Some}
use Rattle.x10_model.proofs.MoveLemmas.{moves, IsAlone, nobody, and_one, is_free}

-- ---- moves

add_wraps : AddWraps
unfolding int_wrap
add_wraps = moves refl refl (is_free _ 4 (and_one _ (nobody 4))) refl refl (record { a = lit< tt; b = lit< tt; c = lit< tt; x = tt })
    (pos 9223372036854775807, pos 1, refl, refl, (refl, refl))

loop_sets : LoopSetsItsSlot
loop_sets = moves refl refl (is_free _ 4 (and_one _ (nobody 4))) refl refl (record { a = lit< tt; b = tt; c = tt; x = tt }) (refl, refl)

texts_join : TextsAreJoined
texts_join = moves refl refl (is_free _ 4 (and_one _ (nobody 4))) refl refl (record { a = lit< tt; b = lit< tt; c = lit< tt; x = lit< tt })
    (72 ∷ [], 105 ∷ [], refl, refl, (refl, refl))

field_read : FieldIsRead
field_read = moves refl refl (is_free _ 4 (and_one _ (nobody 4))) refl refl (record { a = lit< tt; b = lit< tt; c = tt; x = tt })
    (5, 0, Int (pos 3) ∷ Null ∷ [], Null, refl, refl, refl, (refl, refl))

byte_set : ByteIsSet
byte_set = moves refl refl (is_free _ 4 (and_one _ (nobody 4))) refl refl (record { a = lit< tt; b = lit< tt; c = lit< tt; x = lit< tt })
    (5, 0 ∷ 0 ∷ [], pos 1, negsuc 0, refl, refl, refl, refl, (refl, refl))

places_round : PlacesGoRound
places_round = moves refl refl (is_free _ 4 (and_one _ (nobody 4))) refl refl (record { a = lit< tt; b = lit< tt; c = tt; x = tt })
    (2, refl, (refl, refl))

finish_opens : FinishIsOpened
finish_opens = moves refl refl (is_free _ 4 (and_one _ (nobody 4))) refl refl (record { a = tt; b = tt; c = tt; x = tt }) (refl, refl)

number_prints : NumberIsPrinted
number_prints = moves refl refl (is_free _ 4 (and_one _ (nobody 4))) refl refl (record { a = lit< tt; b = tt; c = tt; x = tt })
    (Int (pos 7), Number (pos 7), refl, refl, (refl, refl))

pub each_group : EachGroupMoves
each_group = record {
  numbers = add_wraps;
  control = loop_sets;
  text = texts_join;
  objects = field_read;
  rails = byte_set;
  places = places_round;
  activities = finish_opens;
  output = number_prints;
}

-- ---- a copy

one_is : {X : Type 0} (x v : X) (i : ℕ) → slice_get (x ∷ []) i ≡ Some v → x ≡ v
one_is x v zero e = same_Some x v e
one_is x v (suc i) e = absurd cc

two_are : {X : Type 0} (x y v : X) (i : ℕ) → slice_get (x ∷ y ∷ []) i ≡ Some v → (x ≡ v) ⊎ (y ≡ v)
two_are x y v zero e = inl (same_Some x v e)
two_are x y v (suc i) e = inr (one_is y v i e)

below_two : (P : ℕ → Type 0) → P 0 → P 1 → (k : ℕ) → k < 2 → P k
below_two P p q zero lt = p
below_two P p q (suc zero) lt = q
below_two P p q (suc (suc k)) lt = absurd (omega arith)

below_one : (P : ℕ → Type 0) → P 0 → (k : ℕ) → k < 1 → P k
below_one P p zero lt = p
below_one P p (suc k) lt = absurd (omega arith)

pub one_distinct : (x : ℕ) → AreDistinct (x ∷ [])
one_distinct x zero zero y e f = refl
one_distinct x zero (suc j) y e f = absurd cc
one_distinct x (suc i) j y e f = absurd cc

two_distinct : (x y : ℕ) → (x ≡ y → ⊥) → AreDistinct (x ∷ y ∷ [])
two_distinct x y ne zero zero v e f = refl
two_distinct x y ne zero (suc j) v e f = absurd (ne (same_Some x v e ∙ sym (one_is y v j f)))
two_distinct x y ne (suc i) zero v e f = absurd (ne (same_Some x v f ∙ sym (one_is y v i e)))
two_distinct x y ne (suc i) (suc j) v e f = ap suc (one_distinct y i j v e f)

inside_fields : (w v : Value) (i : ℕ) → IsInside pair_snapshot w → slice_get (w ∷ Rail 0 ∷ []) i ≡ Some v → IsInside pair_snapshot v
inside_fields w v i h g = elim (two_are w (Rail 0) v i g) [
  | inl s ↦ subst (λ u. IsInside pair_snapshot u) s h
  | inr s ↦ subst
      (λ u. IsInside pair_snapshot u) s (lit< tt)
]

abbrev node_of : Value → Node
node_of w = record { class = 0; fields = w ∷ Rail 0 ∷ [] }

inside_node : (w : Value) (node : Node) (v : Value) → IsInside pair_snapshot w → node_of w ≡ node → IsIn v node.fields → IsInside pair_snapshot v
inside_node w node v h e m = inside_fields w v m.0 h (subst (λ (n : Node). slice_get n.fields m.0 ≡ Some v) (sym e) m.1)

inside_both : (k : ℕ) (node : Node) (v : Value) → slice_get pair_snapshot.nodes k ≡ Some node → IsIn v node.fields → IsInside pair_snapshot v
inside_both k node v e m = elim (two_are (node_of (Object 1)) (node_of (Object 0)) node k e) [
  | inl s ↦ inside_node (Object 1) node v (lit< tt) s m
  | inr s ↦ inside_node (Object 0) node v (lit< tt) s m
]

root_reached : IsReached pair_snapshot (Object 0)
root_reached = root (Object 0) (0, refl)

pair_whole : IsWhole pair_snapshot
pair_whole = record {
  roots = λ v m. subst (λ u. IsInside pair_snapshot u) (one_is (Object 0) v m.0 m.1) (lit< tt);
  fields = inside_both;
  nodes_reached = below_two (λ k. IsReached pair_snapshot (Object k)) root_reached
      (field (Object 1) 0 (node_of (Object 1)) root_reached refl (0, refl));
  rails_reached = below_one (λ i. IsReached pair_snapshot (Rail i)) (field (Rail 0) 0 (node_of (Object 1)) root_reached refl (1, refl));
}

abbrev pair_names : Names
pair_names = record { objects = 3 ∷ 5 ∷ []; rails = 8 ∷ [] }

-- node k lies where its name says
abbrev LiesAt : ℕ → Node → Type 0
LiesAt k node = pair_of_objects (slice_index pair_names.objects k) ≡ Some (Fields node.class (map (named pair_names) node.fields))

lies_at : (k : ℕ) (node : Node) → slice_get pair_snapshot.nodes k ≡ Some node → LiesAt k node
lies_at zero node e = subst (LiesAt 0) (same_Some (node_of (Object 1)) node e) refl
lies_at (suc zero) node e = subst (LiesAt 1) (same_Some (node_of (Object 0)) node e) refl
lies_at (suc (suc k)) node e = absurd cc

bytes_at : (i : ℕ) (bytes : List ℕ) → slice_get pair_snapshot.rails i ≡ Some bytes
    → pair_of_objects (slice_index pair_names.rails i) ≡ Some (Bytes bytes)
bytes_at zero bytes e = ap (λ b. Some (Bytes b)) (same_Some (0 ∷ 0 ∷ []) bytes e)
bytes_at (suc i) bytes e = absurd cc

pub cycle_is_copied : CycleIsCopied
cycle_is_copied = record {
  whole = pair_whole;
  names = record { objects = refl; rails = refl; objects_distinct = two_distinct 3 5 (λ e. omega arith); rails_distinct = one_distinct 8 };
  roots = refl;
  nodes = lies_at;
  bytes = bytes_at;
}

-- ---- a run

abbrev pub setting : places.Setting
setting = on_places 1 seven

abbrev pub frame_of : ℕ → (ℕ → Option Value) → places.CallFrame
frame_of pc registers = record { function = 0; pc = pc; registers = registers; loops = λ n. 0 }

abbrev pub stay_of : places.CallFrame → places.Stay
stay_of top = record { top = top; callers = []; finishes = []; inherited = places.root; away = false; inside = false; back = None }

abbrev pub empty_registers : ℕ → Option Value
empty_registers = slice_get []

abbrev pub seven_register : ℕ → Option Value
seven_register = with_entry empty_registers 0 (Some (Int (pos 7)))

abbrev pub place_one : places.Place
place_one = places.with_stay (first_place setting 0) 0 (Some (stay_of (frame_of 1 seven_register)))

abbrev pub place_two : places.Place
place_two = places.with_stay (with_line place_one (Number (pos 7))) 0 (Some (stay_of (frame_of 2 seven_register)))

abbrev pub place_after : ℕ → places.Place
place_after zero = first_place setting 0
place_after (suc zero) = place_one
place_after (suc (suc zero)) = place_two
place_after _ = places.with_stay place_two 0 None

abbrev pub effect_of : ℕ → Effect
effect_of zero = Works
effect_of (suc zero) = Works
effect_of _ = Ends places.root None

abbrev pub world_after : ℕ → World
world_after zero = opening setting 0
world_after (suc n) = record {
  net = net_after (world_after n).net 0 (place_after (suc n)) (effect_of n) 0;
  book = book_after (world_after n).book ((world_after n).book.belongs 0 0) 0 (effect_of n) 0;
}

first_alone : IsAlone (place_after 0).stays 0
first_alone = and_one _ (nobody 0)

second_alone : IsAlone (place_after 1).stays 0
second_alone = and_one _ first_alone

third_alone : IsAlone (place_after 2).stays 0
third_alone = and_one _ second_alone

first_move : Moves setting 0 (place_after 0) 0 (place_after 1) Works
first_move = moves refl refl (is_free _ 0 first_alone) refl refl (record { a = lit< tt; b = tt; c = tt; x = lit< tt }) (pos 7, refl, (refl, refl))

second_move : Moves setting 0 (place_after 1) 0 (place_after 2) Works
second_move = moves refl refl (is_free _ 0 second_alone) refl refl (record { a = lit< tt; b = tt; c = tt; x = tt })
    (Int (pos 7), Number (pos 7), refl, refl, (refl, refl))

third_move : Moves setting 0 (place_after 2) 0 (place_after 3) (Ends places.root None)
third_move = moves refl refl (is_free _ 0 third_alone) refl refl (record { a = tt; b = tt; c = tt; x = tt })
    (None, tt, (None, refl, refl, refl, refl))

first_step : Steps Ideal setting (world_after 0) 0 0 (world_after 1)
first_step = record {
  old = _;
  new = _;
  effect = _;
  number = 0;
  place_is = refl;
  moves = first_move;
  allowed = tt;
  unused = refl;
  net_is = refl;
  book_is = refl;
}

second_step : Steps Ideal setting (world_after 1) 0 0 (world_after 2)
second_step = record {
  old = _;
  new = _;
  effect = _;
  number = 0;
  place_is = refl;
  moves = second_move;
  allowed = tt;
  unused = refl;
  net_is = refl;
  book_is = refl;
}

third_step : Steps Ideal setting (world_after 2) 0 0 (world_after 3)
third_step = record {
  old = _;
  new = _;
  effect = _;
  number = 0;
  place_is = refl;
  moves = third_move;
  allowed = tt;
  unused = refl;
  net_is = refl;
  book_is = refl;
}

-- the one activity has made so many steps
within : (w : World) (n : ℕ) → w.book.begun ≡ 1 → (w.book.activities 0).steps ≡ n → (w.book.activities 0).function ≡ 0 → n ≤ 3
    → WithinBounds (3 ∷ []) w
within w n begun made function le zero bound lt e =
    let is : 3 ≡ bound = same_Some 3 bound (subst (λ f. slice_get (3 ∷ []) f ≡ Some bound) function e) in
    omega arith
within w n begun made function le (suc a) bound lt e = absurd (omega arith)

abbrev pub IsWithin : World → Type 0
IsWithin w = WithinBounds (3 ∷ []) w

made : (n : ℕ) (rest : List Event) → Steps Ideal setting (world_after n) 0 0 (world_after (suc n)) → IsWithin (world_after n)
    → Run Ideal setting (WithinBounds (3 ∷ [])) (world_after (suc n)) rest (world_after 3)
    → Run Ideal setting (WithinBounds (3 ∷ [])) (world_after n) (Step 0 0 ∷ rest) (world_after 3)
made n rest s bound more = then (world_after n) (world_after (suc n)) (world_after 3) (Step 0 0) rest bound
    (happens_right Ideal setting (world_after n) (world_after (suc n)) (Step 0 0) (steps 0 0 (world_after (suc n)) s))
    (steps 0 0 (world_after (suc n)) s) more

pub seven_runs : SevenRuns
seven_runs = (
  world_after 3,
  made 0 (Step 0 0 ∷ Step 0 0 ∷ []) first_step (within (world_after 0) 0 refl refl refl (lit≤ tt))
      (made 1 (Step 0 0 ∷ []) second_step (within (world_after 1) 1 refl refl refl (lit≤ tt))
      (made 2 [] third_step (within (world_after 2) 2 refl refl refl (lit≤ tt))
      (done (world_after 3) (within (world_after 3) 3 refl refl refl (lit≤ tt))))),
  (place_after 3, refl, refl, refl),
)
