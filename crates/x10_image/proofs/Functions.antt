-- The parts of a function in the image.
use Rattle.std.proofs.Common.{◌≡◌, ℕ, ◌+◌, ◌*◌, ◌<◌, ◌≤◌, true, false, eqb, List, [], ◌∷◌, ◌++◌, length, get_or, Option, Some, None, refl, sym, ap, ◌∙◌, arith, flat_map, slice_get, is_none, length-append, eqb-true, eq-eqb}
use Rattle.std.specs.Int.{w16, to_be_bytes}
use Rattle.x10_kinds.specs.declared.kind.Kind.{Kind}
use Rattle.x10_kinds.specs.declared.kind.Kind.TheVariants as kind
use Rattle.x10_code.specs.Spelling.{spelling as instruction}
use Rattle.x10_code.proofs.Instructions.{length-spelling}
use Rattle.x10_model.specs.Modules.{Function}
use Rattle.x10_model.specs.declared.slot.Slot.{Slot}
use Rattle.x10_model.specs.Images.{tag_of, kind_bytes, slot_bytes, result_bytes, function_bytes}
use Rattle.x10_model.specs.ReadingImages.{is_entry}
use Rattle.x10_model.proofs.ImageParts.{length-items}
use Rattle.x10_model.proofs.KindLaws.{length-slot_bytes, length-result_bytes}
use Rattle.x10_model.specs.Offsets.{StandsAt, AreAt}
use Rattle.x10_model.proofs.Offsets.{later, narrow, place_small, byte_is, first_is, same_length, item_of}

-- the four numbers at its front, and where its other parts begin
pub record IsFunctionAt (bytes : List ℕ) (at : ℕ) (f : Function) : Type 0 where
  pub head : StandsAt bytes at (length f.parameters ∷ f.registers ∷ f.loops ∷ 0 ∷ [])
  pub slots : StandsAt bytes (at + 4) (flat_map slot_bytes f.parameters)
  pub result : StandsAt bytes (at + 4 + 4 * length f.parameters) (result_bytes f.result)
  pub count : StandsAt bytes (at + 8 + 4 * length f.parameters) (to_be_bytes w16 (length f.code))
  pub code : StandsAt bytes (at + 12 + 4 * length f.parameters) (flat_map instruction f.code)

pub function_parts : (bytes : List ℕ) (at : ℕ) (f : Function) → StandsAt bytes at (function_bytes f) → IsFunctionAt bytes at f
unfolding function_bytes
function_parts bytes at f s =
    let n = length f.parameters in
    let from_slots = later bytes at 4 (at + 4) (n ∷ f.registers ∷ f.loops ∷ 0 ∷ []) _ refl refl s in
    let slots_long : 4 * n ≡ length (flat_map slot_bytes f.parameters) = sym (length-items slot_bytes 4 length-slot_bytes f.parameters) in
    let from_result = later bytes (at + 4) (4 * n) (at + 4 + 4 * n) (flat_map slot_bytes f.parameters) _ slots_long refl from_slots in
    let from_count = later bytes (at + 4 + 4 * n) 4 (at + 8 + 4 * n) (result_bytes f.result) _ (sym (length-result_bytes f.result))
    (omega arith) from_result in
    let from_zero = later bytes (at + 8 + 4 * n) 2 (at + 10 + 4 * n) (to_be_bytes w16 (length f.code)) _ refl (omega arith) from_count in
    let from_code = later bytes (at + 10 + 4 * n) 2 (at + 12 + 4 * n) (to_be_bytes w16 0) _ refl (omega arith) from_zero in
    record {
      head = narrow bytes at (n ∷ f.registers ∷ f.loops ∷ 0 ∷ []) _ s;
      slots = narrow bytes (at + 4) (flat_map slot_bytes f.parameters) _ from_slots;
      result = narrow bytes (at + 4 + 4 * n) (result_bytes f.result) _ from_result;
      count = narrow bytes (at + 8 + 4 * n) (to_be_bytes w16 (length f.code)) _ from_count;
      code = from_code;
    }

-- ---- the entry

pub tag_is : (k : Kind) → eqb (tag_of k) 0 ≡ false
tag_is kind.Int = refl
tag_is kind.Place = refl
tag_is kind.Text = refl
tag_is kind.Rail = refl
tag_is (kind.Obj c) = refl
tag_is (kind.Opt c) = refl
tag_is (kind.GRef c) = refl

result_tag : (r : Option Slot) → eqb (get_or (result_bytes r) 0 0) 0 ≡ is_none r
unfolding result_bytes slot_bytes kind_bytes
result_tag None = refl
result_tag (Some s) = tag_is (s.kind)

pub entry_is : (bytes : List ℕ) (at : ℕ) (f : Function) → StandsAt bytes at (function_bytes f) → (eqb (get_or bytes at 0) 0 ≡ true)
    → eqb (get_or bytes (at + 4) 0) 0 ≡ is_entry (Some f)
entry_is bytes at f s zero_first =
    let p = function_parts bytes at f s in
    let first : get_or bytes at 0 ≡ length f.parameters = first_is bytes at (length f.parameters) _ p.head in
    let none : length f.parameters ≡ 0 = omega (arith, first, eqb-true (get_or bytes at 0) 0 zero_first) in
    let e : at + 4 ≡ (at + 4 + 4 * length f.parameters) + 0 = omega arith in
    let byte : get_or bytes (at + 4) 0 ≡ get_or (result_bytes f.result) 0 0 =
    ap (λ (k : ℕ). get_or bytes k 0) e ∙ byte_is bytes (at + 4 + 4 * length f.parameters) 0 (result_bytes f.result)
    (omega (arith, length-result_bytes f.result)) p.result in
    ap (λ (k : ℕ). eqb k 0) byte ∙ result_tag f.result ∙ rw (eq-eqb (length f.parameters) 0 none) refl

pub entry_not : (bytes : List ℕ) (at : ℕ) (f : Function) → StandsAt bytes at (function_bytes f) → (eqb (get_or bytes at 0) 0 ≡ false)
    → eqb (get_or bytes at 0) 0 ≡ is_entry (Some f)
entry_not bytes at f s not_zero =
    let p = function_parts bytes at f s in
    let first : get_or bytes at 0 ≡ length f.parameters = first_is bytes at (length f.parameters) _ p.head in
    let same : eqb (length f.parameters) 0 ≡ false = ap (λ (k : ℕ). eqb k 0) (sym first) ∙ not_zero in
    rw (same, not_zero) refl

length-function_bytes : (f : Function) → length (function_bytes f) ≡ 12 + 4 * length f.parameters + 8 * length f.code
unfolding function_bytes
length-function_bytes f =
    let zero = to_be_bytes w16 0 ++ flat_map instruction f.code in
    let count = to_be_bytes w16 (length f.code) ++ zero in
    let result = result_bytes f.result ++ count in
    omega (
      arith,
      length-append (flat_map slot_bytes f.parameters) result,
      length-append (result_bytes f.result) count,
      length-items slot_bytes 4 length-slot_bytes f.parameters,
      length-result_bytes f.result,
      length-items instruction 8 length-spelling f.code,
    )

pub function_small : (bytes : List ℕ) (at : ℕ) (f : Function) → StandsAt bytes at (function_bytes f)
    → at + 12 + 4 * length f.parameters + 8 * length f.code ≤ length bytes
function_small bytes at f s = omega (
  arith,
  length-function_bytes f,
  place_small bytes at (function_bytes f) (omega (arith, length-function_bytes f)) s,
)

pub function_in : (bytes table : List ℕ) (all : List Function) (i j : ℕ) → AreAt function_bytes bytes table all → i < length table → i ≡ j
    → (f : Function) × (slice_get all j ≡ Some f) × StandsAt bytes (get_or table i 0) (function_bytes f)
function_in bytes table all i j places lt e =
    let found = item_of _ table all i places (omega (arith, same_length _ table all places)) in
    (found.0, ap (slice_get all) (sym e) ∙ found.1, found.2)
