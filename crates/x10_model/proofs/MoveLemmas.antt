-- A move in which all that it asks computes, but what its operands name and what it does; and who is alone at a place.
use Rattle.std.proofs.Common.{◌≡◌, ℕ, false, Option, Some, None, refl, ◌∙◌, inl, inr}
use Rattle.std.specs.Prelude.{slice_get}
use Rattle.std.proofs.lemmas.Bool.{cases_eq}
use Rattle.x10_code.specs.declared.instr.Instr.{Instr}
use Rattle.x10_model.specs.Maps.{with_entry}
use Rattle.x10_model.specs.Modules.{Function}
use Rattle.x10_model.specs.Ranges.{IsInRange, function_at}
use Rattle.x10_model.specs.Places as places
use Rattle.x10_model.specs.Places.{Setting, Stay, IsFree, Effect}
use Rattle.x10_model.specs.Moves.{Moves, Does}
use Rattle.x10_model.proofs.Maps.{off_key}
use Rattle.x10_model.proofs.Lists.{none_some}

pub moves : {setting : Setting} {here : ℕ} {old : places.Place} {key : ℕ} {new : places.Place} {effect : Effect} {stay : Stay} {function : Function}
    {instr : Instr}
    → old.stays key ≡ Some stay → stay.away ≡ false → IsFree old.stays key → function_at setting.program stay.top.function ≡ Some function
    → slice_get function.code stay.top.pc ≡ Some instr
    → IsInRange setting.program function instr → Does instr.op
    (record { setting = setting; here = here; place = old; key = key; stay = stay; function = function; instr = instr }) new effect
    → Moves setting here old key new effect
moves there ready free function_is found in_range does =
    record {
      stay = _;
      function = _;
      instr = _;
      is_there = there;
      is_ready = ready;
      is_free = free;
      function_is = function_is;
      instr_is = found;
      in_range = in_range;
      does = does;
    }

-- no other stay is there
abbrev pub IsAlone : (ℕ → Option Stay) → ℕ → Type 0
IsAlone stays key = (other : ℕ) → (other ≡ key → ⊥) → stays other ≡ None

pub nobody : (key : ℕ) → IsAlone (λ k. None) key
nobody key other apart = refl

pub and_one : {stays : ℕ → Option Stay} {key : ℕ} (stay : Option Stay) → IsAlone stays key → IsAlone (with_entry stays key stay) key
and_one {stays} {key} stay alone other apart = off_key stays key other stay apart ∙ alone other apart

pub is_free : (stays : ℕ → Option Stay) (key : ℕ) → IsAlone stays key → IsFree stays key
is_free stays key alone other stay there inside = elim (cases_eq other key)
    [ inl same ↦ same | inr apart ↦ absurd (none_some (stays other) stay (alone other apart) there) ]
