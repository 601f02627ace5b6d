-- What a spot says of the rules of structure.
use Rattle.std.proofs.Common.{◌≡◌, ℕ, ◌+◌, ◌<◌, Bool, true, false, ◌==◌, ◌&&◌, List, [], ◌∷◌, length, refl, sym, ap, ◌∙◌, arith}
use Rattle.std.specs.Prelude.{nat_lt}
use Rattle.x10_code.specs.declared.op.Op.{Op}
use Rattle.x10_code.specs.declared.op.Op.TheVariants as op
use Rattle.x10_code.specs.declared.instr.Instr.{Instr}
use Rattle.x10_model.specs.Structure.{Region, Turning, Waiting, Atomic, around, are_loops, nests, leaves_loops, jumps_forward}
use Rattle.x10_bounds.specs.declared.spot.Spot.{Spot}
use Rattle.x10_bounds.specs.declared.shape.Shape.TheVariants as shape
use Rattle.x10_bounds.specs.Shapes.{shape_of}
use Rattle.x10_bounds.specs.Spots.{spot_of, finishes_of, atomics_of, begins_before}
use Rattle.x10_bounds.proofs.Around.{leaves-around}

not_zero : (n : ℕ) → (n + 1 == 0) ≡ false
not_zero n = grind arith

and_no : (b : Bool) → (b && false) ≡ false
and_no true = refl
and_no false = refl

none_kept : (rs : List Region) → ((finishes_of rs == 0) && (atomics_of rs == 0)) ≡ are_loops rs
none_kept [] = refl
none_kept (Turning o l ∷ rs) = none_kept rs
none_kept (Waiting o ∷ rs) = ap (λ b. b && (atomics_of rs == 0)) (not_zero (finishes_of rs))
none_kept (Atomic o ∷ rs) = ap (λ b. (finishes_of rs == 0) && b) (not_zero (atomics_of rs)) ∙ and_no (finishes_of rs == 0)

nests_return : (o : Op) (rs : List Region) → shape_of o ≡ shape.Return → nests o rs ≡ are_loops rs
nests_return op.Ret rs e = refl
nests_return _ rs e = absurd cc

-- where a function ends, all regions are loops exactly where no finish and no atomic region is around
pub return_nests : (o : Op) (rs : List Region) (spot : Spot) → shape_of o ≡ shape.Return → spot ≡ spot_of rs
    → ((spot.finishes == 0) && (spot.atomics == 0)) ≡ nests o rs
return_nests o rs spot is e = ap (λ (s : Spot). (s.finishes == 0) && (s.atomics == 0)) e ∙ none_kept rs ∙ sym (nests_return o rs is)

-- a jump to a later instruction inside the function goes well exactly where its spot and the target's say so
pub jump_is : (code : List Instr) (pc x : ℕ) (from to : Spot) (before : Bool) → pc < x → x < length code → from ≡ spot_of (around code pc)
    → to ≡ spot_of (around code x) → before ≡ begins_before (around code x) pc
    → (before && ((from.finishes == to.finishes) && (from.atomics == to.atomics))) ≡ jumps_forward code pc x
jump_is code pc x from to before later within is_from is_to is_before =
    let l : nat_lt pc x ≡ true = grind arith in
    let w : nat_lt x (length code) ≡ true = grind arith in
    ap (λ (b : Bool). b && ((from.finishes == to.finishes) && (from.atomics == to.atomics))) is_before
    ∙ ap (λ (s : Spot). begins_before (around code x) pc && ((s.finishes == to.finishes) && (s.atomics == to.atomics))) is_from
    ∙ ap (λ (s : Spot). begins_before (around code x) pc && ((finishes_of (around code pc) == s.finishes) &&
    (atomics_of (around code pc) == s.atomics))) is_to
    ∙ sym (leaves-around code pc x (omega arith))
    ∙ ap (λ (b : Bool). b && true && leaves_loops (around code pc) (around code x)) (sym l)
    ∙ ap (λ (b : Bool). nat_lt pc x && b && leaves_loops (around code pc) (around code x)) (sym w)
