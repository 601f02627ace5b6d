-- Which instructions stand in an atomic region, by the structure of their function.
use Rattle.std.proofs.Common.{◌≡◌, ◌≢◌, ℕ, zero, suc, ◌+◌, ◌≤◌, ◌==◌, Bool, true, false, List, [], ◌∷◌, Option, Some, None, inl, inr, refl, sym, ap, subst, ◌∙◌, arith}
use Rattle.std.specs.Prelude.{slice_get, not, if◌then◌else◌}
use Rattle.std.proofs.lemmas.Bool.{cases_eq, ne_eqb}
use Rattle.x10_code.specs.declared.op.Op.{Op}
use Rattle.x10_code.specs.declared.op.Op.TheVariants as op
use Rattle.x10_code.specs.declared.instr.Instr.{Instr}
use Rattle.x10_model.specs.Structure.{Region, Turning, Waiting, Atomic, outside, regions_after, passed, around, are_loops, nests, is_in_atomic, is_kept_out, stays_out, atomic_fault}
use Rattle.x10_bounds.specs.declared.spot.Spot.{Spot}
use Rattle.x10_bounds.specs.Spots.{atomics_of, spot_of}
use Rattle.x10_bounds.specs.Potential.{IsStructured}
use Rattle.x10_bounds.specs.AtomicRegions.{is_inside, StructuredKeeps}
use Rattle.x10_bounds.proofs.FirstFailure.{none_fails}
use Rattle.x10_bounds.proofs.Falls.{all_nest}
use Rattle.x10_bounds.proofs.OpenFinishes.{jumps_in}
use Rattle.x10_bounds.proofs.Spots.{around-more}

more_than_zero : (n : ℕ) → (n + 1 == 0) ≡ false
more_than_zero n = grind arith

-- one of the regions is an atomic one where they aren't none
pub inside_is : (rs : List Region) → is_in_atomic rs ≡ not (atomics_of rs == 0)
inside_is [] = refl
inside_is (Turning o l ∷ rs) = inside_is rs
inside_is (Waiting o ∷ rs) = inside_is rs
inside_is (Atomic o ∷ rs) = sym (ap not (more_than_zero (atomics_of rs)))

same_inside : (rs ts : List Region) → atomics_of rs ≡ atomics_of ts → is_in_atomic rs ≡ is_in_atomic ts
same_inside rs ts e = inside_is rs ∙ ap (λ (n : ℕ). not (n == 0)) e ∙ sym (inside_is ts)

none_inside : (rs : List Region) → atomics_of rs ≡ 0 → is_in_atomic rs ≡ false
none_inside rs e = inside_is rs ∙ ap (λ (n : ℕ). not (n == 0)) e

none_there : (n : ℕ) → not (n == 0) ≡ false → n ≡ 0
none_there n e = elim (cases_eq n 0) [
  | inl same ↦ same
  | inr ne ↦ absurd (let f : not (n == 0) ≡ true = ap not (ne_eqb n 0 ne) in let g : true ≡ false = sym f ∙ e in cc)
]

no_atomic : (rs : List Region) → is_in_atomic rs ≡ false → atomics_of rs ≡ 0
no_atomic rs e = none_there (atomics_of rs) (sym (inside_is rs) ∙ e)

-- ---- one instruction further

stays_in : (o : Op) (pc : ℕ) (i : Instr) (rs : List Region) → nests o rs ≡ true → o ≢ op.Atomb → o ≢ op.Atome
    → atomics_of (regions_after o pc i rs) ≡ atomics_of rs
stays_in op.Atomb pc i rs n a b = absurd (a refl)
stays_in op.Atome pc i rs n a b = absurd (b refl)
stays_in op.Loop pc i rs n a b = refl
stays_in op.Finb pc i rs n a b = refl
stays_in op.Endl pc i (Turning o l ∷ rs) n a b = refl
stays_in op.Endl pc i (Waiting o ∷ rs) n a b = absurd cc
stays_in op.Endl pc i (Atomic o ∷ rs) n a b = absurd cc
stays_in op.Endl pc i [] n a b = absurd cc
stays_in op.Fine pc i (Waiting o ∷ rs) n a b = refl
stays_in op.Fine pc i (Turning o l ∷ rs) n a b = absurd cc
stays_in op.Fine pc i (Atomic o ∷ rs) n a b = absurd cc
stays_in op.Fine pc i [] n a b = absurd cc
stays_in _ pc i rs n a b = refl

in_loops_alone : (rs : List Region) → are_loops rs ≡ true → is_in_atomic rs ≡ false
in_loops_alone [] e = refl
in_loops_alone (Turning o l ∷ rs) e = in_loops_alone rs e
in_loops_alone (Waiting o ∷ rs) e = absurd cc
in_loops_alone (Atomic o ∷ rs) e = absurd cc

closes_in : (rs : List Region) → nests op.Atome rs ≡ true → is_in_atomic rs ≡ true
closes_in [] n = absurd cc
closes_in (Turning o l ∷ rs) n = absurd cc
closes_in (Waiting o ∷ rs) n = absurd cc
closes_in (Atomic o ∷ rs) n = refl

-- ---- at most one atomic region

is_false : (b : Bool) → not b ≡ true → b ≡ false
is_false true e = absurd cc
is_false false e = refl

kept_out : (o : Op) (rs : List Region) → is_kept_out o ≡ true → stays_out o rs ≡ true → is_in_atomic rs ≡ false
kept_out o rs k e = is_false (is_in_atomic rs) (sym (ap (λ b. if b then not (is_in_atomic rs) else true) k) ∙ e)

not_not : (b : Bool) → not (not b) ≡ b
not_not true = refl
not_not false = refl

-- an instruction that is kept out stands outside exactly where its spot says so
pub out_is : (o : Op) (rs : List Region) (spot : Spot) → is_kept_out o ≡ true → spot ≡ spot_of rs → (spot.atomics == 0) ≡ stays_out o rs
out_is o rs spot k e =
    ap (λ (s : Spot). s.atomics == 0) e
    ∙ sym (ap (λ b. if b then not (is_in_atomic rs) else true) k ∙ ap not (inside_is rs) ∙ not_not (atomics_of rs == 0))

outside_fewer : (n : ℕ) (rs : List Region) → atomics_of rs ≤ n → atomics_of (outside rs) ≤ n
outside_fewer n [] le = le
outside_fewer n (Turning o l ∷ rs) le = le
outside_fewer n (Waiting o ∷ rs) le = le
outside_fewer n (Atomic o ∷ rs) le = omega (arith, le)

one_after : (o : Op) (pc : ℕ) (i : Instr) (rs : List Region) → stays_out o rs ≡ true → atomics_of rs ≤ 1 → atomics_of (regions_after o pc i rs) ≤ 1
one_after op.Atomb pc i rs e le = let none : atomics_of rs ≡ 0 = no_atomic rs (kept_out op.Atomb rs refl e) in omega (arith, none)
one_after op.Loop pc i rs e le = le
one_after op.Finb pc i rs e le = le
one_after op.Endl pc i rs e le = outside_fewer 1 rs le
one_after op.Fine pc i rs e le = outside_fewer 1 rs le
one_after op.Atome pc i rs e le = outside_fewer 1 rs le
one_after _ pc i rs e le = le

one_next : (code : List Instr) (pc : ℕ) (o : Option Instr) → atomic_fault code ≡ None → slice_get code pc ≡ o → atomics_of (around code pc) ≤ 1
    → atomics_of (passed o pc (around code pc)) ≤ 1
one_next code pc None none at le = le
one_next code pc (Some i) none at le = one_after i.op pc i (around code pc) (none_fails (λ n j. stays_out j.op (around code n)) code pc i none at) le

at_most_one : (code : List Instr) (pc : ℕ) → atomic_fault code ≡ None → atomics_of (around code pc) ≤ 1
at_most_one code zero none = omega arith
at_most_one code (suc pc) none = one_next code pc (slice_get code pc) none refl (at_most_one code pc none)

leaves_in : (pc : ℕ) (i : Instr) (rs : List Region) → nests op.Atome rs ≡ true → atomics_of rs ≤ 1
    → is_in_atomic (regions_after op.Atome pc i rs) ≡ false
leaves_in pc i [] n le = absurd cc
leaves_in pc i (Turning o l ∷ rs) n le = absurd cc
leaves_in pc i (Waiting o ∷ rs) n le = absurd cc
leaves_in pc i (Atomic o ∷ rs) n le = none_inside rs (omega (arith, le))

-- ---- the whole

module _ (loops : ℕ) (code : List Instr) (s : IsStructured loops code) (pc : ℕ) (i : Instr) (at : slice_get code pc ≡ Some i) where
  next : around code (pc + 1) ≡ regions_after i.op pc i (around code pc)
  next = around-more code pc i at

  fits : nests i.op (around code pc) ≡ true
  fits = all_nest code s.nests pc i at

  nests_as : (o : Op) → i.op ≡ o → nests o (around code pc) ≡ true
  nests_as o is = subst (λ p. nests p (around code pc) ≡ true) is fits

  out : stays_out i.op (around code pc) ≡ true
  out = none_fails (λ n j. stays_out j.op (around code n)) code pc i s.atomics at

  after_as : (o : Op) → i.op ≡ o → around code (pc + 1) ≡ regions_after o pc i (around code pc)
  after_as o is = next ∙ ap (λ p. regions_after p pc i (around code pc)) is

  leaves_as : i.op ≡ op.Atome → is_inside code (pc + 1) ≡ false
  leaves_as is = ap is_in_atomic (after_as op.Atome is) ∙ leaves_in pc i (around code pc) (nests_as op.Atome is) (at_most_one code pc s.atomics)

pub structured_keeps : StructuredKeeps
structured_keeps loops code s = record {
  onward = λ pc i at a b. same_inside (around code (pc + 1)) (around code pc)
      (ap atomics_of (next loops code s pc i at) ∙ stays_in i.op pc i (around code pc) (fits loops code s pc i at) a b);
  opens = λ pc i at is. ap is_in_atomic (after_as loops code s pc i at op.Atomb is);
  closes = λ pc i at is. closes_in (around code pc) (nests_as loops code s pc i at op.Atome is);
  leaves = λ pc i at is. leaves_as loops code s pc i at is;
  jump = λ pc i at target. same_inside (around code i.x) (around code pc) (jumps_in loops code s pc i at target).1;
  ends = λ pc i at is. in_loops_alone (around code pc) (nests_as loops code s pc i at op.Ret is);
  outside = λ pc i at k. kept_out i.op (around code pc) k (out loops code s pc i at);
}
