-- How many finishes an instruction stands in, by the structure of its function.
use Rattle.std.proofs.Common.{◌≡◌, ◌≢◌, ◌⊎◌, ℕ, ◌+◌, ◌==◌, true, List, [], ◌∷◌, Some, refl, sym, ap, subst, ◌∙◌, inl, inr, add-one, arith}
use Rattle.std.specs.Prelude.{slice_get}
use Rattle.std.proofs.lemmas.Bool.{eqb-true, and_parts}
use Rattle.x10_code.specs.declared.op.Op.{Op}
use Rattle.x10_code.specs.declared.op.Op.TheVariants as op
use Rattle.x10_code.specs.declared.instr.Instr.{Instr}
use Rattle.x10_code.specs.Table.{form_of}
use Rattle.x10_model.specs.Structure.{Region, Turning, Waiting, Atomic, regions_after, around, are_loops, nests, is_target, jumps_well}
use Rattle.x10_bounds.specs.Spots.{begins_before, finishes_of, atomics_of}
use Rattle.x10_bounds.specs.Potential.{IsStructured}
use Rattle.x10_bounds.specs.OpenFinishes.{StructuredMatches}
use Rattle.x10_bounds.proofs.FirstFailure.{none_fails}
use Rattle.x10_bounds.proofs.Around.{leaves-around, same_kept}
use Rattle.x10_bounds.proofs.Falls.{all_nest, closes_loop, forward_is, jump_is}
use Rattle.x10_bounds.proofs.Spots.{around-more}
use Rattle.x10_bounds.proofs.Turns.{AreOpened, all_opened}

-- ---- one instruction further

stays_in : (o : Op) (pc : ℕ) (i : Instr) (rs : List Region) → nests o rs ≡ true → o ≢ op.Finb → o ≢ op.Fine
    → finishes_of (regions_after o pc i rs) ≡ finishes_of rs
stays_in op.Finb pc i rs n a b = absurd (a refl)
stays_in op.Fine pc i rs n a b = absurd (b refl)
stays_in op.Loop pc i rs n a b = refl
stays_in op.Endl pc i (Turning o l ∷ rs) n a b = refl
stays_in op.Endl pc i (Waiting o ∷ rs) n a b = absurd cc
stays_in op.Endl pc i (Atomic o ∷ rs) n a b = absurd cc
stays_in op.Atomb pc i rs n a b = refl
stays_in op.Atome pc i (Atomic o ∷ rs) n a b = refl
stays_in op.Atome pc i (Turning o l ∷ rs) n a b = absurd cc
stays_in op.Atome pc i (Waiting o ∷ rs) n a b = absurd cc
stays_in op.Atome pc i [] n a b = absurd cc
stays_in op.Endl pc i [] n a b = absurd cc
stays_in _ pc i rs n a b = refl

leaves_one : (pc : ℕ) (i : Instr) (rs : List Region) → nests op.Fine rs ≡ true → finishes_of rs ≡ finishes_of (regions_after op.Fine pc i rs) + 1
leaves_one pc i (Waiting o ∷ rs) n = refl
leaves_one pc i (Turning o l ∷ rs) n = absurd cc
leaves_one pc i (Atomic o ∷ rs) n = absurd cc
leaves_one pc i [] n = absurd cc

in_loops_alone : (rs : List Region) → are_loops rs ≡ true → finishes_of rs ≡ 0
in_loops_alone [] e = refl
in_loops_alone (Turning o l ∷ rs) e = in_loops_alone rs e
in_loops_alone (Waiting o ∷ rs) e = absurd cc
in_loops_alone (Atomic o ∷ rs) e = absurd cc

-- ---- jumps

is_end : (o : Op) → (o ≡ op.Endl) ⊎ (o ≢ op.Endl)
is_end op.Endl = inl refl
is_end _ = inr (λ e. absurd cc)

-- to as many finishes and as many atomic regions
abbrev pub IsKept : List Region → List Region → Type 0
IsKept from to = (finishes_of to ≡ finishes_of from) × (atomics_of to ≡ atomics_of from)

module _ (loops : ℕ) (code : List Instr) (s : IsStructured loops code) (pc : ℕ) (i : Instr) (at : slice_get code pc ≡ Some i) where
  jumps_back_in : i.op ≡ op.Endl → around code i.x ≡ around code pc
  jumps_back_in is =
      let c = closes_loop loops code pc i s at is in
      let opened = subst (λ rs. AreOpened code rs) c.inside (all_opened code pc) in
      let there : around code (c.opener + 1) ≡ Turning c.opener c.limit ∷ c.rs = ap (around code) (add-one c.opener) ∙ opened.0 in
      ap (around code) c.back ∙ there ∙ sym c.inside

  jumps_on_in : i.op ≢ op.Endl → is_target (form_of i.op).x ≡ true → IsKept (around code pc) (around code i.x)
  jumps_on_in ne target =
      let j = forward_is code pc i.x (jump_is code pc i i.op ne target (none_fails (λ n k. jumps_well code n k k.op) code pc i s.jumps at)) in
      let kept = and_parts (begins_before (around code i.x) pc) (same_kept (around code pc) (around code i.x))
      (sym (leaves-around code pc i.x (omega (arith, j.later))) ∙ j.leaves) in
      let same = and_parts (finishes_of (around code pc) == finishes_of (around code i.x))
      (atomics_of (around code pc) == atomics_of (around code i.x)) kept.1 in (
        sym (eqb-true (finishes_of (around code pc)) (finishes_of (around code i.x)) same.0),
        sym (eqb-true (atomics_of (around code pc)) (atomics_of (around code i.x)) same.1),
      )

  pub jumps_in : is_target (form_of i.op).x ≡ true → IsKept (around code pc) (around code i.x)
  jumps_in target = elim (is_end i.op) [
    | inl is ↦ (ap finishes_of (jumps_back_in is), ap atomics_of (jumps_back_in is))
    | inr ne ↦ jumps_on_in ne
        target
  ]

pub structured_matches : StructuredMatches
structured_matches loops code s = record {
  onward = λ pc i at a b. ap finishes_of (around-more code pc i at) ∙ stays_in i.op pc i (around code pc) (all_nest code s.nests pc i at) a b;
  opens = λ pc i at is. ap finishes_of (around-more code pc i at ∙ ap (λ o. regions_after o pc i (around code pc)) is);
  closes = λ pc i at is.
      leaves_one pc i (around code pc) (subst (λ o. nests o (around code pc) ≡ true) is (all_nest code s.nests pc i at))
      ∙ ap (λ n. n + 1) (sym (ap finishes_of (around-more code pc i at ∙ ap (λ o. regions_after o pc i (around code pc)) is)));
  jump = λ pc i at target. (jumps_in loops code s pc i at target).0;
  ends = λ pc i at is. in_loops_alone (around code pc) (subst (λ o. nests o (around code pc) ≡ true) is (all_nest code s.nests pc i at));
}
