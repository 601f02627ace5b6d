-- One wrong move and one misfit of each cause; and an object that arrives once.
use Rattle.std.proofs.Common.{◌≡◌, ℕ, zero, suc, ◌<◌, pos, List, [], ◌∷◌, Option, Some, None, refl, sym, ap, subst, ◌∙◌, inl, inr, arith, lit<}
use Rattle.std.specs.Prelude.{slice_get, slice_index, map}
use Rattle.std.proofs.lemmas.Bool.{cases_eq, ne_eqb}
use Rattle.x10_code.specs.declared.op.Op.{Op}
use Rattle.x10_code.specs.declared.op.Op.TheVariants as op
use Rattle.x10_code.specs.declared.instr.Instr.{Instr}
use Rattle.x10_model.specs.Maps.{IsIn, with_entry}
use Rattle.x10_model.specs.Modules.{Function}
use Rattle.x10_kinds.specs.declared.kind.Kind.{Kind}
use Rattle.x10_kinds.specs.declared.kind.Kind.TheVariants as kind
use Rattle.x10_model.specs.Values.{Value, Int, Object, Null, Fields, Cells, IsOfKind}
use Rattle.x10_model.specs.Signatures.{FitSlots, AreOfKinds}
use Rattle.x10_model.specs.Moves.{Situation, HoldsFrom, GivesBack}
use Rattle.x10_model.specs.Examples.{instr, plain_function, on_places, one_frame, one_stay, one_place, holding, no_cells}
use Rattle.x10_model.specs.Places.{with_stay}
use Rattle.x10_model.specs.Copies.{Node, Snapshot, Names, named, IsOfKindIn, IsInside, IsReached, root, field, IsWhole}
use Rattle.x10_model.specs.Wrong.{AText, Meets, no_instruction, wrong_at, out_of_range, operand, argument, result_dropped, new_field, no_field, put_field, away, no_export, result, finish_open, no_call, no_finish, not_here, graph, torn, spawn, shift, back}
use Rattle.x10_model.specs.Refused.{a_number, taker, giver, trying, an_object, at_zero, EachMoveGoesWrong, nothing, node, EachMessageMisfits, shared, SharedArrives}
use Rattle.x10_model.proofs.MoveLemmas.{nobody, and_one, is_free}
use Rattle.x10_model.proofs.Worked.{one_distinct}
use Rattle.std.proofs.lemmas.Option.{same_Some}

one_zero : (n m : ℕ) → n ≡ 1 → m ≡ 0 → n ≡ m → ⊥
one_zero n m one none e = omega arith

not_there : {A : Type 0} (v : A) → None ≡ Some v → ⊥
not_there v e = absurd cc

ret_call : (o : Op) → o ≡ op.Ret → o ≡ op.Call → ⊥
ret_call o e f = cc

null_text : (v : Value) → Null ≡ v → Meets an_object AText v → ⊥
null_text v e = subst (λ w. Meets an_object AText w → ⊥) e (λ m. m)

no_argument : (s : Situation) (at : ℕ) (vs : List Value) → s.stay.top.registers s.instr.b ≡ None → HoldsFrom s s.instr.b vs
    → FitSlots (IsOfKind s.place.cells) at vs (a_number ∷ []) → ⊥
no_argument s at [] none held fit = fit
no_argument s at (v ∷ vs) none held fit = not_there v (sym none ∙ held.0)

null_field : (s : Situation) (vs : List Value) → s.stay.top.registers s.instr.b ≡ Some Null → HoldsFrom s s.instr.b vs
    → AreOfKinds (IsOfKind s.place.cells) vs (kind.Int ∷ []) → ⊥
null_field s [] null held fit = fit
null_field s (v ∷ vs) null held fit = subst (λ w. IsOfKind s.place.cells w kind.Int) (sym (same_Some Null v (sym null ∙ held.0))) fit.0

null_put : (k : Kind) → Some kind.Int ≡ Some k → IsOfKind an_object Null k → ⊥
null_put k e is = subst (λ j. IsOfKind an_object Null j) (sym (same_Some kind.Int k e)) is

no_result : (s : Situation) (v : Option Value) → s.stay.top.registers s.instr.a ≡ None → GivesBack s (Some a_number) v → ⊥
no_result s None none g = g
no_result s (Some v) none g = not_there v (sym none ∙ g.0)

abbrev situated : Instr → List Value → Situation
situated i values = record {
  setting = on_places 2 (trying i);
  here = 0;
  place = one_place an_object (one_frame (holding values));
  key = 4;
  stay = one_stay (one_frame (holding values));
  function = plain_function 8 1 (i ∷ []);
  instr = i;
}

abbrev giving : Situation
giving =
    let stay = one_stay (record at_zero { function = 2 }) in
    record {
      setting = on_places 2 (trying (instr op.Fine 0 0 0 0));
      here = 0;
      place = with_stay (one_place no_cells stay.top) 4 (Some stay);
      key = 4;
      stay = stay;
      function = giver;
      instr = instr op.Ret 0 0 0 0;
    }

pub each_move_goes_wrong : EachMoveGoesWrong
each_move_goes_wrong = record {
  no_instruction = no_instruction _ refl refl (is_free _ 4 (and_one _ (and_one _ (nobody 4)))) refl;
  out_of_range = wrong_at _ _ _ refl refl (is_free _ 4 (and_one _ (nobody 4))) refl refl
      (out_of_range (λ range. (let lt : 9 < 8 = range.a in absurd (omega arith))));
  operand = wrong_at _ _ _ refl refl (is_free _ 4 (and_one _ (nobody 4))) refl refl
      (operand 0 AText (0, refl) (λ v held meets. null_text v (same_Some Null v held) meets));
  argument = wrong_at _ _ _ refl refl (is_free _ 4 (and_one _ (nobody 4))) refl refl
      (argument 0 refl (λ vs held fit. no_argument (situated (instr op.Call 0 0 0 1) []) 0 vs refl held fit));
  result_dropped = wrong_at _ _ _ refl refl (is_free _ 4 (and_one _ (nobody 4))) refl refl (result_dropped _ tt refl);
  new_field = wrong_at _ _ _ refl refl (is_free _ 4 (and_one _ (nobody 4))) refl refl
      (new_field refl (λ vs held fit. null_field (situated (instr op.New 1 0 0 0) (Null ∷ [])) vs refl held fit));
  put_field = wrong_at _ _ _ refl refl (is_free _ 4 (and_one _ (nobody 4))) refl refl
      (put_field 5 0 (Int (pos 3) ∷ []) Null refl refl refl refl (λ k e is. null_put k e is));
  no_field = wrong_at _ _ _ refl refl (is_free _ 4 (and_one _ (nobody 4))) refl refl (no_field 5 0 (Int (pos 3) ∷ []) refl refl refl);
  away = wrong_at _ _ _ refl refl (is_free _ 4 (and_one _ (nobody 4))) refl refl (away 1 0 0 refl refl (one_zero 1 0 refl refl));
  no_export = wrong_at _ _ _ refl refl (is_free _ 4 (and_one _ (nobody 4))) refl refl (no_export 0 0 refl refl (λ object e. not_there _ e));
  result = wrong_at _ _ _ refl refl (is_free _ 4 (and_one _ (and_one _ (nobody 4)))) refl refl (result refl (λ v g. no_result giving v refl g));
  finish_open = wrong_at _ _ _ refl refl (is_free _ 4 (and_one _ (and_one _ (nobody 4)))) refl refl (finish_open 1 [] refl refl refl);
  no_call = wrong_at _ _ _ refl refl (is_free _ 4 (and_one _ (and_one _ (nobody 4)))) refl refl
      (no_call _ [] refl refl (λ call e is. ret_call call.op (ap (λ (i : Instr). i.op) (sym (same_Some _ call e))) is));
  no_finish = wrong_at _ _ _ refl refl (is_free _ 4 (and_one _ (and_one _ (nobody 4)))) refl refl (no_finish refl refl);
}

-- ---- messages

abbrev lonely : Snapshot
lonely = record { roots = []; rails = []; nodes = node 0 ∷ [] }

unreached : (v : Value) → IsReached lonely v → ⊥
unreached v (root w m) = not_there v m.1
unreached v (field w zero n reached e m) = not_there v (subst (λ (k : Node). slice_get k.fields m.0 ≡ Some v) (sym (same_Some (node 0) n e)) m.1)
unreached v (field w (suc k) n reached e m) = not_there n e

pub each_message_misfits : EachMessageMisfits
each_message_misfits = record {
  not_here = not_here _ (one_zero 1 0 refl refl);
  graph = graph _ (λ fits. not_there _ (fits.classes 0 (node 7) refl).1);
  torn = torn _ (λ whole. unreached (Object 0) (whole.nodes_reached 0 (lit< tt)));
  spawn = spawn 1 0 _ 1 _ (λ callee fits none. subst (λ (f : Function). FitSlots (IsOfKindIn nothing) 0 [] f.parameters)
      (sym (same_Some taker callee fits.callee_is)) fits.arguments);
  shift = shift 1 0 0 _ 9 _ (λ callee fits. not_there callee fits.callee_is);
  back = back 1 0 0 _ (λ stay call callee waits fits. not_there stay waits.is_there);
}

-- ---- arrivals

below_one : (P : ℕ → Type 0) → P 0 → (k : ℕ) → k < 1 → P k
below_one P p zero lt = p
below_one P p (suc k) lt = absurd (omega arith)

twice : (v : Value) → IsIn v (Object 0 ∷ Object 0 ∷ []) → Object 0 ≡ v
twice v (zero, e) = same_Some (Object 0) v e
twice v (suc zero, e) = same_Some (Object 0) v e
twice v (suc (suc i), e) = absurd (not_there v e)

shared_whole : IsWhole shared
shared_whole = record {
  roots = λ v m. subst (IsInside shared) (twice v m) (lit< tt);
  fields = no_fields;
  nodes_reached = below_one (λ k. IsReached shared (Object k)) (root (Object 0) (0, refl));
  rails_reached = λ i lt. absurd (omega arith);
}
  where
    no_fields : (k : ℕ) (n : Node) (v : Value) → slice_get shared.nodes k ≡ Some n → IsIn v n.fields → IsInside shared v
    no_fields zero n v e m = absurd (not_there v (subst (λ (j : Node). slice_get j.fields m.0 ≡ Some v) (sym (same_Some (node 0) n e)) m.1))
    no_fields (suc k) n v e m = absurd (not_there n e)

abbrev shared_names : Names
shared_names = record { objects = 5 ∷ []; rails = [] }

abbrev after : Cells
after = with_entry no_cells 5 (Some (Fields 0 []))

lies_at : (k : ℕ) (n : Node) → slice_get shared.nodes k ≡ Some n
    → after (slice_index shared_names.objects k) ≡ Some (Fields n.class (map (named shared_names) n.fields))
lies_at zero n e = subst (λ (j : Node). after 5 ≡ Some (Fields j.class (map (named shared_names) j.fields))) (same_Some (node 0) n e) refl
lies_at (suc k) n e = absurd (not_there n e)

pub shared_arrives : SharedArrives
shared_arrives = record {
  names = shared_names;
  copy = record {
    whole = shared_whole;
    names = record { objects = refl; rails = refl; objects_distinct = one_distinct 5; rails_distinct = λ i j x e f. absurd (not_there x e) };
    roots = refl;
    nodes = lies_at;
    bytes = λ i bytes e. absurd (not_there bytes e);
  };
  unused = λ r n. refl;
  others = λ r never. elim (cases_eq r 5) [
    | inl same ↦ absurd (never (inl (0, ap Some (sym same))))
    | inr other ↦ (let t = ne_eqb r 5 other in rw t refl)
  ];
}
