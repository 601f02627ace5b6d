-- An activity that makes a step of a stretch isn't idle.
use Rattle.std.proofs.Common.{◌≡◌, ℕ, Bool, true, false, List, ◌∷◌, Some, sym, ap, subst, ◌∙◌, inl, inr}
use Rattle.std.proofs.lemmas.Option.{same_Some}
use Rattle.slab.specs.Slab.{get}
use Rattle.x10_code.specs.declared.op.Op.TheVariants as op
use Rattle.x10_code.specs.declared.instr.Instr.{Instr}
use Rattle.x10_model.specs.Places as machine
use Rattle.x10_model.specs.Places.{Stay, Effect}
use Rattle.x10_model.specs.Ranges.{instr_at, instr_in}
use Rattle.x10_model.specs.Moves.{Does}
use Rattle.x10_model.proofs.Lists.{none_some}
use Rattle.x10_model.proofs.Found.{head_is}
use Rattle.x10_model.proofs.NotWrong.{situation}
use Rattle.x10_place.specs.declared.place.Stepped.TheVariants as stepped
use Rattle.x10_place.specs.declared.sent.Sent.{Sent}
use Rattle.x10_place.specs.Stays.{StayState, IsDoneHere}
use Rattle.x10_place.specs.StandsFor.{PlaceState, Far, StandsFor, IsIdleAt, nobody, away, kept_out, waits, Leads, store_of}
use Rattle.x10_place.specs.Laws.{NoStrideIsIdle}
use Rattle.x10_place.proofs.Insides.{kept_out_of}

true_false : (b : Bool) → b ≡ true → b ≡ false → ⊥
true_false b t f = cc

-- a place that stands for one of the machine makes a step of the activity with a key
module _ (far : Far) (p q : PlaceState) (m : machine.Place) (key : ℕ) (out : Sent) (stands : StandsFor far p m)
    (led : Leads far p m key (stepped.Moved out) q) where
  -- the machine's stay is the one that the place's stands for
  same : (a : StayState) (there : get p.stays key ≡ Some a) → (stands.some key a there).0 ≡ led.moves.stay
  same a there = let s = stands.some key a there in same_Some s.0 led.moves.stay (sym s.1 ∙ led.moves.is_there)

  -- it stands at the instruction that is made
  instr-is : (a : StayState) (there : get p.stays key ≡ Some a) → instr_at p.program a.top.function a.top.pc ≡ Some led.moves.instr
  instr-is a there =
      let s = stands.some key a there in
      let at : instr_at p.program led.moves.stay.top.function led.moves.stay.top.pc ≡ Some led.moves.instr =
      ap (λ o. instr_in o led.moves.stay.top.pc) led.moves.function_is ∙ led.moves.instr_is in
      subst (λ n. instr_at p.program a.top.function n ≡ Some led.moves.instr) (sym (ap (λ (x : Stay). x.top.pc) (same a there)) ∙ s.2.top.pc_is)
      (subst (λ f. instr_at p.program f led.moves.stay.top.pc ≡ Some led.moves.instr)
      (sym (ap (λ (x : Stay). x.top.function) (same a there)) ∙ s.2.top.function_is) at)

  -- at the end of a finish it goes on only where that may end
  ends : (number : ℕ) (outer : List ℕ) → led.moves.stay.finishes ≡ number ∷ outer → (IsDoneHere (store_of p) number → ⊥)
      → Does op.Fine (situation led.moves) led.new led.effect → ⊥
  ends number outer innermost never does = elim does.3 [
    | inl still ↦ led.answers.0 does.0 still.1
    | inr closes ↦ never (subst (λ n. IsDoneHere (store_of p) n) (head_is does.0 number does.1 outer (sym does.2 ∙ innermost))
        (led.counted.done does.0 closes.1).0)
  ]

  busy : IsIdleAt p key → ⊥
  busy (nobody none) = none_some (m.stays key) led.moves.stay (stands.none key none) led.moves.is_there
  busy (away a there on) = let s = stands.some key a there in
      true_false a.away on (sym s.2.away ∙ ap (λ (x : Stay). x.away) (same a there) ∙ led.moves.is_ready)
  busy (kept_out other inside apart) = kept_out_of far p m key other stands inside apart led.moves.is_free
  busy (waits a number outer there free fine innermost never) =
      let s = stands.some key a there in
      let is : led.moves.instr.op ≡ op.Fine = ap (λ (i : Instr). i.op) (same_Some led.moves.instr fine.0 (sym (instr-is a there) ∙ fine.1))
      ∙ fine.2 in
      ends number outer (sym (ap (λ (x : Stay). x.finishes) (same a there)) ∙ s.2.finishes ∙ innermost) never
      (subst (λ o. Does o (situation led.moves) led.new led.effect) is led.moves.does)

pub no_stride_is_idle : NoStrideIsIdle
no_stride_is_idle far p m key out q stands stride idle = busy far p q m key out stands (stride.leads far m stands) idle
