-- A move keeps all answered. What moves isn't away; an at sends what fits, and waits for it; and a stay that ends gives back
-- what the one that waits for it asked for.
use Rattle.std.proofs.Common.{◌≡◌, ℕ, true, false, List, [], ◌∷◌, Option, Some, None, refl, sym, ◌∙◌, ap, subst}
use Rattle.std.specs.Prelude.{slice_get}
use Rattle.std.proofs.lemmas.Option.{same_Some}
use Rattle.x10_code.specs.declared.op.Op.{Op}
use Rattle.x10_code.specs.declared.op.Op.TheVariants as op
use Rattle.x10_model.specs.Maps.{with_entry, with_pair}
use Rattle.x10_model.specs.Modules.{Function}
use Rattle.x10_model.specs.Ranges.{function_at, instr_in}
use Rattle.x10_model.specs.Values.{Value, Place}
use Rattle.x10_model.specs.Copies.{Snapshot, Captures}
use Rattle.x10_model.specs.Places as places
use Rattle.x10_model.specs.declared.finish.Finish.{Finish}
use Rattle.x10_model.specs.Places.{Setting, CallFrame, Origin, Stay, Message, Spawn, Shift, innermost, Effect, Waits, Works, Begins, Spawns, Shifts, Opens, Closes, Ends, next}
use Rattle.x10_model.specs.Moves.{Situation, Holds, Passes, GivesBack, SendsBack, new_stay, resumed}
use Rattle.x10_model.specs.Deliveries.{FitsFunctionAt}
use Rattle.x10_model.specs.Worlds.{Net, sent, net_after}
use Rattle.x10_model.proofs.Maps.{at_key}
use Rattle.x10_model.proofs.NotWrong.{situation}
use Rattle.x10_model.proofs.Ways as ways
use Rattle.x10_model.proofs.Operations.{way_of}
use Rattle.x10_model.proofs.Ways.{same_function, Way}
use Rattle.x10_finish.specs.Nesting.{stays_in, Stays, stays_of}
use Rattle.x10_finish.proofs.NestedFinishes.{pair_same, no_stay}
use Rattle.x10_finish.proofs.WorldParts.{entry_self, stays_after}
use Rattle.x10_finish.proofs.Sound.{overwritten, free_after}
use Rattle.x10_world.specs.Links.{first_function_of, first_function, WaitsAt, AreAnswered, AnsweredAfterMove}
use Rattle.x10_world.proofs.LinkLemmas.{same_first, answered_as, IsNotWaiting, waits_on, posts_on, stays_on, ready_not_waiting, free_not_waiting, FitsIfAny, posts_sent, arguments_in, result_in}

-- ---- the net after a move

-- the situation is one of the net, its stay is ready and stands at its instruction, and all is answered
record Stands (net : Net) (s : Situation) : Type 0 where
  pub answered : AreAnswered s.setting net
  pub place_is : net.places s.here ≡ Some s.place
  pub is_there : stays_of net s.here s.key ≡ Some s.stay
  pub is_ready : s.stay.away ≡ false
  pub function_is : function_at s.setting.program s.stay.top.function ≡ Some s.function
  pub instr_is : slice_get s.function.code s.stay.top.pc ≡ Some s.instr

abbrev Answered : Net → ℕ → Situation → places.Place → Effect → Type 0
Answered net number s new effect = AreAnswered s.setting (net_after net s.here new effect number)

-- the stay goes on with the function that it began with, and its result goes where it went, or it ends
abbrev IsKept : Stay → Option Stay → Type 0
IsKept s None = Unit {0}
IsKept s (Some t) = (t.back ≡ s.back) × (first_function t ≡ first_function s)

-- the stays after it
abbrev stays_with : Net → Situation → Option Stay → Stays
stays_with net s stay = with_pair (stays_of net) s.here s.key stay

not_waiting : (net : Net) (s : Situation) → Stands net s → IsNotWaiting s.setting.program (stays_of net) s.here s.key
not_waiting net s at = ready_not_waiting s.setting.program (stays_of net) s.here s.key s.stay at.is_there
    (λ away. absurd (let x = sym at.is_ready ∙ away in cc))

-- what waited for the stay that moves waits for what it is now
own_kept : (net : Net) (s : Situation) (stay : Option Stay) (t : Stay) (x : Origin) → Stands net s → IsKept s.stay stay → stay ≡ Some t
    → t.back ≡ Some x → WaitsAt s.setting.program (stays_of net) x.place x.key s.here (first_function t)
own_kept net s None t x at kept is back = absurd cc
own_kept net s (Some u) t x at kept is back =
    let same : (t.back ≡ s.stay.back) × (first_function t ≡ first_function s.stay) = subst (IsKept s.stay) is kept in
    subst (WaitsAt s.setting.program (stays_of net) x.place x.key s.here) (sym same.1)
    (at.answered.stays s.here s.key s.stay x at.is_there (sym same.0 ∙ back))

-- the stay is another one or none
after_one : (net : Net) (number : ℕ) (s : Situation) (new : places.Place) (effect : Effect) (stay : Option Stay) → Stands net s
    → new.stays ≡ with_entry s.place.stays s.key stay → IsKept s.stay stay → FitsIfAny s.setting (stays_with net s stay) (sent effect)
    → Answered net number s new effect
after_one net number s new effect stay at stays kept fits =
    answered_as s.setting (net_after net s.here new effect number) (stays_with net s stay)
    (stays_after net s.here s.key s.place new stay at.place_is stays)
    (stays_on s.setting.program (stays_of net) s.here s.key stay (not_waiting net s at)
    (λ t x is back. own_kept net s stay t x at kept is back) at.answered.stays)
    (posts_sent s.setting (stays_with net s stay) net.posts number (sent effect) fits
    (posts_on s.setting (stays_of net) net.posts s.here s.key stay (not_waiting net s at) at.answered.posts))

-- and another stay begins, whose result goes nowhere
after_two : (net : Net) (number other function : ℕ) (under : Finish) (s : Situation) (new : places.Place) (t u : Stay) → Stands net s
    → new.stays ≡ with_entry (with_entry s.place.stays s.key (Some t)) other (Some u) → IsKept s.stay (Some t) → s.place.stays other ≡ None
    → u.back ≡ None
    → Answered net number s new (Begins other function under)
after_two net number other function under s new t u at stays kept free alone =
    answered_as s.setting (net_after net s.here new (Begins other function under) number)
    (with_pair (stays_of between) s.here other (Some u)) stays_are
    (stays_on s.setting.program (stays_of between) s.here other (Some u) none
    (λ v x is back. no_stay x (sym alone ∙ ap (λ (y : Stay). y.back) (same_Some u v is) ∙ back)) first.stays)
    (posts_on s.setting (stays_of between) net.posts s.here other (Some u) none first.posts)
  where
    middle : places.Place
    middle = places.with_stay s.place s.key (Some t)

    between : Net
    between = net_after net s.here middle Works number

    first : AreAnswered s.setting between
    first = after_one net number s middle Works (Some t) at refl kept tt

    stays_are : (λ p. stays_in (with_entry net.places s.here (Some new) p)) ≡ with_pair (stays_of between) s.here other (Some u)
    stays_are =
        let stays_at : (ℕ → Option places.Place) → Stays = λ f p. stays_in (f p) in
        ap stays_at (sym (overwritten net.places s.here (Some middle) (Some new)))
        ∙ stays_after between s.here other middle new (Some u) (at_key net.places s.here (Some middle)) stays

    open_key : stays_of between s.here other ≡ None
    open_key =
        let is = stays_after net s.here s.key s.place middle (Some t) at.place_is refl in
        ap (λ (f : Stays). f s.here other) is ∙ free_after (stays_of net) s.here s.key other s.stay t at.is_there
        (ap (λ o. stays_in o other) at.place_is ∙ free)

    none : IsNotWaiting s.setting.program (stays_of between) s.here other
    none = free_not_waiting s.setting.program (stays_of between) s.here other open_key

-- ---- what becomes of a stay

-- it works on with other call frames, at a place with the stays that there were
works : (net : Net) (number : ℕ) (s : Situation) (base : places.Place) (t : Stay) → Stands net s → base.stays ≡ s.place.stays → IsKept s.stay (Some t)
    → Answered net number s (places.with_stay base s.key (Some t)) Works
works net number s base t at same kept = after_one net number s (places.with_stay base s.key (Some t)) Works (Some t) at
    (ap (λ m. with_entry m s.key (Some t)) same) kept tt

-- behind its instruction, with other finishes
kept_next : (s : Situation) (finishes : List ℕ) → IsKept s.stay (Some (record s.stay { top = next s.stay.top; finishes = finishes }))
kept_next s finishes = (refl, same_first (next s.stay.top) s.stay.top s.stay.callers refl)

-- the result goes back to the stay that waits for the function that ends
goes_back : (net : Net) (s : Situation) (result : Option Value) (back : Option Origin) (message : Option Message) → Stands net s → s.stay.callers ≡ []
    → GivesBack s s.function.result result → s.stay.back ≡ back → SendsBack s result back message
    → FitsIfAny s.setting (stays_with net s None) message
goes_back net s result None message at alone gives is h = subst (FitsIfAny s.setting (stays_with net s None)) (sym h) tt
goes_back net s result (Some origin) message at alone gives is h =
    let own : first_function s.stay ≡ s.stay.top.function = ap (first_function_of s.stay.top) alone in
    let waits = at.answered.stays s.here s.key s.stay origin at.is_there is in
    subst (FitsIfAny s.setting (stays_with net s None)) (sym h.2) (
      s.stay.top.function,
      s.function,
      waits_on s.setting.program (stays_of net) s.here s.key origin.place origin.key s.here s.stay.top.function None (not_waiting net s at)
          (subst (WaitsAt s.setting.program (stays_of net) origin.place origin.key s.here) own waits),
      at.function_is,
      result_in s s.function.result result h.0 h.1 gives,
      h.1.1.whole,
    )

-- a caller goes on in its function
caller_function : (caller : CallFrame) (register : ℕ) (result : Option Value) → (resumed caller register result).function ≡ caller.function
caller_function caller register None = refl
caller_function caller register (Some v) = refl

-- arguments that fit a function at a place fit it there in the message
fits_function : (s : Situation) (to : ℕ) (callee : Function) (arguments : List Value) (graph : Snapshot) → Passes s to callee arguments
    → Captures s.place.cells arguments graph → FitsFunctionAt s.setting to s.instr.x graph callee
fits_function s to callee arguments graph passes captures = record {
  callee_is = passes.callee_is;
  arguments = arguments_in s.place.cells arguments graph to callee.parameters captures passes.fit;
}

-- the stay that is away waits at its at
waits_away : (net : Net) (s : Situation) (to : ℕ) → Stands net s → s.instr.op ≡ op.At → Holds s s.instr.c (Place to)
    → WaitsAt s.setting.program (stays_with net s (Some (record s.stay { away = true }))) s.here s.key to s.instr.x
waits_away net s to at op_is holds = record {
  stay = record s.stay { away = true };
  call = s.instr;
  is_there = pair_same (stays_of net) s.here s.key (Some (record s.stay { away = true }));
  is_away = refl;
  call_is = ap (λ f. instr_in f s.stay.top.pc) at.function_is ∙ at.instr_is;
  is_at = op_is;
  function_is = refl;
  to_is = holds;
}

-- ---- moves

answers : (net : Net) (number : ℕ) (s : Situation) (o : Op) (new : places.Place) (effect : Effect) → Stands net s → s.instr.op ≡ o
    → Way s o new effect → Answered net number s new effect
answers net number s o new effect at op_is (ways.goes_onward base top inside g) =
    works net number s base (record s.stay { top = top; inside = inside }) at g.stays
    (refl, same_first top s.stay.top s.stay.callers (same_function s o top g.onward))
answers net number s o new effect at op_is (ways.calls callee arguments passes) = works net number s s.place _ at refl (refl, refl)
answers net number s o new effect at op_is (ways.returns result caller callers call gives callers_are call_is is_call) =
    let top = resumed caller call.a result in
    works net number s s.place (record s.stay { top = top; callers = callers }) at refl
    (refl, same_first top caller callers (caller_function caller call.a result) ∙ sym (ap (first_function_of s.stay.top) callers_are))
answers net number s o new effect at op_is (ways.ends result back gives alone none sends) =
    after_one net number s new (Ends s.stay.inherited back) None at refl tt (goes_back net s result s.stay.back back at alone gives refl sends)
answers net number s o new effect at op_is (ways.begins callee arguments key passes no_result free) =
    let under = innermost s.here s.stay in
    after_two net number key s.instr.x under s new (record s.stay { top = next s.stay.top }) (new_stay s.instr.x arguments under None) at refl
    (kept_next s s.stay.finishes) free refl
answers net number s o new effect at op_is (ways.shifts callee arguments to graph holds passes captures) =
    let under = innermost s.here s.stay in
    after_one net number s new (Shifts (Shift s.here to s.key under s.instr.x graph) under) (Some (record s.stay { away = true })) at refl
    (refl, refl)
    (callee, fits_function s to callee arguments graph passes captures, waits_away net s to at op_is holds, captures.1.whole)
answers net number s o new effect at op_is (ways.spawns callee arguments to graph holds passes no_result captures) =
    let under = innermost s.here s.stay in
    after_one net number s new (Spawns (Spawn s.here to under s.instr.x graph) s.instr.x under)
    (Some (record s.stay { top = next s.stay.top })) at refl (kept_next s s.stay.finishes)
    (callee, fits_function s to callee arguments graph passes captures, no_result, captures.1.whole)
answers net number s o new effect at op_is ways.opens =
    after_one net number s new (Opens s.place.opened (innermost s.here s.stay))
    (Some (record s.stay { top = next s.stay.top; finishes = s.place.opened ∷ s.stay.finishes })) at refl
    (kept_next s (s.place.opened ∷ s.stay.finishes)) tt
answers net number s o new effect at op_is (ways.waits n finishes innermost_is) =
    after_one net number s new (Waits n) (Some s.stay) at (sym
    (entry_self s.place.stays s.key (Some s.stay) (sym (ap (λ o. stays_in o s.key) at.place_is) ∙ at.is_there))) (refl, refl) tt
answers net number s o new effect at op_is (ways.closes n finishes innermost_is) =
    after_one net number s new (Closes n) (Some (record s.stay { top = next s.stay.top; finishes = finishes })) at refl (kept_next s finishes) tt

pub answered_after_move : AnsweredAfterMove
answered_after_move setting net here key number old new effect answered e m =
    let at : Stands net (situation m) = record {
      answered = answered;
      place_is = e;
      is_there = ap (λ o. stays_in o key) e ∙ m.is_there;
      is_ready = m.is_ready;
      function_is = m.function_is;
      instr_is = m.instr_is;
    } in
    answers net number (situation m) m.instr.op new effect at refl (way_of m.instr.op (situation m) new effect m.does)
