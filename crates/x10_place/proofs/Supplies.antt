-- What the place's own steps ask for: it follows from that the place stands for one of the machine.
use Rattle.std.proofs.Common.{◌≡◌, ℕ, ◌+◌, ◌<◌, ◌≤◌, ◌^◌, true, false, [], length, Some, None, Result, Ok, Err, IfErr, IsErrAnd, refl, sym, ap, ap₂, subst, ◌∙◌, arith}
use Rattle.std.proofs.lemmas.Option.{same_Some}
use Rattle.slab.specs.Slab.{Slab, get, Updates}
use Rattle.x10_kinds.specs.declared.limit.Limit.TheVariants as limits
use Rattle.x10_kinds.specs.declared.kind.Kind.TheVariants as kind
use Rattle.x10_kinds.specs.declared.homes.Term.TheVariants as term
use Rattle.x10_kinds.specs.declared.stop.Stop.{Stop}
use Rattle.x10_kinds.specs.declared.stop.Stop.TheVariants as stop
use Rattle.x10_code.specs.declared.op.Op.{Op}
use Rattle.x10_code.specs.declared.op.Op.TheVariants as op
use Rattle.x10_code.specs.declared.instr.Instr.{Instr}
use Rattle.x10_code.specs.Table.{form_of}
use Rattle.x10_model.specs.Modules.{Function}
use Rattle.x10_model.specs.declared.slot.Slot.{Slot}
use Rattle.x10_model.specs.Ranges.{function_at, parameters_of, result_of, argument_count, AreArgumentRegisters, IsThere}
use Rattle.x10_model.specs.Values.{Place}
use Rattle.x10_model.specs.Places as machine
use Rattle.x10_model.specs.declared.finish.Finish.{Finish}
use Rattle.x10_model.specs.Places.{Origin, Stay}
use Rattle.x10_model.specs.Moves.{as_list}
use Rattle.x10_model.specs.Assignments.{Permits, IsCalled}
use Rattle.x10_verify.specs.Certified.{Certified}
use Rattle.x10_heap.specs.Words.{Context, AreWordsOf}
use Rattle.x10_frame.specs.declared.head.Head.{Head}
use Rattle.x10_copy.specs.Captured.{kinds_of, Refuses}
use Rattle.x10_model.specs.Totals.{sends_to}
use Rattle.x10_place.specs.declared.sent.Outgoing.{Outgoing}
use Rattle.x10_place.specs.declared.sent.Sent.{Sent}
use Rattle.x10_place.specs.Parting.{TakesAlong, head_sent, DepartsBy, DepartsAt}
use Rattle.x10_place.specs.declared.route.Route.TheVariants as route
use Rattle.x10_place.specs.declared.outcome.Deed.{Deed}
use Rattle.x10_place.specs.declared.outcome.Deed.TheVariants as deed
use Rattle.x10_place.specs.declared.outcome.Departure.{Departure}
use Rattle.x10_place.specs.declared.outcome.Departure.TheVariants as departure
use Rattle.x10_place.specs.Frames.{word_at, IsFetchedFor}
use Rattle.x10_place.specs.Homes.{place_in}
use Rattle.x10_place.specs.Routes.{route_of, op_going, op_made}
use Rattle.x10_place.specs.Sending.{slots_of, slots_of_call, slots_of_end, words_from, StandForSome}
use Rattle.x10_place.specs.Stays.{StayState, StoreState, totals_in, books_in, innermost_at, changed_at, Recounts}
use Rattle.x10_place.specs.StandsFor.{Far, PlaceState, place_of, context_of, setting_of, StandsForStay, StandsFor, IsHindered}
use Rattle.x10_place.specs.Stretches.{IsForPlace}
use Rattle.x10_place.proofs.Words.{reads}
use Rattle.x10_place.proofs.Framed.{point_of, in_range, small, count, rule}
use Rattle.x10_place.proofs.Calls.{IsTermOf, passed_to}
use Rattle.x10_place.proofs.Ends.{ret_ends, result_register}
use Rattle.x10_place.proofs.Payloads.{range_at, given_words}
use Rattle.x10_place.proofs.StandingStays.{IsChecked, none_open}
use Rattle.x10_place.proofs.Partings.{send_hindered, frame_hindered}
use Rattle.x10_place.proofs.StepsOfPlace.{working_at}

abbrev any : Far
any home id class = true

module _ (v : Certified) (old : Slab StayState) (s : StoreState) (key : ℕ) {todo : Deed} (i : Instr) (checks : IsChecked v.program)
    (h : IsForPlace v old s key todo i) where
  abbrev p : PlaceState
  p = place_of v old s false

  abbrev a : StayState
  a = h.stay

  abbrev m : machine.Place
  m = h.standing.0

  stands : StandsFor any p m
  stands = h.standing.1

  abbrev x : Context
  x = context_of any p

  abbrev st : Stay
  st = (stands.some key a h.is_there).0

  sh : StandsForStay p.program stands.assigned x a st
  sh = (stands.some key a h.is_there).2

  pub stay_is : (b : StayState) → get old key ≡ Some b → h.stay ≡ b
  stay_is b e = same_Some h.stay b (sym h.is_there ∙ e)

  -- ---- what is sent

  -- what the verifier knows of an AT or ATA
  record Known : Type 0 where
    pub callee : Function
    pub calls : IsCalled (point_of p.program sh.top.function a.top i) sh.top.state (term.Reg i.c) callee
    pub counted : i.b + length callee.parameters ≤ sh.top.function.registers
    pub there : i.c < sh.top.function.registers
    pub named : i.x < length p.program.functions

  counted_by : (o : Op) (callee : Function) → AreArgumentRegisters sh.top.function (argument_count p.program i o) i.b
      → function_at p.program i.x ≡ Some callee → argument_count p.program i o ≡ length (parameters_of (function_at p.program i.x))
      → i.b + length callee.parameters ≤ sh.top.function.registers
  counted_by o callee range is many = subst (λ g. i.b + length (parameters_of g) ≤ sh.top.function.registers) is
      (subst (λ n. i.b + n ≤ sh.top.function.registers) many range.1)

  known_at : i.op ≡ op.At → Known
  known_at e =
      let at = rule p.program stands.assigned x a.top st.top sh.top i h.fetched in
      let permits = subst (λ q. Permits q (point_of p.program sh.top.function a.top i) sh.top.state at.0) e at.1 in
      let range = in_range p.program stands.assigned x a.top st.top sh.top i h.fetched in
      let those = subst (λ q. AreArgumentRegisters sh.top.function (argument_count p.program i q) i.b) e
      (subst (λ q. IsThere p.program sh.top.function i (form_of q).b i.b) e range.b) in
      record {
        callee = permits.1.settles.0;
        calls = permits.1.settles.1;
        counted = counted_by op.At permits.1.settles.0 those permits.1.settles.1.there refl;
        there = subst (λ q. IsThere p.program sh.top.function i (form_of q).c i.c) e range.c;
        named = subst (λ q. IsThere p.program sh.top.function i (form_of q).x i.x) e range.x;
      }

  known_ata : i.op ≡ op.Ata → Known
  known_ata e =
      let at = rule p.program stands.assigned x a.top st.top sh.top i h.fetched in
      let permits = subst (λ q. Permits q (point_of p.program sh.top.function a.top i) sh.top.state at.0) e at.1 in
      let range = in_range p.program stands.assigned x a.top st.top sh.top i h.fetched in
      let those = subst (λ q. AreArgumentRegisters sh.top.function (argument_count p.program i q) i.b) e
      (subst (λ q. IsThere p.program sh.top.function i (form_of q).b i.b) e range.b) in
      record {
        callee = permits.1.settles.0;
        calls = permits.1.settles.1;
        counted = counted_by op.Ata permits.1.settles.0 those permits.1.settles.1.there refl;
        there = subst (λ q. IsThere p.program sh.top.function i (form_of q).c i.c) e range.c;
        named = subst (λ q. IsThere p.program sh.top.function i (form_of q).x i.x) e range.x;
      }

  known : (w : Departure) → i.op ≡ op_going w → Known
  known departure.At e = known_at e
  known departure.Ata e = known_ata e

  -- the place that it names is one of the run
  pub place_within : (w : Departure) → i.op ≡ op_going w → word_at a.top.registers.items i.c < s.places
  place_within w e = (reads x sh.top.state st.top.registers a.top.registers.items i.c kind.Place sh.top.words (known w e).calls.place).2.0

  pub function_small : (w : Departure) → i.op ≡ op_going w → i.x < 2 ^ 16
  function_small w e = let few = checks.fits.functions.1 in let lt = (known w e).named in omega (arith, lt, few)

  -- the arguments stand for values
  pub arguments_stand : (w : Departure) → i.op ≡ op_going w → StandForSome v.program s (slots_of_call v.program i)
      (words_from a.top i.b (slots_of_call v.program i))
  arguments_stand w e =
      let k = known w e in
      let held = reads x sh.top.state st.top.registers a.top.registers.items i.c kind.Place sh.top.words k.calls.place in
      let few = (small p.program stands.assigned x a.top st.top sh.top i h.fetched).registers.1 in
      let many = count p.program stands.assigned x a.top st.top sh.top i h.fetched in
      let to = word_at a.top.registers.items i.c in
      let place : st.top.registers i.c ≡ Some (Place to) = held.1 ∙ ap Some held.2.1 in
      let is_to : IsTermOf x st.top.registers (term.Reg i.c) to =
      record { is_term = (let lt = k.there in omega (arith, lt, few)); place_is = ap place_in place } in
      let passed = passed_to (setting_of p) p.id any m key st stands.assigned p.heap stands.heap a sh i h.fetched
      (term.Reg i.c) to is_to k.callee checks.fits k.calls.there k.calls.arguments k.counted in
      let slots : slots_of_call p.program i ≡ k.callee.parameters = ap parameters_of k.calls.there in
      let range = range_at a.top.registers.items i.b (length k.callee.parameters) (let n = k.counted in omega (arith, n, many)) in
      record {
        context = x;
        cells = m.cells;
        values = passed.0;
        classes = refl;
        places = refl;
        heap = refl;
        holds = stands.heap;
        words_are = subst (λ ss. AreWordsOf x (kinds_of ss) (words_from a.top i.b ss) passed.0) (sym slots)
            (subst (λ ws. AreWordsOf x (kinds_of k.callee.parameters) ws passed.0) (sym range) passed.1.along);
      }

  -- as many were sent there as can be counted
  pub too_many : (w : Departure) → i.op ≡ op_going w → (b : StayState) (under : Finish) (to n : ℕ) → get old key ≡ Some b
      → under ≡ innermost_at s.here b → to ≡ word_at b.top.registers.items i.c → n ≡ (totals_in s under).sent to → n ≡ 4294967295
      → IsHindered p key (stop.Limit limits.Activities)
  too_many w e b under to n there is_under is_to counted full =
      let same : under ≡ innermost_at s.here a = is_under ∙ ap (λ q. innermost_at s.here q) (sym (stay_is b there)) in
      let place : to ≡ word_at a.top.registers.items i.c = is_to
      ∙ ap (λ (q : StayState). word_at q.top.registers.items i.c) (sym (stay_is b there)) in
      let all : n ≡ (totals_in s (innermost_at s.here a)).sent (word_at a.top.registers.items i.c) =
      counted ∙ ap₂ (λ f k. (totals_in s f).sent k) same place in
      send_hindered v old s key i checks h (stop.Limit limits.Activities) w e refl (refl, omega (arith, all, full))

  -- ---- a result

  pub callers_none : todo ≡ deed.Leave → a.callers ≡ []
  callers_none is = h.last is

  is_ret : todo ≡ deed.Leave → i.op ≡ op.Ret
  is_ret is = h.op_is ∙ ap op_made is

  -- the result stands for a value, if there is one
  pub result_stands : todo ≡ deed.Leave → StandForSome v.program s (slots_of_end v.program a.top)
      (words_from a.top i.a (slots_of_end v.program a.top))
  result_stands is =
      let e = is_ret is in
      let at = rule p.program stands.assigned x a.top st.top sh.top i h.fetched in
      let ending = ret_ends (setting_of p) p.id any m key st stands.assigned p.heap stands.heap stands.site.few a sh i h.fetched at.0 e
      (subst (λ q. Permits q (point_of p.program sh.top.function a.top i) sh.top.state at.0) e at.1) (callers_none is)
      (none_open p.program checks a i sh.placed h.fetched e (callers_none is)) in
      let slots : slots_of_end p.program a.top ≡ slots_of sh.top.function.result = ap (λ o. slots_of (result_of o)) sh.top.is_function in
      record {
        context = x;
        cells = m.cells;
        values = as_list ending.result;
        classes = refl;
        places = refl;
        heap = refl;
        holds = stands.heap;
        words_are = subst (λ ss. AreWordsOf x (kinds_of ss) (words_from a.top i.a ss) (as_list ending.result)) (sym slots)
            (given_words x m.cells sh.top.function.result ending.result a.top.registers.items i.a (there e) ending.given);
      }
    where
      there : i.op ≡ op.Ret → (slot : Slot) → sh.top.function.result ≡ Some slot → i.a < length a.top.registers.items
      there e slot is =
          let lt = result_register p.program sh.top.function i slot e (in_range p.program stands.assigned x a.top st.top sh.top i h.fetched).a is in
          let many = count p.program stands.assigned x a.top st.top sh.top i h.fetched in
          omega (arith, lt, many)

  -- the place counts the stay
  pub counts_stay : 0 < (totals_in s a.inherited).live
  counts_stay = (working_at p key a h.standing h.is_there h.ready).registered.live

  pub home_within : a.inherited.home < s.places
  home_within = sh.run.inherited.0

-- ---- as the steps ask for it

module _ (v : Certified) (old : Slab StayState) (s : StoreState) (key : ℕ) {todo : Deed} (i : Instr) (checks : IsChecked v.program)
    (h : IsForPlace v old s key todo i) (b : StayState) (there : get old key ≡ Some b) (w : Departure) (e : i.op ≡ op_going w) where
  same : h.stay ≡ b
  same = stay_is v old s key i checks h b there

  pub place_small : (n : ℕ) → n ≡ word_at b.top.registers.items i.c → n < s.places
  place_small n is = subst (λ k. k < s.places) (sym (is ∙ ap (λ (q : StayState). word_at q.top.registers.items i.c) (sym same)))
      (place_within v old s key i checks h w e)

  pub place_fits : (n : ℕ) → n ≡ word_at b.top.registers.items i.c → n < 2 ^ 16
  place_fits n is = let lt = place_small n is in let few = h.standing.1.site.few in omega (arith, lt, few)

  pub arguments_of : StandForSome v.program s (slots_of_call v.program i) (words_from b.top i.b (slots_of_call v.program i))
  arguments_of = subst (λ (q : StayState). StandForSome v.program s (slots_of_call v.program i) (words_from q.top i.b (slots_of_call v.program i)))
      same (arguments_stand v old s key i checks h w e)

  pub arguments_refused : (why : Stop) → Refuses v.program.classes s.heap (kinds_of (slots_of_call v.program i))
      (words_from b.top i.b (slots_of_call v.program i)) why → IsHindered (place_of v old s false) key why
  arguments_refused why refuses =
      sends w e (subst (λ (q : StayState). Refuses v.program.classes s.heap (kinds_of (slots_of_call v.program i))
      (words_from q.top i.b (slots_of_call v.program i)) why) (sym same) refuses)
    where
      sends : (w : Departure) → i.op ≡ op_going w → Refuses v.program.classes s.heap (kinds_of (slots_of_call v.program i))
          (words_from h.stay.top i.b (slots_of_call v.program i)) why → IsHindered (place_of v old s false) key why
      sends departure.At e = frame_hindered v old s key i checks h why route.At (ap route_of e) tt
      sends departure.Ata e = frame_hindered v old s key i checks h why route.Ata (ap route_of e) tt

  pub departs_so : (out : Sent) (new : Slab StayState) (t u : StoreState) (under : Finish) (o : Outgoing) (hd : Head) (here : ℕ)
      → under ≡ innermost_at s.here b → under.number < 2 ^ 32 → here ≡ s.here → o.to ≡ word_at b.top.registers.items i.c
      → out ≡ record { message = Some o; report = None }
      → ((a : StayState) → get old key ≡ Some a → (c : StayState) × DepartsBy w a c × Updates old new key (Some c))
      → hd ≡ head_sent w here o.to key under i.x
      → TakesAlong v.program s (slots_of_call v.program i) (words_from b.top i.b (slots_of_call v.program i)) hd o.bytes.items → u ≡ s
      → Recounts u t u.opened (changed_at (totals_in u) under (λ y. sends_to y o.to)) (books_in u) → DepartsAt v.program old s key out new t
  departs_so out new t u under o hd here is_under few is_here to sent parts head_is frame unchanged counts = record {
    stay = b;
    is_there = there;
    instr = i;
    fetched = subst (λ (q : StayState). IsFetchedFor v.program q.top i) same h.fetched;
    departure = w;
    is_going = e;
    next = (parts b there).0;
    number = subst (λ (f : Finish). f.number < 2 ^ 32) is_under few;
    departs = (parts b there).1;
    updates = (parts b there).2;
    message = o;
    sent_is = sent;
    to_is = to;
    frame = subst (λ q. TakesAlong v.program s (slots_of_call v.program i) (words_from b.top i.b (slots_of_call v.program i)) q o.bytes.items)
        (head_is ∙ ap₂ (λ n f. head_sent w n o.to key f i.x) is_here is_under) frame;
    store = subst (λ f. Recounts s t s.opened (changed_at (totals_in s) f (λ y. sends_to y o.to)) (books_in s)) is_under
        (subst (λ q. Recounts q t q.opened (changed_at (totals_in q) under (λ y. sends_to y o.to)) (books_in q)) unchanged counts);
  }

module _ (v : Certified) (old : Slab StayState) (s : StoreState) (key : ℕ) (i : Instr) (checks : IsChecked v.program)
    (h : IsForPlace v old s key deed.Leave i) (b : StayState) (there : get old key ≡ Some b) where
  same_end : h.stay ≡ b
  same_end = stay_is v old s key i checks h b there

  pub result_of_it : StandForSome v.program s (slots_of_end v.program b.top) (words_from b.top i.a (slots_of_end v.program b.top))
  result_of_it = subst (λ (q : StayState). StandForSome v.program s (slots_of_end v.program q.top)
      (words_from q.top i.a (slots_of_end v.program q.top))) same_end (result_stands v old s key i checks h refl)

  pub live_before : (u : StoreState) (f : Finish) → u ≡ s → f ≡ b.inherited → 0 < (totals_in u f).live
  live_before u f unchanged is = subst (λ (q : StoreState). 0 < (totals_in q f).live) (sym unchanged)
      (subst (λ g. 0 < (totals_in s g).live) (sym (is ∙ ap (λ (q : StayState). q.inherited) (sym same_end))) (counts_stay v old s key i checks h))

  pub result_refused : (origin : Origin) (why : Stop) → b.back ≡ Some origin
      → Refuses v.program.classes s.heap (kinds_of (slots_of_end v.program b.top)) (words_from b.top i.a (slots_of_end v.program b.top)) why
      → IsHindered (place_of v old s false) key why
  result_refused origin why back refuses =
      frame_hindered v old s key i checks h why route.Return (ap route_of h.op_is)
      (callers_none v old s key i checks h refl, origin, ap (λ (q : StayState). q.back) same_end ∙ back)
      (subst (λ (q : StayState). Refuses v.program.classes s.heap (kinds_of (slots_of_end v.program q.top))
      (words_from q.top i.a (slots_of_end v.program q.top)) why) (sym same_end) refuses)

-- an error that is handed on
pub err_gives : {X : Type 0} (r : Result X Stop) (why : Stop) (P : Stop → Type 0) → IsErrAnd r (λ f. f ≡ why) → P why → IfErr r P
err_gives (Ok x) why P is h = absurd is
err_gives (Err f) why P is h = subst P (sym is) h
