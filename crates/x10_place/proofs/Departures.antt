-- An activity that is sent to a place, or goes on there: the place's step is the machine's.
use Rattle.std.proofs.Common.{◌≡◌, ◌≢◌, ℕ, ◌+◌, ◌<◌, ◌≤◌, ◌^◌, true, false, List, length, Some, refl, sym, ap, ap₂, subst, ◌∙◌, inl, inr, arith}
use Rattle.std.specs.Prelude.{map}
use Rattle.slab.specs.Slab.{Slab, get}
use Rattle.x10_kinds.specs.declared.kind.Kind.TheVariants as kind
use Rattle.x10_kinds.specs.declared.homes.Term.TheVariants as term
use Rattle.x10_code.specs.declared.op.Op.{Op}
use Rattle.x10_code.specs.declared.op.Op.TheVariants as op
use Rattle.x10_code.specs.declared.instr.Instr.{Instr}
use Rattle.x10_code.specs.Table.{form_of}
use Rattle.x10_model.specs.Modules.{Function}
use Rattle.x10_model.specs.Ranges.{function_at, parameters_of, argument_count, AreArgumentRegisters, IsThere}
use Rattle.x10_model.specs.Values.{Value, Place}
use Rattle.x10_model.specs.Places as machine
use Rattle.x10_model.specs.declared.finish.Finish.{Finish}
use Rattle.x10_model.specs.Places.{Stay, Message, Effect, Waits, Spawns, Shifts, innermost, innermost_of, receiver, with_stay, next}
use Rattle.x10_model.specs.Moves.{Does, Situation, Holds, Passes}
use Rattle.x10_model.specs.Marshalling.{snapshot_of}
use Rattle.x10_model.specs.Maps.{IsIn}
use Rattle.x10_model.specs.Frames as frames
use Rattle.x10_model.specs.Assignments.{State, Reaches, Edges, Permits, IsCalled}
use Rattle.x10_model.proofs.Rules.{leads}
use Rattle.x10_model.specs.Totals.{Totals, Did, sends_to, is_reported}
use Rattle.x10_model.specs.Worlds.{sent}
use Rattle.x10_model.proofs.Lists.{none_some}
use Rattle.x10_heap.specs.Words.{Context, AreWordsOf, HoldsHeap}
use Rattle.x10_heap.proofs.GrownHeaps.{Grows, grows_not}
use Rattle.x10_frame.specs.declared.head.Head.{Head}
use Rattle.x10_frame.specs.declared.head.What.TheVariants as what
use Rattle.x10_frame.specs.Heads.{head}
use Rattle.x10_copy.specs.Captured.{kinds_of, IsSnapshot}
use Rattle.x10_place.specs.declared.place.Stepped.TheVariants as stepped
use Rattle.x10_place.specs.declared.outcome.Departure.{Departure}
use Rattle.x10_place.specs.declared.outcome.Departure.TheVariants as departure
use Rattle.x10_place.specs.declared.route.Route.TheVariants as route
use Rattle.x10_place.specs.declared.sent.Sent.{Sent}
use Rattle.x10_place.specs.Frames.{word_at}
use Rattle.x10_place.specs.Homes.{place_in}
use Rattle.x10_place.specs.Routes.{route_of, op_going}
use Rattle.x10_place.specs.Sending.{slots_of_call, words_from}
use Rattle.x10_place.specs.Parting.{head_sent, DepartsBy, DepartsAt}
use Rattle.x10_place.specs.Messages.{IsMessageSent, PutsOut}
use Rattle.x10_place.specs.Stays.{StayState, StoreState, totals_in, books_in, innermost_at, changed_at, Recounts, GoesNext}
use Rattle.x10_place.specs.StandsFor.{Far, context, context_of, PlaceState, store_of, with_stays, line_as, StandsForStay, StandForCallers, IsOfRun, HoldsExports, StandsFor, setting_of, IsCountedBy, Leads, LeadsAll, AreOutside}
use Rattle.std.proofs.lemmas.Bool.{cases_lt}
use Rattle.x10_place.proofs.Words.{reads}
use Rattle.x10_place.proofs.Framed.{point_of, in_range, small, count, rule}
use Rattle.x10_place.proofs.Local.{situated}
use Rattle.x10_place.proofs.Calls.{IsTermOf, passed_to, innermost_home}
use Rattle.x10_place.proofs.Ends.{next_stands}
use Rattle.x10_place.proofs.Payloads.{range_at}
use Rattle.x10_place.proofs.StandingStays.{IsChecked, next_placed}
use Rattle.x10_place.proofs.CountsOfMoves.{KeepsBooks, counted_in, spawns_count, shifts_count}
use Rattle.x10_place.proofs.Texts.{adds_none}
use Rattle.x10_place.proofs.Steps.{moves, rebuilt, keys_one, keyed_one}
use Rattle.x10_place.proofs.Insides.{free_of}

not_textk : (w : Departure) → op_going w ≡ op.Textk → ⊥
not_textk departure.At e = absurd cc
not_textk departure.Ata e = absurd cc

not_tcat : (w : Departure) → op_going w ≡ op.Tcat → ⊥
not_tcat departure.At e = absurd cc
not_tcat departure.Ata e = absurd cc

module _ (far : Far) (p : PlaceState) (m : machine.Place) (stands : StandsFor far p m) (key : ℕ) (out : Sent) (slab : Slab StayState) (t : StoreState)
    (checks : IsChecked p.program) (d : DepartsAt p.program p.stays (store_of p) key out slab t) (ready : d.stay.away ≡ false)
    (outside : AreOutside p.stays key) where
  abbrev a : StayState
  a = d.stay

  abbrev i : Instr
  i = d.instr

  abbrev s : Stay
  s = (stands.some key a d.is_there).0

  abbrev x : Context
  x = context_of far p

  abbrev h : StandsForStay p.program stands.assigned x a s
  h = (stands.some key a d.is_there).2

  -- the place that register c stands for
  abbrev to : ℕ
  to = word_at a.top.registers.items i.c

  abbrev under : Finish
  under = innermost p.id s

  under_is : under ≡ innermost_at p.id a
  under_is = ap₂ (λ f ns. innermost_of p.id f ns) h.inherited h.finishes

  abbrev sit : Situation
  sit = situated (setting_of p) p.id m key s h.top.function i

  -- ---- what the step comes to

  -- the move, by whichever instruction
  pub record Departs : Type 0 where
    pub after : Stay
    pub message : Message
    pub effect : Effect
    pub does : Does i.op sit (with_stay m key (Some after)) effect
    pub goes_on : StandsForStay p.program stands.assigned x d.next after
    pub counted : IsCountedBy (store_of p) effect t
    pub booked : KeepsBooks effect (store_of p) t
    pub sends : sent effect ≡ Some message
    pub silent : (here : ℕ) (f : Finish) (u : Totals) → is_reported here f u (Did effect) ≡ false
    pub moves_on : (number : ℕ) → effect ≡ Waits number → ⊥
    pub goes_to : IsMessageSent p.program x d.message message

  -- it makes no text
  makes_none : (o : Op) → ((w : Departure) → op_going w ≡ o → ⊥) → i.op ≢ o
  makes_none o other e = other d.departure (sym d.is_going ∙ e)

  departed : Departs → Leads far p m key (stepped.Moved out) (with_stays p slab t)
  departed dep =
      let new = with_stay m key (Some dep.after) in
      let r = d.store in
      let moved = moves (setting_of p) p.id far m key stands.assigned (store_of p) a s h i d.fetched new dep.effect ready
      (free_of far p m key stands outside) (stands.some key a d.is_there).1 dep.does in
      let grows = subst (λ n. Grows x (context (setting_of p) p.id n far)) (sym r.heap) (grows_not x) in
      let stay = subst (λ n. StandsForStay p.program stands.assigned (context (setting_of p) p.id n far) d.next dep.after) (sym r.heap) dep.goes_on in
      record {
        effect = dep.effect;
        new = new;
        moves = moved;
        stands = rebuilt far p m stands slab t key new dep.effect moved (keys_one far p m stands slab t key a (Some d.next) d.is_there d.updates)
            (keyed_one far p m stands slab t key (Some d.next) (Some dep.after) m.stays refl grows d.updates (dep.after, refl, stay))
            (subst (λ n. HoldsHeap (context (setting_of p) p.id n far) m.cells) (sym r.heap) stands.heap)
            (subst (λ n. HoldsExports n m.exports) (sym r.heap) stands.exports)
            (stands.opened ∙ sym r.opened_is) (stands.lines ∙ sym (ap (λ ls. map line_as ls) r.lines)) dep.counted dep.booked;
        counted = counted_in (store_of p) t dep.effect dep.counted;
        answers = (
          dep.moves_on,
          subst (λ (o : Sent). PutsOut p.program x (store_of p) dep.effect o) (sym d.sent_is) (record {
            message = (dep.message, dep.sends, dep.goes_to);
            report = λ f. dep.silent p.id f (totals_in (store_of p) f);
          }),
        );
        vacant = λ k f u e. absurd (let none = ap sent (sym e) ∙ dep.sends in cc);
        texts = adds_none p key a i d.is_there d.fetched (with_stays p slab t) (makes_none op.Textk not_textk) (makes_none op.Tcat not_tcat) r.heap;
      }

  -- what is counted, by the machine's place and finish
  recounted : Recounts (store_of p) t p.opened (changed_at (totals_in (store_of p)) (innermost_at p.id a) (λ u. sends_to u d.message.to))
      (books_in (store_of p)) → Recounts (store_of p) t p.opened (changed_at (totals_in (store_of p)) under (λ u. sends_to u to))
      (books_in (store_of p))
  recounted r = subst (λ f. Recounts (store_of p) t p.opened (changed_at (totals_in (store_of p)) f (λ u. sends_to u to)) (books_in (store_of p)))
      (sym under_is)
      (subst (λ n. Recounts (store_of p) t p.opened (changed_at (totals_in (store_of p)) (innermost_at p.id a) (λ u. sends_to u n))
      (books_in (store_of p))) d.to_is r)

  -- ---- what is passed

  -- a function's arguments, the place that they go to, and a copy of them in the frame
  pub record Sends (callee : Function) (h : Head) : Type 0 where
    pub holds_place : Holds sit i.c (Place to)
    pub within : to < p.places
    pub values : List Value
    pub passes : Passes sit to callee values
    pub snapshot : IsSnapshot x m.cells (kinds_of (slots_of_call p.program i)) values h d.message.bytes.items

  sends_by : (callee : Function) (hd : Head) → hd ≡ head_sent d.departure p.id d.message.to key (innermost_at p.id a) i.x
      → i.b + length callee.parameters ≤ h.top.function.registers → i.c < h.top.function.registers
      → IsCalled (point_of p.program h.top.function a.top i) h.top.state (term.Reg i.c) callee → Sends callee hd
  sends_by callee hd head_is counted there calls =
      let held = reads x h.top.state s.top.registers a.top.registers.items i.c kind.Place h.top.words calls.place in
      let few = (small p.program stands.assigned x a.top s.top h.top i d.fetched).registers.1 in
      let many = count p.program stands.assigned x a.top s.top h.top i d.fetched in
      let place : s.top.registers i.c ≡ Some (Place to) = held.1 ∙ ap Some held.2.1 in
      let is_to : IsTermOf x s.top.registers (term.Reg i.c) to = record { is_term = omega (arith, there, few); place_is = ap place_in place } in
      let passed = passed_to (setting_of p) p.id far m key s stands.assigned p.heap stands.heap a h i d.fetched
      (term.Reg i.c) to is_to callee checks.fits calls.there calls.arguments counted in
      let slots : slots_of_call p.program i ≡ callee.parameters = ap parameters_of calls.there in
      let range = range_at a.top.registers.items i.b (length callee.parameters) (omega (arith, counted, many)) in
      let words : AreWordsOf x (kinds_of (slots_of_call p.program i)) (words_from a.top i.b (slots_of_call p.program i)) passed.0 =
      subst (λ ss. AreWordsOf x (kinds_of ss) (words_from a.top i.b ss) passed.0) (sym slots)
      (subst (λ ws. AreWordsOf x (kinds_of callee.parameters) ws passed.0) (sym range) passed.1.along) in
      record {
        holds_place = place;
        within = held.2.0;
        values = passed.0;
        passes = record { callee_is = calls.there; held = passed.1.held; fit = passed.1.fit };
        snapshot = subst (λ k. IsSnapshot x m.cells (kinds_of (slots_of_call p.program i)) passed.0 k d.message.bytes.items) (sym head_is)
            (d.frame x m.cells passed.0 refl refl refl stands.heap words);
      }

  -- the registers that it names are there
  arguments_there : (o : Op) → AreArgumentRegisters h.top.function (argument_count p.program i o) i.b → (callee : Function)
      → function_at p.program i.x ≡ Some callee → argument_count p.program i o ≡ length (parameters_of (function_at p.program i.x))
      → i.b + length callee.parameters ≤ h.top.function.registers
  arguments_there o range callee is many = subst (λ g. i.b + length (parameters_of g) ≤ h.top.function.registers) is
      (subst (λ n. i.b + n ≤ h.top.function.registers) many range.1)

  here_within : (innermost_at p.id a).home < p.places
  here_within = innermost_home (setting_of p) p.id far m key s stands.assigned p.heap stands.heap a h i d.fetched a.inherited a.finishes
      stands.site.within h.run.inherited.0

  key_few : key < 2 ^ 32
  key_few = elim (cases_lt key (2 ^ 32)) [ inl lt ↦ lt | inr le ↦ absurd (none_some (get p.stays key) a (stands.keys key le) d.is_there) ]

  function_few : i.x < length p.program.functions → i.x < 2 ^ 16
  function_few lt = let few = checks.fits.functions.1 in omega (arith, lt, few)

  to_within : to < p.places → d.message.to < p.places
  to_within lt = subst (λ n. n < p.places) (sym d.to_is) lt

  -- ---- the stay goes on elsewhere

  waits_there : d.next ≡ record a { away = true } → StandsForStay p.program stands.assigned x d.next (record s { away = true })
  waits_there e = subst (λ b. StandsForStay p.program stands.assigned x b (record s { away = true })) (sym e) (record {
    placed = record { top = h.placed.top; callers = h.placed.callers; finishes = h.placed.finishes; region = h.placed.region };
    top = h.top;
    callers = h.callers;
    finishes = h.finishes;
    inherited = h.inherited;
    away = refl;
    inside = h.inside;
    back = h.back;
    run = record { inherited = h.run.inherited; back = h.run.back };
  })

  shifts : d.departure ≡ departure.At → Departs
  shifts w =
      let e = d.is_going ∙ ap op_going w in
      let u = innermost_at p.id a in
      let at = rule p.program stands.assigned x a.top s.top h.top i d.fetched in
      let permits = subst (λ q. Permits q (point_of p.program h.top.function a.top i) h.top.state at.0) e at.1 in
      let range = in_range p.program stands.assigned x a.top s.top h.top i d.fetched in
      let those = subst (λ q. AreArgumentRegisters h.top.function (argument_count p.program i q) i.b) e
      (subst (λ q. IsThere p.program h.top.function i (form_of q).b i.b) e range.b) in
      let asked = permits.1.settles in
      let counted = arguments_there op.At those asked.0 asked.1.there refl in
      let there : i.c < h.top.function.registers = subst (λ q. IsThere p.program h.top.function i (form_of q).c i.c) e range.c in
      let named : i.x < length p.program.functions = subst (λ q. IsThere p.program h.top.function i (form_of q).x i.x) e range.x in
      let made = sends_by asked.0 (head p.id d.message.to (what.Shift key u i.x))
      (ap (λ q. head_sent q p.id d.message.to key u i.x) (sym w)) counted there asked.1 in
      let graph = snapshot_of made.snapshot.graph in
      let message : Message = machine.Shift p.id to key under i.x graph in
      let same : machine.Shift p.id d.message.to key u i.x graph ≡ message =
      ap₂ (λ n f. machine.Shift p.id n key f i.x graph) d.to_is (sym under_is) in
      record {
        after = record s { away = true };
        message = message;
        effect = Shifts message under;
        does = subst (λ q. Does q sit (with_stay m key (Some (record s { away = true }))) (Shifts message under)) (sym e)
            (asked.0, made.values, to, graph, made.holds_place, made.passes, made.snapshot.captures, refl, refl);
        goes_on = waits_there (subst (λ q. DepartsBy q a d.next) w d.departs);
        counted = shifts_count (store_of p) t message under (recounted d.store);
        booked = (d.store.opened_is, d.store.books_are);
        sends = refl;
        silent = λ here f v. refl;
        moves_on = λ n f. absurd cc;
        goes_to = record {
          to_is = d.to_is;
          carries = record {
            frame = frames.Shift p.id d.message.to key u.home u.number i.x made.snapshot.graph;
            fits = record {
              from = stands.site.within;
              to = to_within made.within;
              body = (key_few, record { home = here_within; number = d.number; function = function_few named; graph = made.snapshot.fits });
            };
            spelled = made.snapshot.spelled;
            message_is = ap Some same;
            classes = made.snapshot.of_kinds.nodes;
          };
          named = made.snapshot.named;
        };
      }

  -- ---- an activity is sent

  goes_next : i.op ≡ op.Ata → (out : Edges) → Permits op.Ata (point_of p.program h.top.function a.top i) h.top.state out
      → ((edge : ℕ × State) → IsIn edge out → Reaches (stands.assigned a.top.function h.top.function h.top.is_function).0 edge)
      → GoesNext a.top d.next.top → d.next ≡ record a { top = d.next.top }
      → StandsForStay p.program stands.assigned x d.next (record s { top = next s.top })
  goes_next e out permits edges goes rest = record {
    placed = next_placed p.program checks a d.next i route.Ata h.placed d.fetched (ap route_of e) tt
        (λ f. absurd (let g = sym e ∙ f in cc)) goes rest;
    top = next_stands (setting_of p) p.id far m key s stands.assigned p.heap stands.heap stands.site.few a h i d.fetched d.next out
        (leads op.Ata (point_of p.program h.top.function a.top i) h.top.state out permits permits.1.settles.3) edges goes;
    callers = subst (λ fs. StandForCallers p.program stands.assigned x fs s.callers) (sym (ap (λ (q : StayState). q.callers) rest)) h.callers;
    finishes = h.finishes ∙ ap (λ (q : StayState). q.finishes) (sym rest);
    inherited = h.inherited ∙ ap (λ (q : StayState). q.inherited) (sym rest);
    away = h.away ∙ ap (λ (q : StayState). q.away) (sym rest);
    inside = h.inside ∙ ap (λ (q : StayState). q.inside) (sym rest);
    back = h.back ∙ ap (λ (q : StayState). q.back) (sym rest);
    run = subst (λ (q : StayState). IsOfRun p.places q) (sym rest) (record { inherited = h.run.inherited; back = h.run.back });
  }

  spawns : d.departure ≡ departure.Ata → Departs
  spawns w =
      let e = d.is_going ∙ ap op_going w in
      let u = innermost_at p.id a in
      let at = rule p.program stands.assigned x a.top s.top h.top i d.fetched in
      let permits = subst (λ q. Permits q (point_of p.program h.top.function a.top i) h.top.state at.0) e at.1 in
      let range = in_range p.program stands.assigned x a.top s.top h.top i d.fetched in
      let those = subst (λ q. AreArgumentRegisters h.top.function (argument_count p.program i q) i.b) e
      (subst (λ q. IsThere p.program h.top.function i (form_of q).b i.b) e range.b) in
      let asked = permits.1.settles in
      let counted = arguments_there op.Ata those asked.0 asked.1.there refl in
      let there : i.c < h.top.function.registers = subst (λ q. IsThere p.program h.top.function i (form_of q).c i.c) e range.c in
      let named : i.x < length p.program.functions = subst (λ q. IsThere p.program h.top.function i (form_of q).x i.x) e range.x in
      let made = sends_by asked.0 (head p.id d.message.to (what.Spawn u i.x))
      (ap (λ q. head_sent q p.id d.message.to key u i.x) (sym w)) counted there asked.1 in
      let graph = snapshot_of made.snapshot.graph in
      let message : Message = machine.Spawn p.id to under i.x graph in
      let same : machine.Spawn p.id d.message.to u i.x graph ≡ message = ap₂ (λ n f. machine.Spawn p.id n f i.x graph) d.to_is (sym under_is) in
      let departs : GoesNext a.top d.next.top × (d.next ≡ record a { top = d.next.top }) = subst (λ q. DepartsBy q a d.next) w d.departs in
      record {
        after = record s { top = next s.top };
        message = message;
        effect = Spawns message i.x under;
        does = subst (λ q. Does q sit (with_stay m key (Some (record s { top = next s.top }))) (Spawns message i.x under)) (sym e)
            (asked.0, made.values, to, graph, made.holds_place, made.passes, asked.2, made.snapshot.captures, refl, refl);
        goes_on = goes_next e at.0 permits at.2 departs.0 departs.1;
        counted = spawns_count (store_of p) t message i.x under (recounted d.store);
        booked = (d.store.opened_is, d.store.books_are);
        sends = refl;
        silent = λ here f v. refl;
        moves_on = λ n f. absurd cc;
        goes_to = record {
          to_is = d.to_is;
          carries = record {
            frame = frames.Spawn p.id d.message.to u.home u.number i.x made.snapshot.graph;
            fits = record {
              from = stands.site.within;
              to = to_within made.within;
              body = record { home = here_within; number = d.number; function = function_few named; graph = made.snapshot.fits };
            };
            spelled = made.snapshot.spelled;
            message_is = ap Some same;
            classes = made.snapshot.of_kinds.nodes;
          };
          named = made.snapshot.named;
        };
      }

  pub leads_departing : Leads far p m key (stepped.Moved out) (with_stays p slab t)
  leads_departing = by d.departure refl
    where
      by : (w : Departure) → d.departure ≡ w → Leads far p m key (stepped.Moved out) (with_stays p slab t)
      by departure.At e = departed (shifts e)
      by departure.Ata e = departed (spawns e)

-- each place of the machine makes the step
pub depart_leads : (p : PlaceState) (key : ℕ) (out : Sent) (slab : Slab StayState) (t : StoreState) → IsChecked p.program
    → (d : DepartsAt p.program p.stays (store_of p) key out slab t) → d.stay.away ≡ false → AreOutside p.stays key
    → LeadsAll p key (stepped.Moved out) (with_stays p slab t)
depart_leads p key out slab t checks d ready outside far m stands = leads_departing far p m stands key out slab t checks d ready outside
