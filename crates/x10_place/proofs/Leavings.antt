-- The end of a stay: the place's step is the machine's.
use Rattle.std.proofs.Common.{◌≡◌, ℕ, ◌<◌, ◌≤◌, ◌^◌, Bool, true, false, suc, List, [], ◌∷◌, get_or, Vec, length, Option, Some, None, refl, sym, ap, subst, ◌∙◌, arith}
use Rattle.std.specs.Global.{Global}
use Rattle.std.specs.Prelude.{map, ◌&&◌}
use Rattle.slab.specs.Slab.{Slab}
use Rattle.x10_code.specs.declared.op.Op.TheVariants as op
use Rattle.x10_code.specs.declared.instr.Instr.{Instr}
use Rattle.x10_model.specs.declared.slot.Slot.{Slot}
use Rattle.x10_model.specs.Ranges.{result_of}
use Rattle.x10_model.specs.Places as machine
use Rattle.x10_model.specs.declared.finish.Finish.{Finish}
use Rattle.x10_model.specs.Places.{Origin, Stay, Message, Effect, Ends, with_stay}
use Rattle.x10_model.specs.Moves.{Does, Situation, SendsBack, as_list}
use Rattle.x10_model.specs.Marshalling.{snapshot_of}
use Rattle.x10_model.specs.Assignments.{Permits}
use Rattle.x10_model.specs.Totals.{is_last}
use Rattle.x10_model.specs.Worlds.{same_finish}
use Rattle.x10_model.specs.Frames as frames
use Rattle.x10_heap.specs.Words.{Context, AreWordsOf, HoldsHeap}
use Rattle.x10_heap.proofs.GrownHeaps.{Grows, grows_not}
use Rattle.std.specs.List.{AllByRecursion}
use Rattle.x10_finish.specs.Ledgers.{gives_report, AreDue}
use Rattle.x10_model.specs.declared.version.FrameVersion.TheVariants.{Wide}
use Rattle.x10_model.specs.Frames.{spelling}
use Rattle.x10_frame.specs.declared.head.What.TheVariants as what
use Rattle.x10_frame.specs.Heads.{head}
use Rattle.x10_copy.specs.Captured.{kinds_of, IsSnapshot}
use Rattle.x10_place.specs.declared.place.Stepped.TheVariants as stepped
use Rattle.x10_place.specs.declared.sent.Outgoing.{Outgoing}
use Rattle.x10_place.specs.declared.sent.Sent.{Sent}
use Rattle.x10_place.specs.Sending.{slots_of, slots_of_end, words_from}
use Rattle.x10_place.specs.Parting.{SendsResult, Reports, LeavesAt}
use Rattle.x10_place.specs.Messages.{SendsMessage, SendsReport}
use Rattle.x10_place.specs.Stays.{StayState, StoreState, totals_in}
use Rattle.x10_place.specs.StandsFor.{Far, context, context_of, PlaceState, store_of, with_stays, line_as, StandsForStay, HoldsExports, StandsFor, setting_of, Leads, LeadsAll, AreOutside}
use Rattle.x10_place.proofs.Framed.{point_of, in_range, count, rule}
use Rattle.x10_place.proofs.Local.{situated}
use Rattle.x10_place.proofs.Ends.{Ending, ret_ends, result_register}
use Rattle.x10_place.proofs.Payloads.{given_words}
use Rattle.x10_place.proofs.StandingStays.{IsChecked, none_open}
use Rattle.x10_place.proofs.CountsOfMoves.{counted_in, ends_count}
use Rattle.x10_place.proofs.Texts.{adds_none}
use Rattle.x10_place.proofs.Steps.{moves, rebuilt, keys_one, keyed_one}
use Rattle.x10_model.proofs.SameFinishes.{same_is, same_self}
use Rattle.x10_place.proofs.Insides.{free_of}

-- ---- the report of a place

-- each of the counts has 32 bits
pub all_small : (xs : List ℕ) → ((k : ℕ) → get_or xs k 0 < 2 ^ 32) → AllByRecursion (λ n. n < 2 ^ 32) xs
all_small [] h = tt
all_small (x ∷ xs) h = (h 0, all_small xs (λ k. h (suc k)))

-- none is due
pub reports_none : (s : StoreState) (f : Finish) → s.ledger.place ≡ s.here → gives_report s.ledger f ≡ false → Reports s f None
reports_none s f here none = subst (λ n. is_last f.home n (totals_in s f) ≡ false) here none

-- one is due, and goes to the home of the finish
pub reports_one : (s : StoreState) (f : Finish) (sent received : List ℕ) (bytes : Vec ℕ Global) → s.ledger.place ≡ s.here → s.ledger.places ≡ s.places
    → s.here < s.places → f.home < s.places → f.number < 2 ^ 32
    → (gives_report s.ledger f ≡ true) × AreDue s.ledger f sent received → AllByRecursion (λ n. n < 2 ^ 32) sent
    → AllByRecursion (λ n. n < 2 ^ 32) received
    → bytes.items ≡ spelling Wide (frames.Report s.here f.home f.number sent received) → Reports s f (Some (record { to = f.home; bytes = bytes }))
reports_one s f sent received bytes here places within home few due small less spelled = (
  subst (λ n. is_last f.home n (totals_in s f) ≡ true) here due.0,
  record {
    report = record { place = s.here; number = f.number; sent = sent; received = received };
    to_is = refl;
    place_is = refl;
    number_is = refl;
    entry_is = due.1.entry;
    carries = record {
      fits = record {
        from = within;
        to = home;
        body = (few, (due.1.sent_is ∙ places, small), (due.1.received_is ∙ places, less));
      };
      spelled = spelled;
    };
  },
)

-- how many counts it has
pub report_short : (s : StoreState) (f : Finish) (sent received : List ℕ) → s.ledger.places ≡ s.places → s.places ≤ 64
    → AreDue s.ledger f sent received → length sent < 2 ^ 16
report_short s f sent received places few due = let long = due.sent_is in omega (arith, long, places, few)

module _ (far : Far) (p : PlaceState) (m : machine.Place) (stands : StandsFor far p m) (key : ℕ) (out : Sent) (slab : Slab StayState) (t : StoreState)
    (checks : IsChecked p.program) (d : LeavesAt p.program p.stays (store_of p) key out slab t) (ready : d.stay.away ≡ false)
    (outside : AreOutside p.stays key) where
  abbrev a : StayState
  a = d.stay

  abbrev i : Instr
  i = d.instr

  abbrev s : Stay
  s = (stands.some key a d.is_there).0

  abbrev x : Context
  x = context_of far p

  abbrev h : StandsForStay p.program stands.assigned x a s
  h = (stands.some key a d.is_there).2

  abbrev sit : Situation
  sit = situated (setting_of p) p.id m key s h.top.function i

  -- ---- the result

  abbrev ending : Ending (setting_of p) p.id far m key s stands.assigned p.heap stands.heap stands.site.few a h i d.fetched
  ending =
      let at = rule p.program stands.assigned x a.top s.top h.top i d.fetched in
      ret_ends (setting_of p) p.id far m key s stands.assigned p.heap stands.heap stands.site.few a h i d.fetched at.0 d.is_ret
      (subst (λ q. Permits q (point_of p.program h.top.function a.top i) h.top.state at.0) d.is_ret at.1) d.callers
      (none_open p.program checks a i h.placed d.fetched d.is_ret d.callers)

  words : AreWordsOf x (kinds_of (slots_of_end p.program a.top)) (words_from a.top i.a (slots_of_end p.program a.top)) (as_list ending.result)
  words =
      let slots : slots_of_end p.program a.top ≡ slots_of h.top.function.result = ap (λ o. slots_of (result_of o)) h.top.is_function in
      subst (λ ss. AreWordsOf x (kinds_of ss) (words_from a.top i.a ss) (as_list ending.result)) (sym slots)
      (given_words x m.cells h.top.function.result ending.result a.top.registers.items i.a there ending.given)
    where
      there : (slot : Slot) → h.top.function.result ≡ Some slot → i.a < length a.top.registers.items
      there slot e =
          let lt = result_register p.program h.top.function i slot d.is_ret
          (in_range p.program stands.assigned x a.top s.top h.top i d.fetched).a e in
          let many = count p.program stands.assigned x a.top s.top h.top i d.fetched in
          omega (arith, lt, many)

  -- the message with the result, if there is one
  pub record Result : Type 0 where
    pub back : Option Message
    pub sends : SendsBack sit ending.result a.back back
    pub goes_back : SendsMessage p.program x out.message back

  result_of_stay : Result
  result_of_stay = let r = by a.back out.message refl d.result in record { back = r.0; sends = r.1; goes_back = r.2 }
    where
      by : (o : Option Origin) (q : Option Outgoing) → a.back ≡ o → SendsResult p.program (store_of p) a i o q
          → (r : Option Message) × SendsBack sit ending.result o r × SendsMessage p.program x q r
      by None None e sent = (None, refl, refl)
      by (Some origin) (Some o) e sent =
          let snapshot : IsSnapshot x m.cells (kinds_of (slots_of_end p.program a.top)) (as_list ending.result)
          (head p.id origin.place (what.Back origin.key)) o.bytes.items = sent.1 x m.cells (as_list ending.result) refl refl refl stands.heap words in
          let graph = snapshot_of snapshot.graph in
          let run = h.run.back origin e in (
            Some (machine.Back p.id origin.place origin.key graph),
            (graph, snapshot.captures, refl),
            (
              machine.Back p.id origin.place origin.key graph,
              refl,
              record {
                to_is = sent.0;
                carries = record {
                  frame = frames.Back p.id origin.place origin.key snapshot.graph;
                  fits = record { from = stands.site.within; to = run.0; body = (run.1, snapshot.fits) };
                  spelled = snapshot.spelled;
                  message_is = refl;
                  classes = snapshot.of_kinds.nodes;
                };
                named = snapshot.named;
              },
            ),
          )
      by None (Some o) e sent = absurd sent
      by (Some origin) None e sent = absurd sent

  -- ---- the report

  report_of_finish : (back : Option Message) → SendsReport (store_of p) (Ends a.inherited back) out.report
  report_of_finish back = by out.report d.report
    where
      other : (f : Finish) (b : Bool) → same_finish f a.inherited ≡ b → is_last a.inherited.home p.id (totals_in (store_of p) a.inherited) ≡ false
          → (b && is_last f.home p.id (totals_in (store_of p) f)) ≡ false
      other f false e last = refl
      other f true e last = subst (λ g. is_last g.home p.id (totals_in (store_of p) g) ≡ false) (sym (same_is f a.inherited e)) last

      by : (q : Option Outgoing) → Reports (store_of p) a.inherited q → SendsReport (store_of p) (Ends a.inherited back) q
      by None last = λ f. other f (same_finish f a.inherited) refl last
      by (Some o) (last, sent) = (
        a.inherited,
        subst (λ b. (b && is_last a.inherited.home p.id (totals_in (store_of p) a.inherited)) ≡ true)
            (sym (same_self a.inherited a.inherited refl)) last,
        sent,
      )

  pub leads_leaving : Leads far p m key (stepped.Moved out) (with_stays p slab t)
  leads_leaving =
      let result = result_of_stay in
      let new = with_stay m key None in
      let r = d.store in
      let effect : Effect = Ends a.inherited result.back in
      let inherited : Ends s.inherited result.back ≡ effect = ap (λ f. Ends f result.back) h.inherited in
      let counted = ends_count (store_of p) t a.inherited result.back r in
      let moved = moves (setting_of p) p.id far m key stands.assigned (store_of p) a s h i d.fetched new effect ready
      (free_of far p m key stands outside) (stands.some key a d.is_there).1
      (subst (λ q. Does q sit new effect) (sym d.is_ret) (subst (λ e. Does op.Ret sit new e) inherited (ending.does result.back result.sends))) in
      let grows = subst (λ n. Grows x (context (setting_of p) p.id n far)) (sym r.heap) (grows_not x) in
      record {
        effect = effect;
        new = new;
        moves = moved;
        stands = rebuilt far p m stands slab t key new effect moved (keys_one far p m stands slab t key a None d.is_there d.updates)
            (keyed_one far p m stands slab t key None None m.stays refl grows d.updates refl)
            (subst (λ n. HoldsHeap (context (setting_of p) p.id n far) m.cells) (sym r.heap) stands.heap)
            (subst (λ n. HoldsExports n m.exports) (sym r.heap) stands.exports)
            (stands.opened ∙ sym r.opened_is) (stands.lines ∙ sym (ap (λ ls. map line_as ls) r.lines)) counted (r.opened_is, r.books_are);
        counted = counted_in (store_of p) t effect counted;
        answers = ((λ n f. absurd cc), record { message = result.goes_back; report = report_of_finish result.back });
        vacant = λ k f u e. absurd cc;
        texts = (let ret = d.is_ret in adds_none p key a i d.is_there d.fetched (with_stays p slab t) (λ q. absurd cc) (λ q. absurd cc) r.heap);
      }

-- each place of the machine makes the step
pub leave_leads : (p : PlaceState) (key : ℕ) (out : Sent) (slab : Slab StayState) (t : StoreState) → IsChecked p.program
    → (d : LeavesAt p.program p.stays (store_of p) key out slab t) → d.stay.away ≡ false → AreOutside p.stays key
    → LeadsAll p key (stepped.Moved out) (with_stays p slab t)
leave_leads p key out slab t checks d ready outside far m stands = leads_leaving far p m stands key out slab t checks d ready outside
