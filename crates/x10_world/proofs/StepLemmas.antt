-- A step of one place of a list is a move of each world for which the places and the frames in flight stand.
use Rattle.std.proofs.Common.{◌≡◌, ℕ, ◌<◌, false, List, length, Option, Some, None, Ok, refl, sym, ap, subst, ◌∙◌, inl, inr, arith}
use Rattle.std.specs.Prelude.{slice_get, slice_set, map}
use Rattle.std.proofs.lemmas.Bool.{cases_eq}
use Rattle.std.proofs.lemmas.Option.{slice_get_within}
use Rattle.std.proofs.lemmas.List.{length-set}
use Rattle.x10_model.specs.Modules.{Module}
use Rattle.x10_model.specs.Structure.{bounds_of}
use Rattle.x10_model.specs.Places as machine
use Rattle.x10_model.specs.declared.finish.Finish.{Finish}
use Rattle.x10_model.specs.Places.{Setting, Effect, Waits, Works, Begins, Spawns, Shifts, Opens, Closes, Ends}
use Rattle.x10_model.specs.Moves.{Moves}
use Rattle.x10_model.specs.Totals.{IsDoneAt, Did, totals_after, is_reported, reported}
use Rattle.x10_model.specs.Worlds.{World, Allows, Quiet, Ideal, Steps, sent}
use Rattle.x10_model.proofs.Lists.{none_some, set_off}
use Rattle.x10_model.proofs.Maps.{at_key, off_key}
use Rattle.x10_heap.specs.Words.{export_as}
use Rattle.x10_finish.specs.Detection.{Told, told_of}
use Rattle.x10_finish.specs.Ledgers.{totals_of}
use Rattle.x10_finish.specs.Nesting.{stays_of, nth, IsHeld}
use Rattle.x10_finish.specs.Stays.{MovesStay}
use Rattle.x10_finish.specs.Watching.{WorldCounts, counting_of, IsWatched, closes, IsMoved, ClosesDone, world_after}
use Rattle.x10_finish.proofs.Sound.{there_in}
use Rattle.x10_finish.proofs.Stays.{stays_change}
use Rattle.x10_finish.proofs.CountLemmas.{done_is_quiet}
use Rattle.x10_finish.proofs.QuietClosings.{allowed_ideal}
use Rattle.x10_finish.proofs.WorldLemmas.{moves_are_watched}
use Rattle.x10_place.specs.declared.place.Stepped.{Stepped}
use Rattle.x10_place.specs.declared.place.Stepped.TheVariants as stepped
use Rattle.x10_place.specs.declared.sent.Outgoing.{Outgoing}
use Rattle.x10_place.specs.declared.sent.Sent.{Sent}
use Rattle.x10_place.specs.Messages.{SendsReport, IsReportSent, PutsOut, no_sent}
use Rattle.x10_place.specs.Stays.{IsDoneHere, finish_at, books_of, kept_in, totals_in}
use Rattle.x10_place.specs.StandsFor as place
use Rattle.x10_place.specs.StandsFor.{PlaceState, store_of, context_of, StandsFor, IsCountedBy, Answers, Leads}
use Rattle.x10_flights.specs.Flights.{FlightsState}
use Rattle.x10_world.specs.Links.{AreAnswered}
use Rattle.x10_world.specs.StandsForWorld.{BelongsTo, BelongTo, setting_in, totals_at, kept_at, counts_in, far_in, Flies, with_posted, with_sent, after_step, AllStandFor, StepLeads}
use Rattle.x10_world.proofs.BudgetMoves.{budget_after_move}
use Rattle.x10_world.proofs.ExportLemmas.{move_exports}
use Rattle.x10_flights.proofs.FlightsLookups.{among_none}
use Rattle.x10_world.proofs.FlightLemmas.{far_after}
use Rattle.x10_place.proofs.KnownExports.{IsKnown, far_grows}
use Rattle.x10_world.proofs.LinkMoves.{answered_after_move}
use Rattle.x10_world.proofs.Lists.{set_here, set_either}
use Rattle.x10_world.proofs.PostedFrames.{named_in, goes_to, message_posted, retold, none_reported, one_reported}

-- ---- what a home may conclude

-- what a home lets end by itself, it lets end by the counts of the places
pub done_in : (places : List PlaceState) (told : Finish → ℕ → Option Told) (here number : ℕ) (p : PlaceState) → slice_get places here ≡ Some p
    → p.id ≡ here → p.places ≡ length places → IsDoneHere (store_of p) number
    → IsDoneAt (length places) here ((counts_in places told).totals here (finish_at here number))
    ((counts_in places told).kept (finish_at here number))
done_in places told here number p is id-is places-are done =
    subst (λ o. IsDoneAt (length places) here (totals_at o (finish_at here number)) (kept_at o number)) (sym is)
    (subst (λ i. IsDoneAt (length places) i (totals_of p.ledger (finish_at i number)) (kept_in (books_of p.books number))) id-is
    (subst (λ n. IsDoneAt n p.id (totals_of p.ledger (finish_at p.id number)) (kept_in (books_of p.books number))) places-are done))

-- and back
pub done_by : (places : List PlaceState) (told : Finish → ℕ → Option Told) (here number : ℕ) (p : PlaceState) → slice_get places here ≡ Some p
    → p.id ≡ here → p.places ≡ length places
    → IsDoneAt (length places) here ((counts_in places told).totals here (finish_at here number))
    ((counts_in places told).kept (finish_at here number)) → IsDoneHere (store_of p) number
done_by places told here number p is id-is places-are done =
    subst (λ n. IsDoneAt n p.id (totals_of p.ledger (finish_at p.id number)) (kept_in (books_of p.books number))) (sym places-are)
    (subst (λ i. IsDoneAt (length places) i (totals_of p.ledger (finish_at i number)) (kept_in (books_of p.books number))) (sym id-is)
    (subst (λ o. IsDoneAt (length places) here (totals_at o (finish_at here number)) (kept_at o number)) is done))

-- ---- counts

-- what is told of each finish after a move
abbrev told_after : List PlaceState → ℕ → Effect → ℕ → (Finish → ℕ → Option Told) → Finish → ℕ → Option Told
told_after places here effect report told =
    retold (λ f. is_reported here f (totals_at (slice_get places here) f) (Did effect))
    (λ f. told_of here (totals_at (slice_get places here) f)) report told

module _ (places : List PlaceState) (told : Finish → ℕ → Option Told) (report : ℕ) (here : ℕ) (p q : PlaceState) (effect : Effect)
    (is : slice_get places here ≡ Some p) (id-is : p.id ≡ here) (c : IsCountedBy (store_of p) effect (store_of q)) where
  -- a finish other than the one that is closed
  open_here : (f : Finish) → closes here effect f ≡ false → closes p.id effect f ≡ false
  open_here f other = subst (λ i. closes i effect f ≡ false) (sym id-is) other

  kept_here : (f : Finish) → closes here effect f ≡ false → f.home ≡ here
      → kept_at (slice_get (slice_set places here q) f.home) f.number ≡ kept_at (slice_get places f.home) f.number
  kept_here f other home-is =
      let same : f ≡ finish_at p.id f.number = ap (λ h. finish_at h f.number) (home-is ∙ sym id-is) in
      let kept = c.kept f.number (subst (λ g. closes p.id effect g ≡ false) same (open_here f other)) in
      ap (λ i. kept_at (slice_get (slice_set places here q) i) f.number) home-is ∙ ap (λ o. kept_at o f.number) (set_here places here q p is) ∙ kept
      ∙ sym (ap (λ o. kept_at o f.number) (ap (slice_get places) home-is ∙ is))

  moved : (f : Finish) → closes here effect f ≡ false → IsMoved here effect report (counts_in places told)
      (counts_in (slice_set places here q) (told_after places here effect report told)) f
  moved f other = record {
    here_is = ap (λ o. totals_at o f) (set_here places here q p is) ∙ c.totals f (open_here f other)
        ∙ sym (ap (λ o. totals_after f (totals_at o f) (Did effect)) is);
    others = λ r ne. ap (λ o. totals_at o f) (set_off places here r q ne);
    kept = elim (cases_eq f.home here) [
      | inl same ↦ kept_here f other same
      | inr ne ↦ ap (λ o. kept_at o f.number) (set_off places here f.home q ne)
    ];
    told = refl;
  }

-- a finish is closed only where its home may let it end
closes_done : (places : List PlaceState) (told : Finish → ℕ → Option Told) (here : ℕ) (p q : PlaceState) (effect : Effect)
    → slice_get places here ≡ Some p → p.id ≡ here → p.places ≡ length places → IsCountedBy (store_of p) effect (store_of q)
    → ClosesDone (length places) here (counts_in places told) effect
closes_done places told here p q (Closes number) is id-is places-are c = done_in places told here number p is id-is places-are (c.done number refl).0
closes_done places told here p q (Waits number) is id-is places-are c = tt
closes_done places told here p q Works is id-is places-are c = tt
closes_done places told here p q (Begins key function under) is id-is places-are c = tt
closes_done places told here p q (Spawns message function under) is id-is places-are c = tt
closes_done places told here p q (Shifts message under) is id-is places-are c = tt
closes_done places told here p q (Opens number inside) is id-is places-are c = tt
closes_done places told here p q (Ends under back) is id-is places-are c = tt

-- so that all that it governs has ended
quiet_allowed : (n : ℕ) (w : World) (c : WorldCounts) (here key : ℕ) (old new : machine.Place) (effect : Effect) → IsWatched n w c
    → w.net.places here ≡ Some old → (m : MovesStay here old key new effect) → here < n → ClosesDone n here c effect → Allows Quiet w here effect
quiet_allowed n w c here key old new (Waits number) i e m lt done = tt
quiet_allowed n w c here key old new Works i e m lt done = tt
quiet_allowed n w c here key old new (Begins other function under) i e m lt done = tt
quiet_allowed n w c here key old new (Spawns message function under) i e m lt done = tt
quiet_allowed n w c here key old new (Shifts message under) i e m lt done = tt
quiet_allowed n w c here key old new (Opens number inside) i e m lt done = tt
quiet_allowed n w c here key old new (Ends under back) i e m lt done = tt
quiet_allowed n w c here key old new (Closes number) i e m lt done =
    let f : Finish = finish_at here number in
    let held : IsHeld (stays_of w.net) f = inr (
      key,
      0,
      m.stay,
      there_in w.net here key old new (Closes number) e m,
      ap (λ xs. nth xs 0) m.changes.2,
    ) in
    let h = i.each f (inl held) in
    done_is_quiet n w.net f (counting_of c f h.flying) lt i.range h.tells h.counted done

-- ---- a step of one place

module _ (program : Module) (bounds : List ℕ) (places : List PlaceState) (flights : FlightsState) (w : World) (here key : ℕ) (p q : PlaceState)
    (bounds-are : bounds_of program ≡ Ok bounds) (belong : BelongTo program bounds (length places) places)
    (stand : AllStandFor program bounds places flights w) (is : slice_get places here ≡ Some p) where
  belongs : BelongsTo program bounds (length places) here p
  belongs = belong here p is

  module _ (m new : machine.Place) (effect : Effect) (out : Sent) (there : w.net.places here ≡ Some m)
      (exports : m.exports ≡ map export_as p.heap.exports) (moves : Moves (setting_in program places) here m key new effect)
      (stands : StandsFor (far_in w) q new)
      (c : IsCountedBy (store_of p) effect (store_of q)) (puts : PutsOut p.program (context_of (far_in w) p) (store_of p) effect out) where
    abbrev after : World
    after = world_after w here key new effect flights.posted

    abbrev report : ℕ
    report = (with_posted flights out.message).posted

    abbrev told_then : Finish → ℕ → Option Told
    told_then = told_after places here effect report stand.told

    known : IsKnown (far_in w) (far_in after)
    known = far_after w after here m new there refl (move_exports (setting_in program places) here key m new effect moves)

    -- the message flies
    flies_first : Flies program (length places) (with_posted flights out.message) after stand.told
    flies_first = message_posted program (length places) flights w after p stand.told out.message (sent effect) known
        (named_in w p m (ap w.net.places belongs.id_is ∙ there) exports) belongs.places_are belongs.program_is refl puts.message stand.flies

    -- and the report
    totals_are : (f : Finish) → totals_in (store_of p) f ≡ totals_at (slice_get places here) f
    totals_are f = sym (ap (λ o. totals_at o f) is)

    due_is : (f : Finish) → is_reported p.id f (totals_in (store_of p) f) (Did effect)
        ≡ is_reported here f (totals_at (slice_get places here) f) (Did effect)
    due_is f = ap (λ i. is_reported i f (totals_in (store_of p) f) (Did effect)) belongs.id_is
        ∙ ap (λ t. is_reported here f t (Did effect)) (totals_are f)

    told_same : (f : Finish) (o : Outgoing) (r : IsReportSent (store_of p) f o)
        → told_of here (totals_at (slice_get places here) f) ≡ record { place = r.report.place; entry = reported r.report }
    told_same f o r = ap (told_of here) (sym (totals_are f)) ∙ ap (λ i. told_of i (totals_in (store_of p) f)) (sym (r.place_is ∙ belongs.id_is))
        ∙ ap (λ e. record { place = r.report.place; entry = e }) (sym r.entry_is)

    flies_with : (o : Option Outgoing) → SendsReport (store_of p) effect o
        → Flies program (length places) (with_posted (with_posted flights out.message) o) after told_then
    flies_with None none = none_reported program (length places) (with_posted flights out.message) after here effect
        (totals_at (slice_get places here)) (λ f. told_of here (totals_at (slice_get places here) f)) stand.told
        (λ f. sym (due_is f) ∙ none f) flies_first
    flies_with (Some o) (f, due, r) =
        one_reported program (length places) (with_posted flights out.message) after here effect (totals_at (slice_get places here))
        (λ f. told_of here (totals_at (slice_get places here) f)) stand.told
        o (store_of p) f r (sym (due_is f) ∙ due) belongs.places_are (told_same f o r) flies_first

    watched : IsWatched (length places) after (counts_in (slice_set places here q) told_then)
    watched = (moves_are_watched (setting_in program places) w (counts_in places stand.told)
        (counts_in (slice_set places here q) told_then) here key flights.posted report m new effect stand.watched there moves
        (stand.flies.unused flights.posted (omega arith)) (slice_get_within places here p is)
        (goes_to (length places) p (far_in w) p.program out.message (sent effect) belongs.places_are puts.message)
        (λ f. (flies_first.none report (among_none 0 (with_posted flights out.message).flying report report flies_first.rising (omega arith))).1 f)
        (moved places stand.told report here p q effect is belongs.id_is c)
        (closes_done places stand.told here p q effect is belongs.id_is belongs.places_are c)).1

    allowed : Allows Ideal w here effect
    allowed =
        let stay = stays_change (setting_in program places) here key m new effect moves in
        allowed_ideal w here key m new effect stand.watched.sound there stay
        (quiet_allowed (length places) w (counts_in places stand.told) here key m new effect stand.watched there stay
        (slice_get_within places here p is) (closes_done places stand.told here p q effect is belongs.id_is belongs.places_are c))

    abbrev steps_on : Steps Ideal (setting_in program places) w here key after
    steps_on = record {
      old = m;
      new = new;
      effect = effect;
      number = flights.posted;
      place_is = there;
      moves = moves;
      allowed = allowed;
      unused = stand.flies.unused flights.posted (omega arith);
      net_is = refl;
      book_is = refl;
    }

    some_after : (id : ℕ) (r : PlaceState) → slice_get (slice_set places here q) id ≡ Some r
        → (o : machine.Place) × (after.net.places id ≡ Some o) × StandsFor (far_in after) r o
    some_after id r e = elim (set_either places here id q r p is e) [
      | inl at ↦ (
        new,
        ap after.net.places at.0 ∙ at_key w.net.places here (Some new),
        subst (λ t. StandsFor (far_in after) t new) at.1 (far_grows (far_in w) (far_in after) q new known stands),
      )
      | inr off ↦ let old = stand.some id r off.1 in (
        old.0,
        off_key w.net.places here id (Some new) off.0 ∙ old.1,
        far_grows (far_in w) (far_in after) r old.0 known old.2,
      )
    ]

    none_after : (id : ℕ) → slice_get (slice_set places here q) id ≡ None → after.net.places id ≡ None
    none_after id e = elim (cases_eq id here) [
      | inl same ↦ absurd (none_some (slice_get (slice_set places here q) id) q e
          (ap (λ i. slice_get (slice_set places here q) i) same ∙ set_here places here q p is))
      | inr ne ↦ off_key w.net.places here id (Some new) ne ∙ stand.none id (sym (set_off places here id q ne) ∙ e)
    ]

    stand_after : AllStandFor program bounds (slice_set places here q) (with_sent flights out) after
    stand_after = record {
      some = some_after;
      none = none_after;
      told = told_then;
      watched = subst (λ n. IsWatched n after (counts_in (slice_set places here q) told_then)) (sym (length-set places here q)) watched;
      answered = subst (λ n. AreAnswered (record { program = program; places = n }) after.net) (sym (length-set places here q))
          (answered_after_move (setting_in program places) w.net here key flights.posted m new effect stand.answered there moves);
      budget = budget_after_move (setting_in program places) bounds w here key flights.posted m new effect bounds-are stand.watched.sound stand.budget
          there moves;
      flies = subst (λ n. Flies program n (with_sent flights out) after told_then) (sym (length-set places here q))
          (flies_with out.report puts.report);
    }

  waits_put : (effect : Effect) (number : ℕ) → effect ≡ Waits number → PutsOut p.program (context_of (far_in w) p) (store_of p) effect no_sent
  waits_put effect number e = subst (λ f. PutsOut p.program (context_of (far_in w) p) (store_of p) f no_sent) (sym e)
      (record { message = refl; report = λ f. refl })

  abbrev LeadsOn : Stepped → Type 0
  LeadsOn answer = (v : World) × (s : Steps Ideal (setting_in program places) w here key v) × Answers (far_in w) p answer s.effect
      × AllStandFor program bounds (slice_set places here q) (after_step flights answer) v

  module _ (m : machine.Place) (there : w.net.places here ≡ Some m) (old : StandsFor (far_in w) p m) where
    its_moves : (new : machine.Place) (effect : Effect) → Moves (place.setting_of p) p.id m key new effect
        → Moves (setting_in program places) here m key new effect
    its_moves new effect moves =
        subst (λ g. Moves (record { program = g; places = length places }) here m key new effect) belongs.program_is
        (subst (λ n. Moves (record { program = p.program; places = n }) here m key new effect) belongs.places_are
        (subst (λ i. Moves (place.setting_of p) i m key new effect) belongs.id_is moves))

    step_from : (answer : Stepped) → Leads (far_in w) p m key answer q → LeadsOn answer
    step_from stepped.Idle led =
        let moves = its_moves led.new led.effect led.moves in
        let puts = waits_put led.effect led.answers.0 led.answers.1 in (
          after m led.new led.effect no_sent there old.exports.exports_are moves led.stands led.counted puts,
          steps_on m led.new led.effect no_sent there old.exports.exports_are moves led.stands led.counted puts,
          led.answers,
          stand_after m led.new led.effect no_sent there old.exports.exports_are moves led.stands led.counted puts,
        )
    step_from (stepped.Moved out) led =
        let moves = its_moves led.new led.effect led.moves in
        let puts = led.answers.1 in (
          after m led.new led.effect out there old.exports.exports_are moves led.stands led.counted puts,
          steps_on m led.new led.effect out there old.exports.exports_are moves led.stands led.counted puts,
          led.answers,
          stand_after m led.new led.effect out there old.exports.exports_are moves led.stands led.counted puts,
        )

pub step_leads : StepLeads
step_leads program bounds places flights w here key p q answer bounds-are belong stand is leads =
    let old = stand.some here p is in
    step_from program bounds places flights w here key p q bounds-are belong stand is old.0 old.1 old.2 answer (leads (far_in w) old.0 old.2)
