-- A step waits at the end of a finish only where something lives that the finish governs, or a message flies.
use Rattle.std.proofs.Common.{◌≡◌, ℕ, true, false, List, [], ◌∷◌, length, Option, Some, None, refl, sym, ap, subst, ◌∙◌}
use Rattle.std.specs.Prelude.{slice_get}
use Rattle.std.proofs.lemmas.Option.{same_Some, slice_get_within}
use Rattle.x10_code.specs.declared.op.Op.{Op}
use Rattle.x10_model.specs.Modules.{Module}
use Rattle.x10_model.specs.Places as machine
use Rattle.x10_model.specs.declared.finish.Finish.{Finish}
use Rattle.x10_model.specs.Places.{Setting, Stay, IsFree, Effect, Waits, Closes}
use Rattle.x10_model.specs.Moves.{Situation, Moves}
use Rattle.x10_model.specs.Worlds.{World}
use Rattle.x10_finish.specs.Closing.{IsAtItsEnd}
use Rattle.x10_finish.specs.Nesting.{stays_in, stays_of}
use Rattle.x10_finish.proofs.WorldLemmas.{ended_is_done}
use Rattle.x10_place.specs.Stays.{StayState, IsDoneHere, finish_at}
use Rattle.x10_place.specs.StandsFor.{PlaceState, store_of, IsIdleAt, nobody, away, kept_out, waits}
use Rattle.x10_flights.specs.Flights.{FlightsState, flight_among}
use Rattle.x10_world.specs.Prompt.{MayEnd, WorksIn}
use Rattle.x10_world.specs.StandsForWorld.{BelongTo, setting_in, counts_in, AllStandFor, EndedIsDoneHere, far_in}
use Rattle.x10_model.proofs.NotWrong.{situation}
use Rattle.x10_model.proofs.Ways as ways
use Rattle.x10_model.proofs.Operations.{way_of}
use Rattle.x10_model.proofs.Ways.{Way}
use Rattle.x10_model.proofs.Lists.{none_some}
use Rattle.x10_model.proofs.Found.{head_is}
use Rattle.x10_world.proofs.StepLemmas.{done_by}
use Rattle.x10_place.proofs.Insides.{kept_out_of}

-- ---- where a finish may end, its home lets it

at_its_end : (w : World) (here key number : ℕ) (o : Option machine.Place) → w.net.places here ≡ o → (works : WorksIn w here key number)
    → stays_in o key ≡ Some works.stay → IsAtItsEnd w (finish_at here number)
at_its_end w here key number None e works there = absurd cc
at_its_end w here key number (Some place) e works there = record {
  key = key;
  place = place;
  stay = works.stay;
  rest = works.outer;
  place_is = e;
  stay_is = there;
  is_ready = works.is_ready;
  innermost_is = works.innermost_is;
}

-- where nothing flies, no report does
none_told : (program : Module) (bounds : List ℕ) (places : List PlaceState) (flights : FlightsState) (w : World) (f : Finish) (number : ℕ)
    → (stand : AllStandFor program bounds places flights w) → flights.flying ≡ [] → stand.told f number ≡ None
none_told program bounds places flights w f number stand empty = (stand.flies.none number (ap (λ fs. flight_among fs number) empty)).1 f

pub ended_is_done_here : EndedIsDoneHere
ended_is_done_here program bounds places flights w here key number p belong stand empty is works may =
    let at = at_its_end w here key number (w.net.places here) refl works works.is_there in
    let belongs = belong here p is in
    done_by places stand.told here number p is belongs.id_is belongs.places_are
    (ended_is_done (length places) w (counts_in places stand.told) (finish_at here number) stand.watched at
    (slice_get_within places here p is) may.none_flies (λ n. none_told program bounds places flights w (finish_at here number) n stand empty)
    may.ended)

-- ---- what is idle

-- the machine's stay is the one that the place's stands for
same_stay : (places : List PlaceState) (program : Module) (bounds : List ℕ) (flights : FlightsState) (w : World) (here key : ℕ) (p : PlaceState)
    (stay : Stay) → (stand : AllStandFor program bounds places flights w) → (is : slice_get places here ≡ Some p)
    → stays_of w.net here key ≡ Some stay → (stand.some here p is).0.stays key ≡ Some stay
same_stay places program bounds flights w here key p stay stand is there =
    (let old = stand.some here p is in ap (λ o. stays_in o key) (sym old.1) ∙ there)

ready_away : (s t : Stay) (a : StayState) → s ≡ t → s.away ≡ a.away → a.away ≡ true → t.away ≡ false → ⊥
ready_away s t a e same on off = (let f : true ≡ false = sym on ∙ sym same ∙ ap (λ (x : Stay). x.away) e ∙ off in absurd cc)

-- an activity that works and has nothing to do stands at the end of a finish that may not end
pub idle_works : (program : Module) (bounds : List ℕ) (places : List PlaceState) (flights : FlightsState) (w : World) (here key number : ℕ)
    (p : PlaceState) → BelongTo program bounds (length places) places → AllStandFor program bounds places flights w → flights.flying ≡ []
    → slice_get places here ≡ Some p → IsIdleAt p key
    → WorksIn w here key number → IsFree (stays_of w.net here) key → MayEnd w (finish_at here number) → ⊥
idle_works program bounds places flights w here key number p belong stand empty is (nobody none) works free may =
    let old = stand.some here p is in
    none_some (old.0.stays key) works.stay (old.2.none key none)
    (same_stay places program bounds flights w here key p works.stay stand is works.is_there)
idle_works program bounds places flights w here key number p belong stand empty is (away a there on) works free may =
    let old = stand.some here p is in
    let s = old.2.some key a there in
    ready_away s.0 works.stay a (same_Some s.0 works.stay (sym s.1
    ∙ same_stay places program bounds flights w here key p works.stay stand is works.is_there)) s.2.away on works.is_ready
idle_works program bounds places flights w here key number p belong stand empty is (kept_out other inside apart) works free may =
    let old = stand.some here p is in
    kept_out_of (far_in w) p old.0 key other old.2 inside apart (λ k s there on. free k s (ap (λ o. stays_in o k) old.1 ∙ there) on)
idle_works program bounds places flights w here key number p belong stand empty is (waits a n outer there outside fine innermost not) works free may =
    let old = stand.some here p is in
    let s = old.2.some key a there in
    let same = same_Some s.0 works.stay (sym s.1 ∙ same_stay places program bounds flights w here key p works.stay stand is works.is_there) in
    let number-is : number ≡ n = head_is number n works.outer outer
    (sym works.innermost_is ∙ ap (λ (x : Stay). x.finishes) (sym same) ∙ s.2.finishes ∙ innermost) in
    not (subst (λ k. IsDoneHere (store_of p) k) number-is (ended_is_done_here program bounds places flights w here key number p belong stand empty is
    works may))

-- ---- a move that waits

-- such a move waits for the innermost finish
waits_innermost : (s : Situation) (o : Op) (new : machine.Place) (number : ℕ) → Way s o new (Waits number)
    → (outer : List ℕ) × (s.stay.finishes ≡ number ∷ outer)
waits_innermost s o new number (ways.waits n finishes innermost) = (finishes, innermost)

move_waits : (setting : Setting) (here key number : ℕ) (old new : machine.Place) (effect : Effect) (m : Moves setting here old key new effect)
    → effect ≡ Waits number → (outer : List ℕ) × (m.stay.finishes ≡ number ∷ outer)
move_waits setting here key number old new effect m e = waits_innermost (situation m) m.instr.op new number
    (subst (Way (situation m) m.instr.op new) e (way_of m.instr.op (situation m) new effect m.does))

-- a place's step that finds nothing to do is such a wait
pub idle_prompt : (program : Module) (bounds : List ℕ) (places : List PlaceState) (flights : FlightsState) (w : World) (here key number : ℕ)
    (p : PlaceState) (m new : machine.Place) (effect : Effect) → BelongTo program bounds (length places) places
    → AllStandFor program bounds places flights w → flights.flying ≡ [] → slice_get places here ≡ Some p
    → IsIdleAt p key → w.net.places here ≡ Some m → Moves (setting_in program places) here m key new effect → effect ≡ Waits number
    → MayEnd w (finish_at here number) → ⊥
idle_prompt program bounds places flights w here key number p m new effect belong stand empty is idle there moves e may =
    idle_works program bounds places flights w here key number p belong stand empty is idle works
    (λ k s is_there on. moves.is_free k s (ap (λ o. stays_in o k) (sym there) ∙ is_there) on) may
  where
    works : WorksIn w here key number
    works =
        let own = move_waits (setting_in program places) here key number m new effect moves e in
        record {
          stay = moves.stay;
          outer = own.0;
          is_there = ap (λ o. stays_in o key) there ∙ moves.is_there;
          is_ready = moves.is_ready;
          innermost_is = own.1;
        }
