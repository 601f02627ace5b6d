-- Why a worker stopped.
use Rattle.std.proofs.Common.{◌≡◌, ◌⊎◌, ℕ, List, [], ◌∷◌, Result, Ok, Err, IfErr, refl, sym, subst, inl, inr}
use Rattle.std.specs.Prelude.{MatchResult, replicate, take, true, ◌≢◌}
use Rattle.std.specs.Result.{IsErrAnd}
use Rattle.x10_kinds.specs.declared.stop.Stop.{Stop}
use Rattle.x10_kinds.specs.declared.stop.Stop.TheVariants as stop
use Rattle.x10_copy.specs.declared.refusal.Refusal.{Refusal}
use Rattle.x10_copy.specs.declared.refusal.Refusal.TheVariants as refusal
use Rattle.x10_place.specs.Receiving.{IsRefusedBytes}
use Rattle.x10_place.specs.StandsFor.{PlaceState, IsHindered}
use Rattle.x10_hall.specs.Halls.{PostedFrame, Numbered}
use Rattle.x10_hall.specs.Mails.{IsPostFault}
use Rattle.x10_hall.specs.declared.port.PostFault.{PostFault}
use Rattle.x10_hall.specs.declared.port.PostFault.TheVariants as posting
use Rattle.x10_workers.specs.declared.halt.Halt.{Halt}
use Rattle.x10_workers.specs.declared.halt.Halt.TheVariants as halt
use Rattle.x10_workers.specs.declared.trail.OwnTurn.{OwnTurn}
use Rattle.x10_workers.specs.Halts.{halt_of_fault, halt_of_refusal}
use Rattle.x10_place.specs.Messages.{no_sent}
use Rattle.x10_place.specs.Stretches.{Strides}
use Rattle.x10_place.specs.Sweeps.{Sweeps, unswept, swept, quietly, IsHaltedSweep}
use Rattle.x10_workers.proofs.SweepTrails.{sweeps_to_each}
use Rattle.x10_workers.proofs.WorkLemmas.{strides_each}
use Rattle.x10_workers.specs.Trails.{frames_sent, TakesEach, StepsEach, TrailLeads}
use Rattle.x10_workers.specs.Workings.{WorksOn}
use Rattle.x10_workers.specs.Causes.{GoesTo, IsCauseOf, Halts}
use Rattle.x10_workers.specs.Causes.GoesTo.{stays, takes, steps}

-- ---- where a place goes

goes_on : (p q r : PlaceState) → GoesTo p q → GoesTo q r → GoesTo p r
goes_on p q _ first stays = first
goes_on p q r first (takes s _ bytes far one) = takes s r bytes (goes_on p q s first far) one
goes_on p q r first (steps s _ keys out far some) = steps s r keys out (goes_on p q s first far) some

takes_goes : (p q : PlaceState) (fs : List Numbered) → TakesEach p fs q → GoesTo p q
takes_goes p q [] e = subst (λ z. GoesTo p z) (sym e) stays
takes_goes p q (f ∷ fs) led = goes_on p led.0 q (takes p led.0 f.bytes stays led.1) (takes_goes led.0 q fs led.2)

steps_goes : (p q : PlaceState) (keys : List ℕ) (out : List PostedFrame) → StepsEach p keys out q → GoesTo p q
steps_goes p q keys out led = steps p q keys out stays led

trail_goes : (p q : PlaceState) (ts : List OwnTurn) → TrailLeads p ts q → GoesTo p q
trail_goes p q [] e = subst (λ z. GoesTo p z) (sym e) stays
trail_goes p q (t ∷ ts) led = goes_on p led.0 q
    (goes_on p led.1.middle led.0 (takes_goes p led.1.middle _ led.1.takes) (steps_goes led.1.middle led.0 _ _ led.1.steps))
    (trail_goes led.0 q ts led.2)

-- ---- causes

pub halts_after : (p q : PlaceState) (why : Halt) → GoesTo p q → Halts q why → Halts p why
halts_after p q why goes h = record { last = h.last; goes = goes_on p q h.last goes h.goes; cause = h.cause }

pub halts_taken : (p q : PlaceState) (fs : List Numbered) (why : Halt) → TakesEach p fs q → Halts q why → Halts p why
halts_taken p q fs why led = halts_after p q why (takes_goes p q fs led)

pub halts_stepped : (p q : PlaceState) (keys : List ℕ) (out : List PostedFrame) (why : Halt) → StepsEach p keys out q → Halts q why → Halts p why
halts_stepped p q keys out why led = halts_after p q why (steps_goes p q keys out led)

pub halts_worked : (p q : PlaceState) (old new : List OwnTurn) (why : Halt) → WorksOn p old q new → Halts q why → Halts p why
halts_worked p q old new why works = halts_after p q why (trail_goes p q works.more works.leads)

here : (p : PlaceState) (why : Halt) → IsCauseOf p why → Halts p why
here p why cause = record { last = p; goes = stays; cause = cause }

pub memory_halts : (p : PlaceState) → Halts p (halt.Stop stop.Memory)
memory_halts p = here p (halt.Stop stop.Memory) (inl refl)

pub ended_halts : (p : PlaceState) → Halts p halt.Ended
ended_halts p = here p halt.Ended tt

pub hindered_halts : (p : PlaceState) (key : ℕ) (why : Stop) → IsHindered p key why → Halts p (halt.Stop why)
hindered_halts p key why h = here p (halt.Stop why) (inr (inr (inl (key, h))))

pub post_halts : (p : PlaceState) (why : PostFault) → IsPostFault why → Halts p (halt_of_fault why)
post_halts p posting.Stopped h = here p halt.Ended tt
post_halts p posting.Turns h = here p halt.Turns tt
post_halts p (posting.Stop why) (inl memory) = here p (halt.Stop why) (inl memory)
post_halts p (posting.Stop why) (inr frames) = here p (halt.Stop why) (inr (inl frames))

pub refused_halts : (p : PlaceState) (bytes : List ℕ) (why : Refusal) → IsRefusedBytes p bytes why → Halts p (halt_of_refusal why)
refused_halts p bytes refusal.Memory h = memory_halts p
refused_halts p bytes (refusal.Limit limit) h = here p (halt.Stop (stop.Limit limit)) (inr (inr (inr (bytes, refusal.Limit limit, h, refl))))
refused_halts p bytes refusal.Stopped h = here p (halt.Stop stop.Stopped) (inr (inr (inr (bytes, refusal.Stopped, h, refl))))
refused_halts p bytes refusal.NotHere h = here p (halt.Refused refusal.NotHere) (bytes, h)
refused_halts p bytes refusal.Function h = here p (halt.Refused refusal.Function) (bytes, h)
refused_halts p bytes refusal.Kind h = here p (halt.Refused refusal.Kind) (bytes, h)
refused_halts p bytes refusal.Home h = here p (halt.Refused refusal.Home) (bytes, h)
refused_halts p bytes refusal.Ref h = here p (halt.Refused refusal.Ref) (bytes, h)
refused_halts p bytes refusal.Finish h = here p (halt.Refused refusal.Finish) (bytes, h)
refused_halts p bytes refusal.Segment h = here p (halt.Refused refusal.Segment) (bytes, h)
refused_halts p bytes (refusal.Frame f) h = here p (halt.Refused (refusal.Frame f)) (bytes, h)

-- what is told of an error
pub told_as : {T : Type 0} (r : Result T Halt) (why : Halt) (P : Halt → Type 0) → IsErrAnd r (λ made. made ≡ why) → P why → IfErr r P
told_as (Ok x) why P e h = absurd e
told_as (Err made) why P e h = subst P (sym e) h

-- a worker that stopped for a reason, or since its turns weren't posted
pub halted_as : (p : PlaceState) (why told : Halt) → (told ≡ why) ⊎ ((q : PlaceState) → Halts q told) → Halts p why → Halts p told
halted_as p why told (inl same) h = subst (λ w. Halts p w) (sym same) h
halted_as p why told (inr lost) h = lost p

-- ---- what stops a place

pub if_halted : {T : Type 0} (r : Result T Stop) (why : Stop) (A : T → Type 0) (B : Stop → Type 0) → r ≡ Err why → MatchResult r A B → B why
if_halted r why A B is h = subst (λ s. MatchResult s A B) is h

-- the step after several of one activity was refused
pub stretch_halts : (key : ℕ) (p : PlaceState) (n : ℕ) (why : Stop) (q : PlaceState) → p.stopped ≢ true
    → ((r : PlaceState) × Strides key p n r × (q ≡ record r { stopped = true }) × (p.stopped ≢ true → IsHindered r key why))
    → Halts p (halt.Stop why)
stretch_halts key p n why q goes h = halts_stepped p h.0 (replicate n key) [] (halt.Stop why) (strides_each key p n h.0 h.1)
    (hindered_halts h.0 key why (h.3 goes))

swept_on : (keys : List ℕ) (p : PlaceState) (n m : ℕ) (q : PlaceState) → p.stopped ≢ true → Sweeps keys p n m q → q.stopped ≢ true
swept_on keys p n m q goes (unswept) = goes
swept_on keys p n m q goes (swept k i j key r s far is one) = one.pace.goes

-- the step after one of each of several activities was refused
pub swept_halts : (keys : List ℕ) (p : PlaceState) (n m : ℕ) (why : Stop) (q : PlaceState) → p.stopped ≢ true
    → IsHaltedSweep keys p n m why q → Halts p (halt.Stop why)
swept_halts keys p n m why q goes h = halts_stepped p h.last (take n keys) (frames_sent no_sent) (halt.Stop why)
    (sweeps_to_each keys p n m no_sent h.last (quietly n m h.last h.sweeps))
    (hindered_halts h.last h.key why (h.refused.hindered (swept_on keys p n m h.last goes h.sweeps)))
