-- Steps of one stay at a stretch.
use Rattle.std.proofs.Common.{◌≡◌, ◌≢◌, ℕ, ◌+◌, [], false, Option, Some, IfSome, Result, Ok, Err, IfOk, IfErr, refl, sym, ap, subst, ◌∙◌, arith}
use Rattle.x10_kinds.specs.declared.stop.Stop.{Stop}
use Rattle.x10_code.specs.declared.instr.Instr.{Instr}
use Rattle.x10_model.specs.Modules.{Module}
use Rattle.x10_heap.specs.Heaps.{HeapState}
use Rattle.x10_place.specs.declared.call_frame.CallFrame.{CallFrame}
use Rattle.x10_place.specs.declared.route.Route.{Route}
use Rattle.x10_place.specs.declared.route.Route.TheVariants as route
use Rattle.x10_place.specs.declared.outcome.Deed.{Deed}
use Rattle.x10_place.specs.declared.outcome.Deed.TheVariants as deed
use Rattle.x10_place.specs.declared.outcome.Departure.TheVariants as departure
use Rattle.x10_place.specs.declared.outcome.Outcome.{Outcome}
use Rattle.x10_place.specs.declared.outcome.Outcome.TheVariants as outcome
use Rattle.x10_place.specs.Frames.{Workspace, space_of, with_space, IsFetchedFor}
use Rattle.x10_place.specs.Routes.{route_of, op_made}
use Rattle.x10_place.specs.Stays.{StayState, StoreState, Location, IsPlaced, Refuses, Steps}
use Rattle.x10_place.specs.Stretches.{IsLocalStep, Locally, none, more, Stretch, still, further, Stretched, IsStopped, IsStep, Paused}
use Rattle.x10_place.specs.WorkingStays.{IsWorking}
use Rattle.x10_place.proofs.GoingOn.{typed_after}
use Rattle.x10_place.proofs.StandingFrames.{IsChecked}
use Rattle.x10_place.proofs.RoutesOfOne.{is_async, is_at, is_ata, is_return}
use Rattle.x10_place.proofs.CountedStays.{registered_after}

-- ---- of one call frame

-- the stay with its top call frame as a workspace says, and the store with its heap
abbrev pub stay_at : StayState → Workspace → StayState
stay_at a w = record a { top = with_space a.top w }

abbrev pub store_at : StoreState → Workspace → StoreState
store_at s w = record s { heap = w.heap }

-- a stay that goes on isn't away
ready_after : (r : Route) (at : Location) (a b : StayState) (s t : StoreState) (i : Instr) → a.away ≡ false → Steps r at a s i outcome.Goes b t
    → b.away ≡ false
ready_after (route.Local l) at a b s t i ready steps = ap (λ (x : StayState). x.away) steps.1.rest ∙ ready
ready_after (route.Make k) at a b s t i ready steps = ap (λ (x : StayState). x.away) steps.1.rest ∙ ready
ready_after (route.Site k) at a b s t i ready steps = ap (λ (x : StayState). x.away) steps.1.rest ∙ ready
ready_after route.Export at a b s t i ready steps = ap (λ (x : StayState). x.away) steps.1.rest ∙ ready
ready_after route.Call at a b s t i ready steps = ap (λ (x : StayState). x.away) steps.1.rest ∙ ready
ready_after route.Return at a b s t i ready steps = ap (λ (x : StayState). x.away) steps.0.rest ∙ ready
ready_after route.Print at a b s t i ready steps = ap (λ (x : StayState). x.away) steps.1.rest ∙ ready
ready_after (route.Region inside) at a b s t i ready steps = ap (λ (x : StayState). x.away) steps.1.rest ∙ ready
ready_after route.OpenFinish at a b s t i ready steps = ap (λ (x : StayState). x.away) steps.1.rest ∙ ready
ready_after route.CloseFinish at a b s t i ready steps = ap (λ (x : StayState). x.away) steps.rest ∙ ready
ready_after route.Async at a b s t i ready steps = absurd (let f = steps.0 in cc)
ready_after route.At at a b s t i ready steps = absurd (let f = steps.0 in cc)
ready_after route.Ata at a b s t i ready steps = absurd (let f = steps.0 in cc)

-- a stay that has made a step and goes on can make further ones
pub working_after : (at : Location) (a b : StayState) (s t : StoreState) (i : Instr) → IsChecked at.program → IsWorking at s a
    → IsFetchedFor at.program a.top i → Steps (route_of i.op) at a s i outcome.Goes b t → IsWorking at t b
working_after at a b s t i checks w fetched steps = record {
  ready = ready_after (route_of i.op) at a b s t i w.ready steps;
  typed = typed_after at a b s t i checks w.registered.here w.typed fetched steps;
  registered = registered_after at a b s t i w.registered steps;
}

steps_by : (at : Location) (a b : StayState) (s t : StoreState) (i : Instr) (l : _) → route_of i.op ≡ route.Local l
    → Steps (route.Local l) at a s i outcome.Goes b t → Steps (route_of i.op) at a s i outcome.Goes b t
steps_by at a b s t i l e h = subst (λ r. Steps r at a s i outcome.Goes b t) (sym e) h

module _ (at : Location) (checks : IsChecked at.program) (a : StayState) (s : StoreState) (working : IsWorking at s a) where
  -- so many operations of the top call frame are so many steps, and the stay can make further ones
  pub record Reaches (n : ℕ) (w : Workspace) : Type 0 where
    pub stretch : Stretch at a s n (stay_at a w) (store_at s w)
    pub stands : IsWorking at (store_at s w) (stay_at a w)

  local_step : (n : ℕ) (v w : Workspace) → Reaches n v → IsLocalStep at.program a.top.function v w → Reaches (n + 1) w
  local_step n v w before step =
      let steps = steps_by at (stay_at a v) (stay_at a w) (store_at s v) (store_at s w) step.instr step.local step.route_is
      (refl, record { changes = step.acts; function_is = refl; rest = refl; store = refl }) in
      record {
        stretch = further n (stay_at a v) (stay_at a w) (store_at s v) (store_at s w) before.stretch
            (record { placed = before.stands.typed.stands.placed; instr = step.instr; fetched = step.fetched; steps = steps });
        stands = working_after at (stay_at a v) (stay_at a w) (store_at s v) (store_at s w) step.instr checks before.stands step.fetched steps;
      }

  pub local_steps : (n : ℕ) (w : Workspace) → Locally at.program a.top.function (space_of a.top s.heap) n w → Reaches n w
  local_steps n w (none) = record { stretch = still; stands = working }
  local_steps n w (more k v u far step) = local_step k v w (local_steps k v far) step

stretched : (at : Location) (v a : StayState) (r s : StoreState) (g : CallFrame) (heap : HeapState) (n : ℕ) → IsChecked at.program → v ≡ a → r ≡ s
    → IsWorking at s a → Locally at.program v.top.function (space_of v.top r.heap) n (space_of g heap)
    → g ≡ with_space v.top (space_of g heap) → Stretched at a s n (record v { top = g }) (record r { heap = heap })
stretched at v a r s g heap n checks seen same working ran kept =
    let working_v : IsWorking at r v = subst (λ q. IsWorking at q v) (sym same) (subst (λ x. IsWorking at s x) (sym seen) working) in
    let made = local_steps at checks v r working_v n (space_of g heap) ran in
    let back : stay_at v (space_of g heap) ≡ record v { top = g } = ap (λ h. record v { top = h }) (sym kept) in
    record {
      stretch = subst (λ q. Stretch at a q n (record v { top = g }) (record r { heap = heap })) same
          (subst (λ x. Stretch at x r n (record v { top = g }) (record r { heap = heap })) seen
          (subst (λ b. Stretch at v r n b (record r { heap = heap })) back made.stretch));
      working = subst (λ b. IsWorking at (record r { heap = heap }) b) back made.stands;
    }

-- the instruction at which a stretch has ended
pub fetched_there : (program : Module) (f : CallFrame) (o : Option Instr) (i : Instr) → IfSome o (λ j. IsFetchedFor program f j) → o ≡ Some i
    → IsFetchedFor program f i
fetched_there program f o i h e = subst (λ p. IfSome p (λ j. IsFetchedFor program f j)) e h

-- ---- one stretch after another

pub stretch_on : (at : Location) (a b : StayState) (s t : StoreState) (m : ℕ) → Stretch at a s m b t → (n : ℕ) (c : StayState) (u : StoreState)
    → Stretch at b t n c u → Stretch at a s (m + n) c u
stretch_on at a b s t m far n c u (still) = subst (λ k. Stretch at a s k b t) (omega arith) far
stretch_on at a b s t m far n c u (further k d e v w near step) =
    subst (λ j. Stretch at a s j c u) (omega arith) (further (m + k) d c v u (stretch_on at a b s t m far k d v near) step)

-- operations of the top call frame, after so many steps
pub stretched_on : (at : Location) (b : StayState) (q : StoreState) (m : ℕ) (v a : StayState) (r s : StoreState) (g : CallFrame) (heap : HeapState)
    (n : ℕ) → IsChecked at.program → v ≡ a → r ≡ s → IsWorking at s a → Stretch at b q m a s → (f : CallFrame) → f ≡ v.top
    → Locally at.program f.function (space_of f r.heap) n (space_of g heap) → g ≡ with_space f (space_of g heap)
    → Stretched at b q (m + n) (record v { top = g }) (record r { heap = heap })
stretched_on at b q m v a r s g heap n checks seen same working far f top ran kept =
    let near = stretched at v a r s g heap n checks seen same working
    (subst (λ (h : CallFrame). Locally at.program h.function (space_of h r.heap) n (space_of g heap)) top ran)
    (kept ∙ ap (λ h. with_space h (space_of g heap)) top) in
    record { stretch = stretch_on at b a q s m far n (record v { top = g }) (record r { heap = heap }) near.stretch; working = near.working }

pub paused_on : (r : Result Outcome Stop) (at : Location) (a b c : StayState) (s t u : StoreState) (m n k : ℕ) → m + n ≡ k → Stretch at a s m b t
    → Paused r at b t n c u → Paused r at a s k c u
paused_on (Ok outcome.Goes) at a b c s t u m n k e far near = subst (λ j. Stretch at a s j c u) e (stretch_on at a b s t m far n c u near)
paused_on (Ok outcome.Waits) at a b c s t u m n k e far near =
    (subst (λ j. Stretch at a s j c u) e (stretch_on at a b s t m far n c u near.0), near.1)
paused_on (Ok (outcome.ForPlace d i)) at a b c s t u m n k e far near =
    (subst (λ j. Stretch at a s j c u) e (stretch_on at a b s t m far n c u near.0), near.1)
paused_on (Err why) at a b c s t u m n k e far near = (subst (λ j. Stretch at a s j c u) e (stretch_on at a b s t m far n c u near.0), near.1)

-- a refused step has changed nothing
pub unchanged : (at : Location) (a b c : StayState) (s t u : StoreState) (n : ℕ) → Stretch at a s n b t → c ≡ b → u ≡ t → Stretch at a s n c u
unchanged at a b c s t u n far same kept = subst (λ d. Stretch at a s n d u) (sym same) (subst (λ v. Stretch at a s n b v) (sym kept) far)

-- and the stay stands at the instruction whose step was refused
pub stopped_at : (at : Location) (b c : StayState) (t u : StoreState) (i : Instr) (why : Stop) → IsFetchedFor at.program b.top i → c ≡ b → u ≡ t
    → Refuses (route_of i.op) b t i why → IsStopped at c u why
stopped_at at b c t u i why fetched same kept refuses =
    subst (λ v. IsStopped at c v why) (sym kept) (subst (λ d. IsStopped at d t why) (sym same)
    (record { instr = i; fetched = fetched; refuses = refuses }))

went_on : (i : Instr) (at : Location) (b c : StayState) (t u : StoreState) (r : Result Outcome Stop) → r ≡ Ok outcome.Goes
    → IfOk r (λ p. Steps (route_of i.op) at b t i p c u) → Steps (route_of i.op) at b t i outcome.Goes c u
went_on i at b c t u r goes steps = subst (λ q. IfOk q (λ p. Steps (route_of i.op) at b t i p c u)) goes steps

-- after a step by which the stay goes on it can make further ones
pub working_on : (at : Location) (b c : StayState) (t u : StoreState) (i : Instr) → IsChecked at.program → IsWorking at t b
    → IsFetchedFor at.program b.top i → (r : Result Outcome Stop) → r ≡ Ok outcome.Goes → IfOk r (λ p. Steps (route_of i.op) at b t i p c u)
    → IsWorking at u c
working_on at b c t u i checks working fetched r goes steps = working_after at b c t u i checks working fetched (went_on i at b c t u r goes steps)

-- one step more
module _ (at : Location) (a b c : StayState) (s t u : StoreState) (n : ℕ) (i : Instr) (far : Stretch at a s n b t) (placed : IsPlaced at.program b)
    (fetched : IsFetchedFor at.program b.top i) where
  step_is : (o : Outcome) → Steps (route_of i.op) at b t i o c u → IsStep at b t o c u
  step_is o steps = record { placed = placed; instr = i; fetched = fetched; steps = steps }

  pub further_by : (r : Result Outcome Stop) → r ≡ Ok outcome.Goes → IfOk r (λ p. Steps (route_of i.op) at b t i p c u) → Stretch at a s (n + 1) c u
  further_by r goes steps = further n b c t u far (step_is outcome.Goes (went_on i at b c t u r goes steps))

  -- a step that waits, or that the place has to make, has changed nothing
  waits_unchanged : (r : Route) → Steps r at b t i outcome.Waits c u → (c ≡ b) × (u ≡ t)
  waits_unchanged route.CloseFinish steps = (steps.stay, steps.store)
  waits_unchanged (route.Local l) steps = absurd (let f = steps.0 in cc)
  waits_unchanged (route.Make k) steps = absurd (let f = steps.0 in cc)
  waits_unchanged (route.Site k) steps = absurd (let f = steps.0 in cc)
  waits_unchanged route.Export steps = absurd (let f = steps.0 in cc)
  waits_unchanged route.Call steps = absurd (let f = steps.0 in cc)
  waits_unchanged route.Print steps = absurd (let f = steps.0 in cc)
  waits_unchanged (route.Region inside) steps = absurd (let f = steps.0 in cc)
  waits_unchanged route.OpenFinish steps = absurd (let f = steps.0 in cc)
  waits_unchanged route.Return steps = absurd steps
  waits_unchanged route.Async steps = absurd (let f = steps.0 in cc)
  waits_unchanged route.At steps = absurd (let f = steps.0 in cc)
  waits_unchanged route.Ata steps = absurd (let f = steps.0 in cc)

  pub left_unchanged : (d : Deed) (j : Instr) (r : Route) → Steps r at b t i (outcome.ForPlace d j) c u → (c ≡ b) × (u ≡ t)
  left_unchanged d j route.Async steps = (steps.1, steps.2)
  left_unchanged d j route.At steps = (steps.1, steps.2)
  left_unchanged d j route.Ata steps = (steps.1, steps.2)
  left_unchanged d j route.Return steps = (steps.3, steps.4)
  left_unchanged d j (route.Local l) steps = absurd (let f = steps.0 in cc)
  left_unchanged d j (route.Make k) steps = absurd (let f = steps.0 in cc)
  left_unchanged d j (route.Site k) steps = absurd (let f = steps.0 in cc)
  left_unchanged d j route.Export steps = absurd (let f = steps.0 in cc)
  left_unchanged d j route.Call steps = absurd (let f = steps.0 in cc)
  left_unchanged d j route.Print steps = absurd (let f = steps.0 in cc)
  left_unchanged d j (route.Region inside) steps = absurd (let f = steps.0 in cc)
  left_unchanged d j route.OpenFinish steps = absurd (let f = steps.0 in cc)
  left_unchanged d j route.CloseFinish steps = absurd steps

  stays_there : (p : Outcome) → (c ≡ b) × (u ≡ t) → IsStep at b t p c u → Stretch at a s n c u × IsStep at c u p c u
  stays_there p same step = (
    subst (λ d. Stretch at a s n d u) (sym same.0) (subst (λ v. Stretch at a s n b v) (sym same.1) far),
    subst (λ d. IsStep at d u p c u) (sym same.0) (subst (λ v. IsStep at b v p c u) (sym same.1) step),
  )

  -- a step by which the stay doesn't go on
  pub paused_there : (r : Result Outcome Stop) → r ≢ Ok outcome.Goes → IfOk r (λ o. Steps (route_of i.op) at b t i o c u)
      → IfErr r (λ why. (c ≡ b) × (u ≡ t) × Refuses (route_of i.op) b t i why) → Paused r at a s n c u
  paused_there (Ok outcome.Goes) on steps refuses = absurd (on refl)
  paused_there (Ok outcome.Waits) on steps refuses = stays_there outcome.Waits (waits_unchanged (route_of i.op) steps) (step_is outcome.Waits steps)
  paused_there (Ok (outcome.ForPlace d j)) on steps refuses =
      stays_there (outcome.ForPlace d j) (left_unchanged d j (route_of i.op) steps) (step_is (outcome.ForPlace d j) steps)
  paused_there (Err why) on steps refuses = (
    unchanged at a b c s t u n far refuses.0 refuses.1,
    stopped_at at b c t u i why fetched refuses.0 refuses.1 refuses.2,
  )

-- ---- what is for the place to make

-- by which operation, and that it is the last RET of a stay
pub made_there : (at : Location) (a b : StayState) (s t : StoreState) (i : Instr) (d : Deed) (j : Instr) (r : Route) → route_of i.op ≡ r
    → Steps r at a s i (outcome.ForPlace d j) b t → (j ≡ i) × (i.op ≡ op_made d) × (d ≡ deed.Leave → a.callers ≡ [])
made_there at a b s t i d j route.Async e steps = let f = steps.0 in let same : d ≡ deed.Begin = cc in
    (cc, is_async i.op e ∙ ap op_made (sym same), λ g. absurd cc)
made_there at a b s t i d j route.At e steps = let f = steps.0 in let same : d ≡ deed.Depart departure.At = cc in
    (cc, is_at i.op e ∙ ap op_made (sym same), λ g. absurd cc)
made_there at a b s t i d j route.Ata e steps = let f = steps.0 in let same : d ≡ deed.Depart departure.Ata = cc in
    (cc, is_ata i.op e ∙ ap op_made (sym same), λ g. absurd cc)
made_there at a b s t i d j route.Return e steps = (steps.1, is_return i.op e ∙ ap op_made (sym steps.0), λ g. steps.2)
made_there at a b s t i d j (route.Local l) e steps = absurd (let f = steps.0 in cc)
made_there at a b s t i d j (route.Make k) e steps = absurd (let f = steps.0 in cc)
made_there at a b s t i d j (route.Site k) e steps = absurd (let f = steps.0 in cc)
made_there at a b s t i d j route.Export e steps = absurd (let f = steps.0 in cc)
made_there at a b s t i d j route.Call e steps = absurd (let f = steps.0 in cc)
made_there at a b s t i d j route.Print e steps = absurd (let f = steps.0 in cc)
made_there at a b s t i d j (route.Region inside) e steps = absurd (let f = steps.0 in cc)
made_there at a b s t i d j route.OpenFinish e steps = absurd (let f = steps.0 in cc)
made_there at a b s t i d j route.CloseFinish e steps = absurd steps
