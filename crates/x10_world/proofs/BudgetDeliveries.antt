-- A delivery keeps activities within their budgets.
use Rattle.std.proofs.Common.{◌≡◌, ℕ, ◌+◌, ◌<◌, ◌≤◌, true, false, List, ◌∷◌, Option, Some, None, Ok, inl, refl, sym, ◌∙◌, ap, subst, arith}
use Rattle.std.specs.Prelude.{slice_index}
use Rattle.x10_model.specs.Maps.{with_entry, with_pair}
use Rattle.x10_model.specs.Modules.{Module, Function}
use Rattle.x10_model.specs.Ranges.{function_at}
use Rattle.x10_model.specs.Structure.{bounds_of}
use Rattle.x10_model.specs.Values.{Value}
use Rattle.x10_model.specs.Places as places
use Rattle.x10_model.specs.declared.finish.Finish.{Finish}
use Rattle.x10_model.specs.Places.{Setting, Origin, Stay, Message, Spawn, Shift, Back}
use Rattle.x10_model.specs.Moves.{new_stay, resumed}
use Rattle.x10_model.specs.Deliveries.{Receives}
use Rattle.x10_model.specs.Worlds.{Flying, Activity, World, book_with, entered}
use Rattle.x10_finish.specs.Nesting.{stays_in, stays_of}
use Rattle.x10_finish.specs.Chains.{Name, IsAmong, IsChain}
use Rattle.x10_finish.specs.Closing.{chains_of, unders_of, IsSound}
use Rattle.x10_finish.proofs.Chains.{taken_uncarried}
use Rattle.x10_finish.proofs.WorldParts.{map_entry, stays_after}
use Rattle.x10_finish.proofs.Sound.{chains_entered, net_with}
use Rattle.x10_world.specs.Budget.{left_of, left_of_any, left_of_all, left_for, IsWithinBudget, BudgetAfterDelivery}
use Rattle.x10_world.proofs.BoundLemmas.{entry_left}
use Rattle.x10_world.proofs.Budgets.{functions_of, steps_of, spent_in, fits_of, within_as, fits_taken, left_apart, left_first, spent_apart, spent_own, kept_of, free_apart}

-- ---- a stay that begins

-- it can take what its function can
pub new_left : (program : Module) (bounds : List ℕ) (function : ℕ) (callee : Function) (arguments : List Value) (under : Finish)
    (back : Option Origin) → bounds_of program ≡ Ok bounds → function_at program function ≡ Some callee
    → left_of program bounds (new_stay function arguments under back) ≡ slice_index bounds function
new_left program bounds function callee arguments under back bounds_are callee_is =
    (let entry = entry_left program bounds function callee (λ n. 0) bounds_are callee_is in omega (arith, entry))

-- the activity that a message carries has a stay more
enters_within : (program : Module) (bounds : List ℕ) (w : World) (here key number : ℕ) (message : Message) (old new : places.Place) (u : Stay)
    → IsSound w.net w.book → IsWithinBudget program bounds w → w.net.places here ≡ Some old → w.net.posts number ≡ Flying message
    → old.stays key ≡ None → new.stays ≡ with_entry old.stays key (Some u) → left_of program bounds u ≡ left_for bounds message
    → IsWithinBudget program bounds (record { net = net_with w.net here new number; book = entered w.book (w.book.carries number) here key })
enters_within program bounds w here key number message old new u i within e flies free stays_are left =
    within_as program bounds (record { net = net_with w.net here new number; book = entered w.book a here key })
    (with_pair (stays_of w.net) here key (Some u)) (functions_of w.book) (with_entry (steps_of w.book) a (steps_of w.book a))
    (with_entry (chains_of w.book) a ((here, key) ∷ chains_of w.book a))
    (stays_after w.net here key old new (Some u) e stays_are) (kept_of (λ x. x.function) w.book a _ refl)
    (map_entry (λ (x : Activity). x.steps) w.book.activities a _ (steps_of w.book) (λ j. refl)) (chains_entered w.book a here key)
    (fits_taken bounds w.book.begun (functions_of w.book) _ spent w.book.carries w.net.posts number message i.carried.begun_one
    (taken_uncarried (stays_of w.net) w.book.begun (chains_of w.book) (unders_of w.book) w.book.carries w.net.posts number message i.carried flies)
    flies own others (fits_of program bounds w within))
  where
    a : ℕ
    a = w.book.carries number

    fresh : (b : ℕ) → b < w.book.begun → IsAmong (here, key) (chains_of w.book b) → ⊥
    fresh b lt = free_apart w.net w.book here key b i (ap (λ o. stays_in o key) e ∙ free) lt

    spent : ℕ → ℕ
    spent = spent_in program bounds (with_pair (stays_of w.net) here key (Some u)) (with_entry (steps_of w.book) a (steps_of w.book a))
        (with_entry (chains_of w.book) a ((here, key) ∷ chains_of w.book a))

    own : spent a ≤ spent_in program bounds (stays_of w.net) (steps_of w.book) (chains_of w.book) a + left_for bounds message
    own =
        let is = spent_own program bounds (with_pair (stays_of w.net) here key (Some u)) (steps_of w.book) (chains_of w.book) a (steps_of w.book a)
        ((here, key) ∷ chains_of w.book a) in
        let first = left_first program bounds (stays_of w.net) here key (Some u) (chains_of w.book a)
        (fresh a (i.carried.begun_one number message flies)) in
        omega (arith, is, first, left)

    others : (b : ℕ) → b < w.book.begun → (b ≡ a → ⊥) → spent b ≤ spent_in program bounds (stays_of w.net) (steps_of w.book) (chains_of w.book) b
    others b lt apart =
        let same = spent_apart program bounds (stays_of w.net) (steps_of w.book) (chains_of w.book) a b here key (steps_of w.book a) (Some u)
        ((here, key) ∷ chains_of w.book a) apart (fresh b lt) in
        omega (arith, same)

-- ---- a stay that goes on

-- a stay that was away goes on behind its at, with all that it could still take
resumed_left : (program : Module) (bounds : List ℕ) (s : Stay) (register : ℕ) (result : Option Value) → s.away ≡ true
    → left_of program bounds (record s { top = resumed s.top register result; away = false }) ≡ left_of program bounds s
resumed_left program bounds s register None away = subst (λ b. left_of program bounds (record s { top = resumed s.top register None; away = false })
    ≡ left_of program bounds (record s { away = b })) (sym away) refl
resumed_left program bounds s register (Some v) away = subst
    (λ b. left_of program bounds (record s { top = resumed s.top register (Some v); away = false }) ≡ left_of program bounds (record s { away = b }))
    (sym away) refl

-- the first stay of the activity that a message carries goes on
resumes_within : (program : Module) (bounds : List ℕ) (w : World) (here key number : ℕ) (message : Message) (old new : places.Place) (s t : Stay)
    (rest : List Name) → IsSound w.net w.book → IsWithinBudget program bounds w → w.net.places here ≡ Some old → w.net.posts number ≡ Flying message
    → stays_of w.net here key ≡ Some s → chains_of w.book (w.book.carries number) ≡ (here, key) ∷ rest → new.stays ≡ with_entry old.stays key (Some t)
    → left_of program bounds t ≡ left_of program bounds s
    → IsWithinBudget program bounds (record { net = net_with w.net here new number; book = w.book })
resumes_within program bounds w here key number message old new s t rest i within e flies there first stays_are left =
    within_as program bounds (record { net = net_with w.net here new number; book = w.book }) (with_pair (stays_of w.net) here key (Some t))
    (functions_of w.book) (steps_of w.book) (chains_of w.book)
    (stays_after w.net here key old new (Some t) e stays_are) refl refl refl
    (fits_taken bounds w.book.begun (functions_of w.book) _ spent w.book.carries w.net.posts number message i.carried.begun_one
    (taken_uncarried (stays_of w.net) w.book.begun (chains_of w.book) (unders_of w.book) w.book.carries w.net.posts number message i.carried flies)
    flies own others (fits_of program bounds w within))
  where
    a : ℕ
    a = w.book.carries number

    lt : a < w.book.begun
    lt = i.carried.begun_one number message flies

    spent : ℕ → ℕ
    spent = spent_in program bounds (with_pair (stays_of w.net) here key (Some t)) (steps_of w.book) (chains_of w.book)

    own : spent a ≤ spent_in program bounds (stays_of w.net) (steps_of w.book) (chains_of w.book) a + left_for bounds message
    own =
        let chain = subst (IsChain (stays_of w.net) (unders_of w.book a)) first (i.linked.chained a lt) in
        let after = ap (left_of_all program bounds (with_pair (stays_of w.net) here key (Some t))) first
        ∙ left_first program bounds (stays_of w.net) here key (Some t) rest chain.3 in
        let before : left_of_all program bounds (stays_of w.net) (chains_of w.book a)
        ≡ left_of program bounds s + left_of_all program bounds (stays_of w.net) rest
        = ap (left_of_all program bounds (stays_of w.net)) first
        ∙ ap (λ x. left_of_any program bounds x + left_of_all program bounds (stays_of w.net) rest) there in
        omega (arith, after, before, left)

    others : (b : ℕ) → b < w.book.begun → (b ≡ a → ⊥) → spent b ≤ spent_in program bounds (stays_of w.net) (steps_of w.book) (chains_of w.book) b
    others b less apart =
        let owner : w.book.belongs here key ≡ a = i.linked.owner a here key lt (subst (IsAmong (here, key)) (sym first) (inl refl)) in
        let same = left_apart program bounds (stays_of w.net) (chains_of w.book b) here key (Some t)
        (λ m. apart (sym (i.linked.owner b here key less m) ∙ owner)) in
        omega (arith, same)

-- ---- every delivery

received_within : (setting : Setting) (bounds : List ℕ) (w : World) (here key number : ℕ) (message : Message) (old new : places.Place)
    → bounds_of setting.program ≡ Ok bounds → IsSound w.net w.book → IsWithinBudget setting.program bounds w → w.net.places here ≡ Some old
    → w.net.posts number ≡ Flying message
    → Receives setting here old message key new → IsWithinBudget setting.program bounds
    (record { net = net_with w.net here new number; book = book_with w.book (w.book.carries number) here key message })
received_within setting bounds w here key number (Spawn from to under function graph) old new bounds_are i within e flies r =
    let b = r.1 in
    enters_within setting.program bounds w here key number (Spawn from to under function graph) old new
    (new_stay function b.arguments under None) i within e flies b.free (ap (λ (p : places.Place). p.stays) b.new_is)
    (new_left setting.program bounds function b.callee b.arguments under None bounds_are b.fits_function.callee_is)
received_within setting bounds w here key number (Shift from to waiting under function graph) old new bounds_are i within e flies r =
    let b = r.1 in
    let back : Option Origin = Some (record { place = from; key = waiting }) in
    enters_within setting.program bounds w here key number (Shift from to waiting under function graph) old new
    (new_stay function b.arguments under back) i within e flies b.free (ap (λ (p : places.Place). p.stays) b.new_is)
    (new_left setting.program bounds function b.callee b.arguments under back bounds_are b.fits_function.callee_is)
received_within setting bounds w here key number (Back from to waiting graph) old new bounds_are i within e flies r =
    let b = r.2 in
    let says = i.carried.says number (Back from to waiting graph) flies in
    let at : (let x : Name = (to, waiting) in x) ≡ (here, key) = λ j. (r.0 j, sym r.1 j) in
    resumes_within setting.program bounds w here key number (Back from to waiting graph) old new b.stay _ says.0 i within e flies
    (ap (λ o. stays_in o key) e ∙ b.waits.is_there) (says.2 ∙ ap (λ (x : Name). x ∷ says.0) at)
    (ap (λ (p : places.Place). p.stays) b.new_is) (resumed_left setting.program bounds b.stay b.call.a _ b.waits.is_away)

pub budget_after_delivery : BudgetAfterDelivery
budget_after_delivery setting bounds w v number bounds_are i within d =
    subst (λ n. IsWithinBudget setting.program bounds (record { net = n; book = v.book })) (sym d.net_is)
    (subst (λ b. IsWithinBudget setting.program bounds (record { net = net_with w.net d.here d.new number; book = b })) (sym d.book_is)
    (received_within setting bounds w d.here d.key number d.message d.old d.new bounds_are i within d.place_is d.flying d.receives))
