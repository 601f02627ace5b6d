-- A move keeps activities within their budgets.
use Rattle.std.proofs.Common.{◌≡◌, ℕ, ◌+◌, ◌<◌, ◌≤◌, false, List, [], ◌∷◌, Option, Some, None, inl, inr, refl, sym, ◌∙◌, ap, subst, arith}
use Rattle.std.specs.Prelude.{slice_index}
use Rattle.std.proofs.lemmas.Bool.{cases_eq}
use Rattle.x10_model.specs.Maps.{with_entry, with_pair}
use Rattle.x10_model.specs.Modules.{Module}
use Rattle.x10_model.specs.Places as places
use Rattle.x10_model.specs.declared.finish.Finish.{Finish}
use Rattle.x10_model.specs.Places.{Setting, Stay, Message, Effect, Waits, Works, Begins, Spawns, Shifts, Opens, Closes, Ends}
use Rattle.x10_model.specs.Worlds.{World, Net, Activity, Book, counted, left, started, enclosing_after}
use Rattle.x10_model.proofs.Maps.{at_key}
use Rattle.x10_finish.specs.Nesting.{stays_in, Stays, stays_of}
use Rattle.x10_finish.specs.Chains.{Name, IsAmong, IsChain}
use Rattle.x10_finish.specs.Closing.{chains_of, unders_of, IsSound}
use Rattle.x10_finish.proofs.WorldParts.{entry_self, map_entry, stays_after, chains_counted, chains_started}
use Rattle.x10_finish.proofs.Sound.{chains_left, first_in, overwritten}
use Rattle.x10_finish.specs.Watching.{world_after}
use Rattle.x10_world.specs.Budget.{left_of, left_of_any, left_of_all, left_for, IsWithinBudget, BudgetAfterMove}
use Rattle.x10_world.proofs.Budgets.{functions_of, steps_of, spent_in, IsWithinOf, Fits, fits_of, within_as, fits_less, fits_begun, fits_put, within_index, left_apart, left_first, spent_other, spent_apart, spent_own, kept_of, free_apart}
use Rattle.x10_world.proofs.EffectCosts.{left_for_any, Takes, TakesTwo, Spends, move_spends}

-- ---- the activity that moves

-- the names of an activity's stays, where the first is another now, or none
abbrev names_after : Option Stay → Name → List Name → List Name
names_after None x rest = rest
names_after (Some t) x rest = x ∷ rest

names_left : (program : Module) (bounds : List ℕ) (stays : Stays) (here key : ℕ) (o : Option Stay) (rest : List Name) → (IsAmong (here, key) rest → ⊥)
    → left_of_all program bounds (with_pair stays here key o) (names_after o (here, key) rest)
    ≡ left_of_any program bounds o + left_of_all program bounds stays rest
names_left program bounds stays here key None rest fresh = (let same = left_apart program bounds stays rest here key None fresh in
    omega (arith, same))
names_left program bounds stays here key (Some t) rest fresh = left_first program bounds stays here key (Some t) rest fresh

-- what each activity has taken after a move that changes a stay
abbrev spent_after : Module → List ℕ → World → ℕ → ℕ → Option Stay → (ℕ → List Name) → ℕ → ℕ
spent_after program bounds w here key o chains =
    let a = w.book.belongs here key in
    spent_in program bounds (with_pair (stays_of w.net) here key o) (with_entry (steps_of w.book) a (steps_of w.book a + 1)) chains

-- what a move that changes a stay leaves within the bounds, with so many steps more that go out
record IsMoved (program : Module) (bounds : List ℕ) (w : World) (here key more : ℕ) (o : Option Stay) (chains : ℕ → List Name) : Type 0 where
  pub fits : Fits bounds w.book.begun (functions_of w.book) (spent_after program bounds w here key o chains) w.book.carries w.net.posts
  pub own : IsWithinOf bounds (functions_of w.book (w.book.belongs here key))
      (spent_after program bounds w here key o chains (w.book.belongs here key) + more)

-- no activity has taken more where the stays of the one that moves can take one step less
spent_moves : (program : Module) (bounds : List ℕ) (w : World) (here key : ℕ) (o : Option Stay) (xs : List Name) → IsSound w.net w.book
    → left_of_all program bounds (with_pair (stays_of w.net) here key o) xs + 1
    ≤ left_of_all program bounds (stays_of w.net) (chains_of w.book (w.book.belongs here key))
    → (b : ℕ) → b < w.book.begun → spent_after program bounds w here key o (with_entry (chains_of w.book) (w.book.belongs here key) xs) b
    ≤ spent_in program bounds (stays_of w.net) (steps_of w.book) (chains_of w.book) b
spent_moves program bounds w here key o xs i less b lt =
    let a = w.book.belongs here key in
    let n = steps_of w.book a + 1 in
    elim (cases_eq b a) [
      | inl e ↦ (let own = spent_own program bounds (with_pair (stays_of w.net) here key o) (steps_of w.book) (chains_of w.book) a n xs in
          subst (λ x. spent_after program bounds w here key o (with_entry (chains_of w.book) a xs) x
          ≤ spent_in program bounds (stays_of w.net) (steps_of w.book) (chains_of w.book) x) (sym e) (omega (arith, own, less)))
      | inr apart ↦ (let same = spent_apart program bounds (stays_of w.net) (steps_of w.book) (chains_of w.book) a b here key n o xs apart
          (λ m. apart (sym (i.linked.owner b here key lt m))) in omega (arith, same))
    ]

moved : (program : Module) (bounds : List ℕ) (w : World) (here key more : ℕ) (s : Stay) (o : Option Stay) → (i : IsSound w.net w.book)
    → IsWithinBudget program bounds w → (there : stays_of w.net here key ≡ Some s) → (ready : s.away ≡ false)
    → left_of_any program bounds o + more + 1 ≤ left_of program bounds s
    → IsMoved program bounds w here key more o (with_entry (chains_of w.book) (w.book.belongs here key)
    (names_after o (here, key) (first_in w.net w.book here key s i there ready).1))
moved program bounds w here key more s o i within there ready less =
    let a = w.book.belongs here key in
    let first = first_in w.net w.book here key s i there ready in
    let xs = names_after o (here, key) first.1 in
    let chain = subst (IsChain (stays_of w.net) (unders_of w.book a)) first.2 (i.linked.chained a first.0) in
    let before : left_of_all program bounds (stays_of w.net) (chains_of w.book a)
    ≡ left_of program bounds s + left_of_all program bounds (stays_of w.net) first.1
    = ap (left_of_all program bounds (stays_of w.net)) first.2
    ∙ ap (λ x. left_of_any program bounds x + left_of_all program bounds (stays_of w.net) first.1) there in
    let after = names_left program bounds (stays_of w.net) here key o first.1 chain.3 in
    let own = spent_own program bounds (with_pair (stays_of w.net) here key o) (steps_of w.book) (chains_of w.book) a (steps_of w.book a + 1) xs in
    record {
      fits = fits_less bounds w.book.begun (functions_of w.book) _ _ w.book.carries w.net.posts i.carried.begun_one
          (spent_moves program bounds w here key o xs i (omega (arith, less, before, after))) (fits_of program bounds w within);
      own = λ bound e. (let h = within.stays a bound first.0 e in omega (arith, h, less, before, after, own));
    }

-- where it goes on, its stays have the names that they had
moved_on : (program : Module) (bounds : List ℕ) (w : World) (here key more : ℕ) (s t : Stay) → IsSound w.net w.book → IsWithinBudget program bounds w
    → stays_of w.net here key ≡ Some s → s.away ≡ false → left_of program bounds t + more + 1 ≤ left_of program bounds s
    → IsMoved program bounds w here key more (Some t) (chains_of w.book)
moved_on program bounds w here key more s t i within there ready less =
    let first = first_in w.net w.book here key s i there ready in
    subst (IsMoved program bounds w here key more (Some t)) (entry_self (chains_of w.book) (w.book.belongs here key) ((here, key) ∷ first.1) first.2)
    (moved program bounds w here key more s (Some t) i within there ready less)

-- ---- the book after a step

functions_counted : (book : Book) (a : ℕ) → functions_of (counted book a) ≡ functions_of book
functions_counted book a = kept_of (λ x. x.function) book a _ refl

steps_counted : (book : Book) (a : ℕ) → steps_of (counted book a) ≡ with_entry (steps_of book) a (steps_of book a + 1)
steps_counted book a = map_entry (λ (x : Activity). x.steps) book.activities a _ (steps_of book) (λ j. refl)

functions_started : (book : Book) (a function : ℕ) (under : Finish) (stays : List Name)
    → functions_of (started (counted book a) function under stays) ≡ with_entry (functions_of book) book.begun function
functions_started book a function under stays =
    map_entry (λ (x : Activity). x.function) (counted book a).activities book.begun _ (functions_of (counted book a)) (λ j. refl)
    ∙ ap (λ f. with_entry f book.begun function) (functions_counted book a)

steps_started : (book : Book) (a function : ℕ) (under : Finish) (stays : List Name)
    → steps_of (started (counted book a) function under stays) ≡ with_entry (with_entry (steps_of book) a (steps_of book a + 1)) book.begun 0
steps_started book a function under stays =
    map_entry (λ (x : Activity). x.steps) (counted book a).activities book.begun _ (steps_of (counted book a)) (λ j. refl)
    ∙ ap (λ f. with_entry f book.begun 0) (steps_counted book a)

-- ---- moves

-- nothing changes
waits_within : (program : Module) (bounds : List ℕ) (w : World) (here key n number : ℕ) (old new : places.Place) → IsWithinBudget program bounds w
    → w.net.places here ≡ Some old → new ≡ old → IsWithinBudget program bounds (world_after w here key new (Waits n) number)
waits_within program bounds w here key n number old new within e same =
    let stays_at : (ℕ → Option places.Place) → Stays = λ f p. stays_in (f p) in
    within_as program bounds (world_after w here key new (Waits n) number) (stays_of w.net) (functions_of w.book) (steps_of w.book) (chains_of w.book)
    (ap stays_at (entry_self w.net.places here (Some new) (e ∙ ap Some (sym same)))) refl refl refl (fits_of program bounds w within)

-- a stay goes on, and nothing goes out
goes_on_within : (program : Module) (bounds : List ℕ) (w : World) (here key : ℕ) (old new : places.Place) (s t : Stay)
    (enclosing : Finish → Option Finish) → IsSound w.net w.book → IsWithinBudget program bounds w → w.net.places here ≡ Some old
    → stays_of w.net here key ≡ Some s → s.away ≡ false
    → Takes program bounds old.stays key s new.stays (Some t) 0
    → IsWithinBudget program bounds (record {
      net = record {
        places = with_entry w.net.places here (Some new);
        posts = w.net.posts;
        enclosing = enclosing;
      };
      book = counted w.book (w.book.belongs here key);
    })
goes_on_within program bounds w here key old new s t enclosing i within e there ready k =
    let a = w.book.belongs here key in
    within_as program bounds _ (with_pair (stays_of w.net) here key (Some t)) (functions_of w.book)
    (with_entry (steps_of w.book) a (steps_of w.book a + 1)) (chains_of w.book)
    (stays_after w.net here key old new (Some t) e k.stays) (functions_counted w.book a) (steps_counted w.book a) (chains_counted w.book a)
    (moved_on program bounds w here key 0 s t i within there ready k.less).fits

-- a stay sends its activity away
shifts_within : (program : Module) (bounds : List ℕ) (w : World) (here key number : ℕ) (old new : places.Place) (s t : Stay) (message : Message)
    (under : Finish) → IsSound w.net w.book → IsWithinBudget program bounds w → w.net.places here ≡ Some old → stays_of w.net here key ≡ Some s
    → s.away ≡ false
    → Takes program bounds old.stays key s new.stays (Some t) (left_for bounds message)
    → IsWithinBudget program bounds (world_after w here key new (Shifts message under) number)
shifts_within program bounds w here key number old new s t message under i within e there ready k =
    let a = w.book.belongs here key in
    let m = moved_on program bounds w here key (left_for bounds message) s t i within there ready k.less in
    within_as program bounds (world_after w here key new (Shifts message under) number) (with_pair (stays_of w.net) here key (Some t))
    (functions_of w.book) (with_entry (steps_of w.book) a (steps_of w.book a + 1)) (chains_of w.book)
    (stays_after w.net here key old new (Some t) e k.stays) (functions_counted w.book a) (steps_counted w.book a) (chains_counted w.book a)
    (fits_put bounds w.book.begun (functions_of w.book) _ w.book.carries w.net.posts number a message m.own m.fits)

-- a stay ends
ends_within : (program : Module) (bounds : List ℕ) (w : World) (here key number : ℕ) (old new : places.Place) (s : Stay) (under : Finish)
    (back : Option Message) → IsSound w.net w.book → IsWithinBudget program bounds w → w.net.places here ≡ Some old → stays_of w.net here key ≡ Some s
    → s.away ≡ false
    → Takes program bounds old.stays key s new.stays None (left_for_any bounds back)
    → IsWithinBudget program bounds (world_after w here key new (Ends under back) number)
ends_within program bounds w here key number old new s under back i within e there ready k =
    by_back back (moved program bounds w here key (left_for_any bounds back) s None i within there ready k.less)
  where
    a : ℕ
    a = w.book.belongs here key

    rest : List Name
    rest = (first_in w.net w.book here key s i there ready).1

    stays_are : (λ p. stays_in (with_entry w.net.places here (Some new) p)) ≡ with_pair (stays_of w.net) here key None
    stays_are = stays_after w.net here key old new None e k.stays

    functions_are : functions_of (left (counted w.book a) a) ≡ functions_of w.book
    functions_are = kept_of (λ x. x.function) (counted w.book a) a _ refl ∙ functions_counted w.book a

    steps_are : steps_of (left (counted w.book a) a) ≡ with_entry (steps_of w.book) a (steps_of w.book a + 1)
    steps_are = kept_of (λ x. x.steps) (counted w.book a) a _ refl ∙ steps_counted w.book a

    chains_are : chains_of (left (counted w.book a) a) ≡ with_entry (chains_of w.book) a rest
    chains_are = chains_left w.book a (here, key) rest (first_in w.net w.book here key s i there ready).2

    by_back : (back : Option Message) → IsMoved program bounds w here key (left_for_any bounds back) None (with_entry (chains_of w.book) a rest)
        → IsWithinBudget program bounds (world_after w here key new (Ends under back) number)
    by_back None m =
        within_as program bounds (world_after w here key new (Ends under None) number) (with_pair (stays_of w.net) here key None)
        (functions_of w.book) (with_entry (steps_of w.book) a (steps_of w.book a + 1)) (with_entry (chains_of w.book) a rest)
        stays_are functions_are steps_are chains_are m.fits
    by_back (Some message) m =
        within_as program bounds (world_after w here key new (Ends under (Some message)) number) (with_pair (stays_of w.net) here key None)
        (functions_of w.book) (with_entry (steps_of w.book) a (steps_of w.book a + 1)) (with_entry (chains_of w.book) a rest)
        stays_are functions_are steps_are chains_are (fits_put bounds w.book.begun
        (functions_of w.book) _ w.book.carries w.net.posts number a message m.own m.fits)

-- two stays of a place are others now
two_stays : (net : Net) (here key other : ℕ) (old new : places.Place) (t u : Stay) → net.places here ≡ Some old
    → new.stays ≡ with_entry (with_entry old.stays key (Some t)) other (Some u)
    → (λ p. stays_in (with_entry net.places here (Some new) p)) ≡ with_pair (with_pair (stays_of net) here key (Some t)) here other (Some u)
two_stays net here key other old new t u e stays =
    let middle : places.Place = places.with_stay old key (Some t) in
    let between : Net = record net { places = with_entry net.places here (Some middle) } in
    let stays_at : (ℕ → Option places.Place) → Stays = λ f p. stays_in (f p) in
    ap stays_at (sym (overwritten net.places here (Some middle) (Some new)))
    ∙ stays_after between here other middle new (Some u) (at_key net.places here (Some middle)) stays
    ∙ ap (λ x. with_pair x here other (Some u)) (stays_after net here key old middle (Some t) e refl)

-- an activity begins here
begins_within : (program : Module) (bounds : List ℕ) (w : World) (here key number other function : ℕ) (under : Finish) (old new : places.Place)
    (s t u : Stay) → IsSound w.net w.book → IsWithinBudget program bounds w → w.net.places here ≡ Some old → stays_of w.net here key ≡ Some s
    → s.away ≡ false
    → TakesTwo program bounds old.stays key s new.stays t other u function
    → IsWithinBudget program bounds (world_after w here key new (Begins other function under) number)
begins_within program bounds w here key number other function under old new s t u i within e there ready k =
    within_as program bounds (world_after w here key new (Begins other function under) number) (with_pair stays here other (Some u))
    (with_entry (functions_of w.book) a function) (with_entry steps a 0) (with_entry (chains_of w.book) a ((here, other) ∷ []))
    (two_stays w.net here key other old new t u e k.stays) (functions_started w.book (w.book.belongs here key) function under ((here, other) ∷ []))
    (steps_started w.book (w.book.belongs here key) function under ((here, other) ∷ []))
    (chains_started w.book (w.book.belongs here key) function under ((here, other) ∷ []))
    (fits_begun bounds a function (functions_of w.book) (spent_in program bounds stays steps (chains_of w.book)) _ w.book.carries w.net.posts
    i.carried.begun_one no_more (within_index bounds function _ begun) m.fits)
  where
    a : ℕ
    a = w.book.begun

    stays : Stays
    stays = with_pair (stays_of w.net) here key (Some t)

    steps : ℕ → ℕ
    steps = with_entry (steps_of w.book) (w.book.belongs here key) (steps_of w.book (w.book.belongs here key) + 1)

    m : IsMoved program bounds w here key 0 (Some t) (chains_of w.book)
    m = moved_on program bounds w here key 0 s t i within there ready (let less = k.less in omega (arith, less))

    spent : ℕ → ℕ
    spent = spent_in program bounds (with_pair stays here other (Some u)) (with_entry steps a 0)
        (with_entry (chains_of w.book) a ((here, other) ∷ []))

    no_more : (b : ℕ) → b < a → spent b ≤ spent_in program bounds stays steps (chains_of w.book) b
    no_more b lt =
        let fresh = free_apart w.net w.book here other b i (ap (λ o. stays_in o other) e ∙ k.free) lt in
        let same = spent_apart program bounds stays steps (chains_of w.book) a b here other 0 (Some u) ((here, other) ∷ [])
        (λ is. absurd (omega (arith, is, lt))) fresh in
        omega (arith, same)

    begun : spent a ≤ slice_index bounds function
    begun =
        let own = spent_own program bounds (with_pair stays here other (Some u)) steps (chains_of w.book) a 0 ((here, other) ∷ []) in
        let first = left_first program bounds stays here other (Some u) [] (λ among. among) in
        let entry = k.begins in
        omega (arith, own, first, entry)

-- an activity is sent away
spawns_within : (program : Module) (bounds : List ℕ) (w : World) (here key number function : ℕ) (under : Finish) (message : Message)
    (old new : places.Place) (s t : Stay) → IsSound w.net w.book → IsWithinBudget program bounds w → w.net.places here ≡ Some old
    → stays_of w.net here key ≡ Some s → s.away ≡ false
    → Takes program bounds old.stays key s new.stays (Some t) 0 → left_for bounds message ≡ slice_index bounds function
    → IsWithinBudget program bounds (world_after w here key new (Spawns message function under) number)
spawns_within program bounds w here key number function under message old new s t i within e there ready k carries =
    within_as program bounds (world_after w here key new (Spawns message function under) number) stays (with_entry (functions_of w.book) a function)
    (with_entry steps a 0) (with_entry (chains_of w.book) a [])
    (stays_after w.net here key old new (Some t) e k.stays) (functions_started w.book (w.book.belongs here key) function under [])
    (steps_started w.book (w.book.belongs here key) function under []) (chains_started w.book (w.book.belongs here key) function under [])
    (fits_put bounds (a + 1) (with_entry (functions_of w.book) a function) spent w.book.carries w.net.posts number a message
    (subst (λ f. IsWithinOf bounds f (spent a + left_for bounds message)) (sym (at_key (functions_of w.book) a function))
    (within_index bounds function _ (omega (arith, own, carries))))
    (fits_begun bounds a function (functions_of w.book) (spent_in program bounds stays steps (chains_of w.book)) spent w.book.carries w.net.posts
    i.carried.begun_one no_more (within_index bounds function _ (omega (arith, own))) m.fits))
  where
    a : ℕ
    a = w.book.begun

    stays : Stays
    stays = with_pair (stays_of w.net) here key (Some t)

    steps : ℕ → ℕ
    steps = with_entry (steps_of w.book) (w.book.belongs here key) (steps_of w.book (w.book.belongs here key) + 1)

    m : IsMoved program bounds w here key 0 (Some t) (chains_of w.book)
    m = moved_on program bounds w here key 0 s t i within there ready k.less

    spent : ℕ → ℕ
    spent = spent_in program bounds stays (with_entry steps a 0) (with_entry (chains_of w.book) a [])

    own : spent a ≡ 0
    own = (let e = spent_own program bounds stays steps (chains_of w.book) a 0 [] in omega (arith, e))

    no_more : (b : ℕ) → b < a → spent b ≤ spent_in program bounds stays steps (chains_of w.book) b
    no_more b lt =
        let same = spent_other program bounds stays steps (chains_of w.book) a b 0 [] (λ is. absurd (omega (arith, is, lt))) in
        omega (arith, same)

-- ---- every move

by_effect : (program : Module) (bounds : List ℕ) (w : World) (here key number : ℕ) (old new : places.Place) (s : Stay) (effect : Effect)
    → IsSound w.net w.book → IsWithinBudget program bounds w → w.net.places here ≡ Some old → stays_of w.net here key ≡ Some s → s.away ≡ false
    → Spends program bounds old key s new effect → IsWithinBudget program bounds (world_after w here key new effect number)
by_effect program bounds w here key number old new s (Waits n) i within e there ready k =
    waits_within program bounds w here key n number old new within e k
by_effect program bounds w here key number old new s Works i within e there ready k =
    goes_on_within program bounds w here key old new s k.0 w.net.enclosing i within e there ready k.1
by_effect program bounds w here key number old new s (Begins other function under) i within e there ready k =
    begins_within program bounds w here key number other function under old new s k.0 k.1 i within e there ready k.2
by_effect program bounds w here key number old new s (Spawns message function under) i within e there ready k =
    spawns_within program bounds w here key number function under message old new s k.0 i within e there ready k.1 k.2
by_effect program bounds w here key number old new s (Shifts message under) i within e there ready k =
    shifts_within program bounds w here key number old new s k.0 message under i within e there ready k.1
by_effect program bounds w here key number old new s (Opens n inside) i within e there ready k =
    goes_on_within program bounds w here key old new s k.0 (enclosing_after w.net.enclosing here (Opens n inside)) i within e there ready k.1
by_effect program bounds w here key number old new s (Closes n) i within e there ready k =
    goes_on_within program bounds w here key old new s k.0 w.net.enclosing i within e there ready k.1
by_effect program bounds w here key number old new s (Ends under back) i within e there ready k =
    ends_within program bounds w here key number old new s under back i within e there ready k

pub budget_after_move : BudgetAfterMove
budget_after_move setting bounds w here key number old new effect bounds_are i within e m =
    by_effect setting.program bounds w here key number old new m.stay effect i within e (ap (λ o. stays_in o key) e ∙ m.is_there) m.is_ready
    (move_spends setting bounds here key old new effect bounds_are m)
