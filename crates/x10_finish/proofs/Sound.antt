-- What holds of each world is kept by each event.
use Rattle.std.proofs.Common.{◌≡◌, ℕ, ◌+◌, ◌<◌, Bool, true, false, List, [], ◌∷◌, Option, Some, None, inl, refl, sym, ◌∙◌, ap, subst, arith}
use Rattle.std.proofs.Math.Path.{fun_ext}
use Rattle.std.proofs.lemmas.Option.{same_Some}
use Rattle.x10_model.specs.Maps.{with_entry, with_pair}
use Rattle.x10_model.specs.Places as places
use Rattle.x10_model.specs.declared.finish.Finish.{Finish}
use Rattle.x10_model.specs.Places.{Origin, Stay, Message, Spawn, Shift, Back, innermost, innermost_of, Effect, Waits, Works, Begins, Spawns, Shifts, Opens, Closes, Ends}
use Rattle.x10_model.specs.Copies.{Snapshot}
use Rattle.x10_model.specs.Worlds.{Flying, Taken, Net, Activity, Book, net_after, book_after, counted, left, entered, rest_of, IsUnder, IsQuiet}
use Rattle.x10_model.proofs.Maps.{at_key, off_key}
use Rattle.x10_finish.specs.Stays.{GoesOn, IsNew, Rewrites, IsWayBack, MovesStay}
use Rattle.x10_finish.specs.Nesting.{stays_in, opened_in, Stays, stays_of, opened_of, IsHeld, IsUsed, by_stay, by_post, IsNested}
use Rattle.x10_finish.specs.Chains as chains
use Rattle.x10_finish.specs.Chains.{Name, IsAmong, IsBegunBy, IsChain, AreLinked, AreCarried}
use Rattle.x10_finish.specs.Closing.{chains_of, unders_of, IsSound}
use Rattle.x10_finish.proofs.Entries.{at_entry, at_pair}
use Rattle.x10_finish.proofs.NestedFinishes.{pair_same, pair_other, no_stay, same_stacks, new_stays, ended_stays, closed_stays, posted, taken_in, innermost_held}
use Rattle.x10_finish.proofs.OpenedFinishes.{opened_stays}
use Rattle.x10_finish.proofs.Chains.{ready_first, linked_changes, linked_spawns, linked_enters, linked_ends, IsUncarried, carried_changes, carried_fresh, carried_chain, carried_begun, carried_new, carried_taken, taken_uncarried, ready_uncarried}
use Rattle.x10_finish.proofs.WorldParts.{entry_self, map_entry, row_same, row_other, stays_row, stays_after, opened_after, opened_same, chains_counted, unders_counted, chains_started, unders_started, sound_as}

-- ---- moves

-- the stay that moves, in the world
pub there_in : (net : Net) (here key : ℕ) (old new : places.Place) (effect : Effect) → net.places here ≡ Some old
    → (m : MovesStay here old key new effect) → stays_of net here key ≡ Some m.stay
there_in net here key old new effect e m = ap (λ o. stays_in o key) e ∙ m.is_there

pub first_in : (net : Net) (book : Book) (here key : ℕ) (s : Stay) → IsSound net book → stays_of net here key ≡ Some s → s.away ≡ false
    → (book.belongs here key < book.begun) × (rest : List Name) × (chains_of book (book.belongs here key) ≡ (here, key) ∷ rest)
first_in net book here key s i there ready =
    let known = i.linked.known here key s there in
    let first = ready_first (stays_of net) (unders_of book (book.belongs here key)) (chains_of book (book.belongs here key)) here key s
    (i.linked.chained (book.belongs here key) known.0) known.1 there ready in
    (known.0, first.0, first.1)

-- the stay goes on, and nothing else changes but its place, its activity's steps and what is opened or closed
goes_on : (net : Net) (book : Book) (here key number : ℕ) (s t : Stay) (finishes : List ℕ) (away : Bool) → IsSound net book
    → stays_of net here key ≡ Some s → s.away ≡ false → GoesOn s finishes away t
    → AreLinked (with_pair (stays_of net) here key (Some t)) book.begun (chains_of book) (unders_of book) book.belongs
    × AreCarried (with_pair (stays_of net) here key (Some t)) book.begun (chains_of book) (unders_of book) book.carries net.posts
goes_on net book here key number s t finishes away i there ready g =
    let first = first_in net book here key s i there ready in (
      linked_changes (stays_of net) book.begun (chains_of book)
          (unders_of book) book.belongs here key s t first.1 i.linked there first.2 g.back g.inherited,
      carried_changes (stays_of net) book.begun (chains_of book) (unders_of book) book.belongs book.carries net.posts here key
          (Some t) i.linked i.carried
          (ready_uncarried (stays_of net) book.begun (chains_of book) (unders_of book) book.carries net.posts
          (book.belongs here key) here key s first.1 i.carried first.2 there ready),
    )

pub after_waits : (net : Net) (book : Book) (here key number n : ℕ) (old new : places.Place) → IsSound net book → net.places here ≡ Some old
    → new ≡ old → IsSound (net_after net here new (Waits n) number) book
after_waits net book here key number n old new i e same =
    let places_same : with_entry net.places here (Some new) ≡ net.places = entry_self net.places here (Some new) (e ∙ ap Some (sym same)) in
    subst (λ (f : ℕ → Option places.Place). IsSound (record net { places = f }) book) (sym places_same) i

pub after_works : (net : Net) (book : Book) (here key number : ℕ) (old new : places.Place) (s t : Stay) → IsSound net book
    → net.places here ≡ Some old → stays_of net here key ≡ Some s → s.away ≡ false → GoesOn s s.finishes false t
    → Rewrites old key (Some t) old.opened new
    → IsSound (net_after net here new Works number) (book_after book (book.belongs here key) here Works number)
after_works net book here key number old new s t i e there ready g r =
    let both = goes_on net book here key number s t s.finishes false i there ready g in
    sound_as (net_after net here new Works number) (book_after book (book.belongs here key) here Works number)
    (with_pair (stays_of net) here key (Some t)) (opened_of net) (chains_of book) (unders_of book)
    (stays_after net here key old new (Some t) e r.stays) (opened_same net here old new e r.opened_is) (chains_counted book (book.belongs here key))
    (unders_counted book (book.belongs here key))
    (same_stacks (stays_of net) (opened_of net) net.enclosing net.posts here key s t i.nested there g.finishes_are g.inherited) both.0 both.1

pub after_opens : (net : Net) (book : Book) (here key number n : ℕ) (inside : Finish) (old new : places.Place) (s t : Stay) → IsSound net book
    → net.places here ≡ Some old → stays_of net here key ≡ Some s → s.away ≡ false → GoesOn s (n ∷ s.finishes) false t → n ≡ old.opened
    → inside ≡ innermost here s → Rewrites old key (Some t) (old.opened + 1) new
    → IsSound (net_after net here new (Opens n inside) number) (book_after book (book.belongs here key) here (Opens n inside) number)
after_opens net book here key number n inside old new s t i e there ready g count is_inside r =
    let both = goes_on net book here key number s t (n ∷ s.finishes) false i there ready g in
    let opened_is : opened_of net here ≡ old.opened = ap opened_in e in
    let nested = opened_stays (stays_of net) (opened_of net) net.enclosing net.posts here key n s t i.nested there
    (count ∙ sym opened_is) g.finishes_are g.inherited in
    subst (λ f. IsSound (net_after net here new (Opens n f) number) (book_after book (book.belongs here key) here (Opens n f) number)) (sym is_inside)
    (sound_as (net_after net here new (Opens n (innermost here s)) number)
    (book_after book (book.belongs here key) here (Opens n (innermost here s)) number) (with_pair (stays_of net) here key (Some t))
    (with_entry (opened_of net) here (opened_of net here + 1)) (chains_of book) (unders_of book)
    (stays_after net here key old new (Some t) e r.stays) (opened_after net here (opened_of net here + 1) new
    (r.opened_is ∙ ap (λ x. x + 1) (sym opened_is))) (chains_counted book (book.belongs here key)) (unders_counted book (book.belongs here key))
    nested both.0 both.1)

stay_quiet : (o : Option places.Place) (k : ℕ) (s : Stay) → ((place : places.Place) → o ≡ Some place → place.stays k ≡ Some s → ⊥)
    → stays_in o k ≡ Some s → ⊥
stay_quiet None k s h e = no_stay s e
stay_quiet (Some place) k s h e = h place refl e

-- what no stay inherits and no message carries is not used
pub unused_finish : (net : Net) (f : Finish) → IsQuiet net f → IsUsed (stays_of net) net.posts f → ⊥
unused_finish net f q (by_stay p k s there same) = stay_quiet (net.places p) k s (λ place is here. q.stays p k place s is here same) there
unused_finish net f q (by_post number message flies under) = q.posts number message flies under

pub after_closes : (net : Net) (book : Book) (here key number n : ℕ) (old new : places.Place) (s t : Stay) (rest : List ℕ) → IsSound net book
    → net.places here ≡ Some old → stays_of net here key ≡ Some s → s.away ≡ false → s.finishes ≡ n ∷ rest → GoesOn s rest false t
    → Rewrites old key (Some t) old.opened new → IsQuiet net (record { home = here; number = n })
    → IsSound (net_after net here new (Closes n) number) (book_after book (book.belongs here key) here (Closes n) number)
after_closes net book here key number n old new s t rest i e there ready whole g r quiet =
    let both = goes_on net book here key number s t rest false i there ready g in
    sound_as (net_after net here new (Closes n) number) (book_after book (book.belongs here key) here (Closes n) number)
    (with_pair (stays_of net) here key (Some t)) (opened_of net) (chains_of book) (unders_of book)
    (stays_after net here key old new (Some t) e r.stays) (opened_same net here old new e r.opened_is) (chains_counted book (book.belongs here key))
    (unders_counted book (book.belongs here key))
    (closed_stays (stays_of net) (opened_of net) net.enclosing net.posts here key n rest s t i.nested there whole g.finishes_are g.inherited
    (unused_finish net (record { home = here; number = n }) quiet)) both.0 both.1

same_innermost : (here : ℕ) (s t : Stay) (away : Bool) → GoesOn s s.finishes away t → innermost here t ≡ innermost here s
same_innermost here s t away g = ap (λ f. innermost_of here f t.finishes) g.inherited ∙ ap (innermost_of here s.inherited) g.finishes_are

pub after_spawns : (net : Net) (book : Book) (here key number function to : ℕ) (under : Finish) (message : Message) (graph : Snapshot)
    (old new : places.Place) (s t : Stay) → IsSound net book → net.places here ≡ Some old → stays_of net here key ≡ Some s → s.away ≡ false
    → GoesOn s s.finishes false t → under ≡ innermost here s → message ≡ Spawn here to under function graph → Rewrites old key (Some t) old.opened new
    → IsSound (net_after net here new (Spawns message function under) number)
    (book_after book (book.belongs here key) here (Spawns message function under) number)
after_spawns net book here key number function to under message graph old new s t i e there ready g under_is message_is r =
    let both = goes_on net book here key number s t s.finishes false i there ready g in
    let stays = with_pair (stays_of net) here key (Some t) in
    let nested = same_stacks (stays_of net) (opened_of net) net.enclosing net.posts here key s t i.nested there g.finishes_are g.inherited in
    let held = innermost_held stays (opened_of net) net.enclosing net.posts here key t nested (pair_same (stays_of net) here key (Some t)) in
    let a = book.begun in
    let more = carried_begun stays book.begun (chains_of book) (unders_of book) book.carries net.posts [] under both.1 in
    subst (λ x. IsSound (net_after net here new (Spawns x function under) number)
    (book_after book (book.belongs here key) here (Spawns x function under) number)) (sym message_is)
    (sound_as (net_after net here new (Spawns (Spawn here to under function graph) function under) number)
    (book_after book (book.belongs here key) here (Spawns (Spawn here to under function graph) function under) number)
    stays (opened_of net) (with_entry (chains_of book) a []) (with_entry (unders_of book) a under)
    (stays_after net here key old new (Some t) e r.stays) (opened_same net here old new e r.opened_is)
    (chains_started book (book.belongs here key) function under []) (unders_started book (book.belongs here key) function under [])
    (posted stays (opened_of net) net.enclosing net.posts number (Spawn here to under function graph) nested
    (λ f is. subst (IsHeld stays) (same_innermost here s t false g ∙ sym under_is ∙ is) held))
    (linked_spawns stays book.begun (chains_of book) (unders_of book) book.belongs under both.0)
    (carried_new stays (book.begun + 1) (with_entry (chains_of book) a []) (with_entry (unders_of book) a under) book.carries net.posts number a
    (Spawn here to under function graph) more
    (λ m x flies same. (let lt = i.carried.begun_one m x flies in omega (arith, lt, same))) (omega arith)
    (at_key (chains_of book) a [], at_key (unders_of book) a under)))

pub after_shifts : (net : Net) (book : Book) (here key number function to : ℕ) (under : Finish) (message : Message) (graph : Snapshot)
    (old new : places.Place) (s t : Stay) → IsSound net book → net.places here ≡ Some old → stays_of net here key ≡ Some s → s.away ≡ false
    → GoesOn s s.finishes true t → under ≡ innermost here s → message ≡ Shift here to key under function graph
    → Rewrites old key (Some t) old.opened new
    → IsSound (net_after net here new (Shifts message under) number) (book_after book (book.belongs here key) here (Shifts message under) number)
after_shifts net book here key number function to under message graph old new s t i e there ready g under_is message_is r =
    let both = goes_on net book here key number s t s.finishes true i there ready g in
    let first = first_in net book here key s i there ready in
    let stays = with_pair (stays_of net) here key (Some t) in
    let a = book.belongs here key in
    let nested = same_stacks (stays_of net) (opened_of net) net.enclosing net.posts here key s t i.nested there g.finishes_are g.inherited in
    let held = innermost_held stays (opened_of net) net.enclosing net.posts here key t nested (pair_same (stays_of net) here key (Some t)) in
    subst (λ x. IsSound (net_after net here new (Shifts x under) number) (book_after book a here (Shifts x under) number)) (sym message_is)
    (sound_as (net_after net here new (Shifts (Shift here to key under function graph) under) number)
    (book_after book a here (Shifts (Shift here to key under function graph) under) number)
    stays (opened_of net) (chains_of book) (unders_of book)
    (stays_after net here key old new (Some t) e r.stays) (opened_same net here old new e r.opened_is) (chains_counted book a) (unders_counted book a)
    (posted stays (opened_of net) net.enclosing net.posts number (Shift here to key under function graph) nested
    (λ f is. subst (IsHeld stays) (same_innermost here s t true g ∙ sym under_is ∙ is) held))
    both.0
    (carried_new stays book.begun (chains_of book) (unders_of book) book.carries net.posts number a (Shift here to key under function graph) both.1
    (ready_uncarried (stays_of net) book.begun (chains_of book)
    (unders_of book) book.carries net.posts a here key s first.1 i.carried first.2 there ready) first.0
    (first.1, t, first.2, pair_same (stays_of net) here key (Some t), g.away_is, under_is ∙ sym (same_innermost here s t true g))))

pub overwritten : {V : Type 0} (f : ℕ → V) (k : ℕ) (v w : V) → with_entry (with_entry f k v) k w ≡ with_entry f k w
overwritten f k v w = fun_ext (λ j. at_entry (λ x. x ≡ with_entry f k w j) (with_entry f k v) k j w
    (λ same. sym (ap (with_entry f k w) same ∙ at_key f k w)) (λ apart. off_key f k j v apart ∙ sym (off_key f k j w apart)))

pub free_after : (stays : Stays) (here key other : ℕ) (s t : Stay) → stays here key ≡ Some s → stays here other ≡ None
    → with_pair stays here key (Some t) here other ≡ None
free_after stays here key other s t there free =
    at_pair (λ o. o ≡ None) stays here key here other (Some t) (λ a b. no_stay s (sym free ∙ ap (stays here) b ∙ there)) (λ apart. free)

pub after_begins : (net : Net) (book : Book) (here key number other function : ℕ) (under : Finish) (old new : places.Place) (s t u : Stay)
    → IsSound net book → net.places here ≡ Some old → stays_of net here key ≡ Some s → s.away ≡ false → GoesOn s s.finishes false t
    → IsNew under None u
    → under ≡ innermost here s → old.stays other ≡ None → new.stays ≡ with_entry (with_entry old.stays key (Some t)) other (Some u)
    → new.opened ≡ old.opened
    → IsSound (net_after net here new (Begins other function under) number)
    (book_after book (book.belongs here key) here (Begins other function under) number)
after_begins net book here key number other function under old new s t u i e there ready g begins under_is free stays_are opened_is =
    let both = goes_on net book here key number s t s.finishes false i there ready g in
    let stays = with_pair (stays_of net) here key (Some t) in
    let a = book.begun in
    let chain = with_entry (chains_of book) a [] in
    let unders = with_entry (unders_of book) a under in
    let nested = same_stacks (stays_of net) (opened_of net) net.enclosing net.posts here key s t i.nested there g.finishes_are g.inherited in
    let held = innermost_held stays (opened_of net) net.enclosing net.posts here key t nested (pair_same (stays_of net) here key (Some t)) in
    let open_key = free_after (stays_of net) here key other s t there (ap (λ o. stays_in o other) e ∙ free) in
    let linked = linked_spawns stays book.begun (chains_of book) (unders_of book) book.belongs under both.0 in
    let carried = carried_begun stays book.begun (chains_of book) (unders_of book) book.carries net.posts [] under both.1 in
    let by : IsBegunBy stays (unders a) u (chain a) = subst (IsBegunBy stays (unders a) u) (sym (at_key (chains_of book) a []))
    (begins.back_is, begins.inherited ∙ sym (at_key (unders_of book) a under)) in
    sound_as (net_after net here new (Begins other function under) number)
    (book_after book (book.belongs here key) here (Begins other function under) number)
    (with_pair stays here other (Some u)) (opened_of net) (with_entry chain a ((here, other) ∷ chain a)) unders
    (fun_ext (λ p. stays_row net here p new (with_pair stays here other (Some u))
    (stays_are ∙ ap (λ (f : ℕ → Option Stay). with_entry (with_entry f key (Some t)) other (Some u)) (sym (ap stays_in e))
    ∙ ap (λ (f : ℕ → Option Stay). with_entry f other (Some u)) (sym (row_same (stays_of net) here key (Some t)))
    ∙ sym (row_same stays here other (Some u)))
    (λ apart. sym (row_other (stays_of net) here key p (Some t) apart) ∙ sym (row_other stays here other p (Some u) apart))))
    (opened_same net here old new e opened_is)
    (chains_started book (book.belongs here key) function under ((here, other) ∷ [])
    ∙ sym (overwritten (chains_of book) a [] ((here, other) ∷ chain a)
    ∙ ap (λ (xs : List Name). with_entry (chains_of book) a ((here, other) ∷ xs)) (at_key (chains_of book) a [])))
    (unders_started book (book.belongs here key) function under ((here, other) ∷ []))
    (new_stays stays (opened_of net) net.enclosing net.posts here other u nested open_key begins.finishes
    (subst (IsHeld stays) (same_innermost here s t false g ∙ sym under_is ∙ sym begins.inherited) held))
    (linked_enters stays (book.begun + 1) chain unders book.belongs here other a u linked open_key (omega arith) by)
    (carried_chain (with_pair stays here other (Some u)) (book.begun + 1) chain unders book.carries net.posts a ((here, other) ∷ chain a)
    (carried_fresh stays (book.begun + 1) chain unders book.belongs book.carries net.posts here other u linked carried open_key)
    (λ m x flies same. (let lt = i.carried.begun_one m x flies in omega (arith, lt, same))))

-- the stay that waits for one that ends is the next in the chain
waiting_below : (stays : Stays) (under : Finish) (here key : ℕ) (s : Stay) (rest : List Name) (origin : Origin)
    → IsChain stays under ((here, key) ∷ rest) → stays here key ≡ Some s → s.back ≡ Some origin
    → chains.Waits (with_pair stays here key None) rest origin.place origin.key (λ x. Unit {0})
waiting_below stays under here key s [] origin c there back =
    no_stay origin (sym c.2.0 ∙ ap (λ (x : Stay). x.back) (same_Some c.0 s (sym c.1 ∙ there)) ∙ back)
waiting_below stays under here key s (b ∷ rest) origin c there back =
    let is : (let o : Origin = record { place = b.0; key = b.1 } in o) ≡ origin =
    same_Some _ origin (sym c.2.3 ∙ ap (λ (x : Stay). x.back) (same_Some c.0 s (sym c.1 ∙ there)) ∙ back) in
    subst (λ (o : Origin). chains.Waits (with_pair stays here key None) (b ∷ rest) o.place o.key (λ x. Unit {0})) is
    (rest, c.2.0, refl, pair_other stays here key b.0 b.1 None (λ both. c.3 (inl (λ j. (both.0 j, both.1 j)))) ∙ c.2.1, c.2.2, tt)

-- what ends leaves behind
ended_parts : (net : Net) (book : Book) (here key : ℕ) (s : Stay) → (i : IsSound net book) → (there : stays_of net here key ≡ Some s) → s.away ≡ false
    → s.finishes ≡ [] → (rest : List Name) → chains_of book (book.belongs here key) ≡ (here, key) ∷ rest
    → IsNested (with_pair (stays_of net) here key None) (opened_of net) net.enclosing net.posts
    × AreLinked (with_pair (stays_of net) here key None) book.begun (with_entry (chains_of book) (book.belongs here key) rest)
    (unders_of book) book.belongs
    × AreCarried (with_pair (stays_of net) here key None) book.begun (with_entry (chains_of book) (book.belongs here key) rest)
    (unders_of book) book.carries net.posts × IsUncarried book.carries net.posts (book.belongs here key)
ended_parts net book here key s i there ready empty rest first =
    let a = book.belongs here key in
    let none = ready_uncarried (stays_of net) book.begun (chains_of book)
    (unders_of book) book.carries net.posts a here key s rest i.carried first there ready in (
      ended_stays (stays_of net) (opened_of net) net.enclosing net.posts here key s i.nested there empty,
      linked_ends (stays_of net) book.begun (chains_of book) (unders_of book) book.belongs here key s rest i.linked there first,
      carried_chain (with_pair (stays_of net) here key None) book.begun (chains_of book) (unders_of book) book.carries net.posts a rest
          (carried_changes (stays_of net) book.begun (chains_of book)
          (unders_of book) book.belongs book.carries net.posts here key None i.linked i.carried none) none,
      none,
    )

pub chains_left : (book : Book) (a : ℕ) (x : Name) (rest : List Name) → chains_of book a ≡ x ∷ rest
    → chains_of (left (counted book a) a) ≡ with_entry (chains_of book) a rest
chains_left book a x rest first =
    map_entry (λ (y : Activity). y.stays) (counted book a).activities a _ (chains_of (counted book a)) (λ j. refl)
    ∙ ap (λ (f : ℕ → List Name). with_entry f a (rest_of (f a))) (chains_counted book a)
    ∙ ap (λ (xs : List Name). with_entry (chains_of book) a (rest_of xs)) first

unders_left : (book : Book) (a : ℕ) → unders_of (left (counted book a) a) ≡ unders_of book
unders_left book a =
    map_entry (λ (y : Activity). y.under) (counted book a).activities a _ (unders_of (counted book a)) (λ j. refl)
    ∙ entry_self (unders_of (counted book a)) a (unders_of (counted book a) a) refl ∙ unders_counted book a

pub after_ends : (net : Net) (book : Book) (here key number : ℕ) (under : Finish) (old new : places.Place) (s : Stay) (origin : Option Origin)
    (back : Option Message) → IsSound net book → net.places here ≡ Some old → stays_of net here key ≡ Some s → s.away ≡ false → s.finishes ≡ []
    → s.back ≡ origin → IsWayBack here origin back → Rewrites old key None old.opened new
    → IsSound (net_after net here new (Ends under back) number) (book_after book (book.belongs here key) here (Ends under back) number)
after_ends net book here key number under old new s None back i e there ready empty origin_is way r =
    let a = book.belongs here key in
    let first = first_in net book here key s i there ready in
    let parts = ended_parts net book here key s i there ready empty first.1 first.2 in
    subst (λ b. IsSound (net_after net here new (Ends under b) number) (book_after book a here (Ends under b) number)) (sym way)
    (sound_as (net_after net here new (Ends under None) number) (book_after book a here (Ends under None) number)
    (with_pair (stays_of net) here key None) (opened_of net) (with_entry (chains_of book) a first.1) (unders_of book)
    (stays_after net here key old new None e r.stays) (opened_same net here old new e r.opened_is) (chains_left book a (here, key) first.1 first.2)
    (unders_left book a) parts.0 parts.1 parts.2)
after_ends net book here key number under old new s (Some origin) back i e there ready empty origin_is way r =
    let a = book.belongs here key in
    let first = first_in net book here key s i there ready in
    let parts = ended_parts net book here key s i there ready empty first.1 first.2 in
    let stays = with_pair (stays_of net) here key None in
    let message = Back here origin.place origin.key way.0 in
    let c = subst (IsChain (stays_of net) (unders_of book a)) first.2 (i.linked.chained a first.0) in
    subst (λ b. IsSound (net_after net here new (Ends under b) number) (book_after book a here (Ends under b) number)) (sym way.1)
    (sound_as (net_after net here new (Ends under (Some message)) number) (book_after book a here (Ends under (Some message)) number) stays
    (opened_of net) (with_entry (chains_of book) a first.1) (unders_of book)
    (stays_after net here key old new None e r.stays) (opened_same net here old new e r.opened_is) (chains_left book a (here, key) first.1 first.2)
    (unders_left book a)
    (posted stays (opened_of net) net.enclosing net.posts number message parts.0 (λ f is. absurd is)) parts.1
    (carried_new stays book.begun (with_entry (chains_of book) a first.1)
    (unders_of book) book.carries net.posts number a message parts.2 parts.3 first.0
    (subst (λ xs. chains.Waits stays xs origin.place origin.key (λ x. Unit {0})) (sym (at_key (chains_of book) a first.1))
    (waiting_below (stays_of net) (unders_of book a) here key s first.1 origin c there origin_is))))

-- ---- a message that is taken in

pub chains_entered : (book : Book) (a here key : ℕ) → chains_of (entered book a here key)
    ≡ with_entry (chains_of book) a ((here, key) ∷ chains_of book a)
chains_entered book a here key = map_entry (λ (y : Activity). y.stays) book.activities a _ (chains_of book) (λ j. refl)

unders_entered : (book : Book) (a here key : ℕ) → unders_of (entered book a here key) ≡ unders_of book
unders_entered book a here key = map_entry (λ (y : Activity). y.under) book.activities a _ (unders_of book) (λ j. refl)
    ∙ entry_self (unders_of book) a (unders_of book a) refl

abbrev pub net_with : Net → ℕ → places.Place → ℕ → Net
net_with net here new number = record {
  places = with_entry net.places here (Some new);
  posts = with_entry net.posts number Taken;
  enclosing = net.enclosing;
}

pub after_enters : (net : Net) (book : Book) (here key number : ℕ) (message : Message) (old new : places.Place) (u : Stay) → IsSound net book
    → net.places here ≡ Some old → net.posts number ≡ Flying message → old.stays key ≡ None → u.finishes ≡ [] → IsUnder u.inherited message
    → IsBegunBy (stays_of net) (unders_of book (book.carries number)) u (chains_of book (book.carries number))
    → Rewrites old key (Some u) old.opened new → IsSound (net_with net here new number) (entered book (book.carries number) here key)
after_enters net book here key number message old new u i e flies free empty under by r =
    let a = book.carries number in
    let open_key = ap (λ o. stays_in o key) e ∙ free in
    let lt = i.carried.begun_one number message flies in
    let taken = carried_taken (stays_of net) book.begun (chains_of book) (unders_of book) book.carries net.posts number i.carried in
    let none = taken_uncarried (stays_of net) book.begun (chains_of book) (unders_of book) book.carries net.posts number message i.carried flies in
    sound_as (net_with net here new number) (entered book a here key) (with_pair (stays_of net) here key (Some u)) (opened_of net)
    (with_entry (chains_of book) a ((here, key) ∷ chains_of book a)) (unders_of book)
    (stays_after net here key old new (Some u) e r.stays) (opened_same net here old new e r.opened_is) (chains_entered book a here key)
    (unders_entered book a here key)
    (taken_in (with_pair (stays_of net) here key (Some u)) (opened_of net) net.enclosing net.posts number
    (new_stays (stays_of net) (opened_of net) net.enclosing net.posts here key u i.nested open_key empty
    (i.nested.carried number message u.inherited flies under)))
    (linked_enters (stays_of net) book.begun (chains_of book) (unders_of book) book.belongs here key a u i.linked open_key lt by)
    (carried_chain (with_pair (stays_of net) here key (Some u)) book.begun (chains_of book) (unders_of book) book.carries
    (with_entry net.posts number Taken) a ((here, key) ∷ chains_of book a)
    (carried_fresh (stays_of net) book.begun (chains_of book) (unders_of book) book.belongs book.carries
    (with_entry net.posts number Taken) here key u i.linked taken open_key) none)

pub after_resumes : (net : Net) (book : Book) (here key number : ℕ) (message : Message) (old new : places.Place) (s t : Stay) (rest : List Name)
    → IsSound net book → net.places here ≡ Some old → net.posts number ≡ Flying message → stays_of net here key ≡ Some s
    → chains_of book (book.carries number) ≡ (here, key) ∷ rest → t.finishes ≡ s.finishes → t.inherited ≡ s.inherited → t.back ≡ s.back
    → Rewrites old key (Some t) old.opened new → IsSound (net_with net here new number) book
after_resumes net book here key number message old new s t rest i e flies there first stack same back r =
    let lt = i.carried.begun_one number message flies in
    let owner : book.belongs here key ≡ book.carries number = i.linked.owner (book.carries number) here key lt
    (subst (IsAmong (here, key)) (sym first) (inl refl)) in
    let taken = carried_taken (stays_of net) book.begun (chains_of book) (unders_of book) book.carries net.posts number i.carried in
    let none = taken_uncarried (stays_of net) book.begun (chains_of book) (unders_of book) book.carries net.posts number message i.carried flies in
    sound_as (net_with net here new number) book (with_pair (stays_of net) here key (Some t)) (opened_of net) (chains_of book) (unders_of book)
    (stays_after net here key old new (Some t) e r.stays) (opened_same net here old new e r.opened_is) refl refl
    (taken_in (with_pair (stays_of net) here key (Some t)) (opened_of net) net.enclosing net.posts number
    (same_stacks (stays_of net) (opened_of net) net.enclosing net.posts here key s t i.nested there stack same))
    (linked_changes (stays_of net) book.begun (chains_of book) (unders_of book) book.belongs here key s t rest i.linked there
    (ap (chains_of book) owner ∙ first) back same)
    (carried_changes (stays_of net) book.begun (chains_of book) (unders_of book) book.belongs book.carries
    (with_entry net.posts number Taken) here key (Some t) i.linked taken (λ m x flies' same'. none m x flies' (same' ∙ owner)))
