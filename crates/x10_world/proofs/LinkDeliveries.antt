-- At the opening nothing is to be answered, and a delivery keeps all answered: a stay that begins is waited for as its message
-- was, and the result that a stay waited for is the only one.
use Rattle.std.proofs.Common.{◌≡◌, ℕ, ◌<◌, Bool, true, false, List, [], ◌∷◌, Option, Some, None, if◌then◌else◌, inl, inr, refl, sym, ◌∙◌, ap, subst}
use Rattle.std.specs.Prelude.{◌==◌, nat_lt}
use Rattle.std.proofs.lemmas.Option.{same_Some}
use Rattle.x10_model.specs.Maps.{with_entry, with_pair}
use Rattle.x10_model.specs.Values.{Value}
use Rattle.x10_model.specs.Places as places
use Rattle.x10_model.specs.declared.finish.Finish.{Finish}
use Rattle.x10_model.specs.Places.{Setting, root, CallFrame, Origin, Stay, Message, Spawn, Shift, Back}
use Rattle.x10_model.specs.Moves.{new_stay, resumed}
use Rattle.x10_model.specs.Deliveries.{Receives}
use Rattle.x10_model.specs.Worlds.{Flying, Net, Book, World, first_place, empty_place}
use Rattle.x10_finish.specs.Nesting.{stays_in, Stays, stays_of}
use Rattle.x10_finish.specs.Chains.{Name, IsAmong, IsChain, Carries}
use Rattle.x10_finish.specs.Closing.{chains_of, unders_of, IsSound}
use Rattle.x10_finish.proofs.Entries.{at_entry, at_pair}
use Rattle.x10_finish.proofs.NestedFinishes.{no_stay}
use Rattle.x10_finish.proofs.WorldParts.{stays_after}
use Rattle.x10_finish.proofs.Sound.{net_with}
use Rattle.x10_world.specs.Links.{first_function, WaitsAt, AreAnswered, AnsweredAtOpening, AnsweredAfterDelivery}
use Rattle.x10_world.proofs.LinkLemmas.{same_first, answered_as, waits_apart, IsAwaitedAt, fits_apart, posts_on, stays_on, free_not_waiting, taken_apart}

-- ---- the opening

first_alone : (setting : Setting) (key k : ℕ) (b c : Bool) (s : Stay) (o : Origin)
    → stays_in (if b then Some (if c then first_place setting key else empty_place 0) else None) k ≡ Some s → s.back ≡ Some o → ⊥
first_alone setting key k false c s o there back = no_stay s there
first_alone setting key k true false s o there back = no_stay s there
first_alone setting key k true true s o there back =
    let none : ℕ → Option Stay = λ k. None in
    let main : Stay = new_stay setting.program.entry [] root None in
    at_entry (λ x. x ≡ Some s → ⊥) none key k (Some main) (λ at is. no_stay o (ap (λ (t : Stay). t.back) (same_Some main s is) ∙ back))
    (λ apart is. no_stay s is) there

pub answered_at_opening : AnsweredAtOpening
answered_at_opening setting key = record {
  stays = λ p k s o there back. absurd (first_alone setting key k (nat_lt p setting.places) (p == 0) s o there back);
  posts = λ number message flies. absurd cc;
}

-- ---- a stay that begins

begins_answered : (setting : Setting) (net : Net) (here key number : ℕ) (old new : places.Place) (u : Stay) → AreAnswered setting net
    → net.places here ≡ Some old → old.stays key ≡ None → new.stays ≡ with_entry old.stays key (Some u)
    → ((o : Origin) → u.back ≡ Some o → WaitsAt setting.program (stays_of net) o.place o.key here (first_function u))
    → AreAnswered setting (net_with net here new number)
begins_answered setting net here key number old new u i e free stays_are own =
    let none = free_not_waiting setting.program (stays_of net) here key (ap (λ o. stays_in o key) e ∙ free) in
    answered_as setting (net_with net here new number) (with_pair (stays_of net) here key (Some u))
    (stays_after net here key old new (Some u) e stays_are)
    (stays_on setting.program (stays_of net) here key (Some u) none
    (λ t x is back. subst (λ v. WaitsAt setting.program (stays_of net) x.place x.key here (first_function v)) (same_Some u t is)
    (own x (ap (λ (v : Stay). v.back) (same_Some u t is) ∙ back))) i.stays)
    (λ m message flies. posts_on setting (stays_of net) net.posts here key (Some u) none i.posts m message
    (taken_apart net.posts number m message flies).1)

-- ---- a stay that goes on

-- a stay that goes back to another comes before it in its activity's chain
back_among : (stays : Stays) (under : Finish) (x : Name) (rest : List Name) (p k : ℕ) (s : Stay) (o : Origin) → IsChain stays under (x ∷ rest)
    → IsAmong (p, k) (x ∷ rest) → stays p k ≡ Some s → s.back ≡ Some o → IsAmong (o.place, o.key) rest
back_among stays under x [] p k s o c (inl is) there back =
    let same : c.0 ≡ s = same_Some c.0 s (sym (subst (λ (y : Name). stays y.0 y.1 ≡ Some c.0) is c.1) ∙ there) in
    no_stay o (sym c.2.0 ∙ ap (λ (t : Stay). t.back) same ∙ back)
back_among stays under x [] p k s o c (inr m) there back = absurd m
back_among stays under x (y ∷ rest) p k s o c (inl is) there back =
    let same : c.0 ≡ s = same_Some c.0 s (sym (subst (λ (z : Name). stays z.0 z.1 ≡ Some c.0) is c.1) ∙ there) in
    let at : (let q : Origin = record { place = y.0; key = y.1 } in q) ≡ o = same_Some _ o (sym c.2.3 ∙ ap (λ (t : Stay). t.back) same ∙ back) in
    inl (λ i. ((at i).place, (at i).key))
back_among stays under x (y ∷ rest) p k s o c (inr m) there back = inr (back_among stays under y rest p k s o c.4 m there back)

same_rest : (x y : Name) (xs ys : List Name) → x ∷ xs ≡ y ∷ ys → xs ≡ ys
same_rest x y xs ys e = cc

-- nothing goes back to the first stay of a chain
first_apart : (net : Net) (book : Book) (here key p k a : ℕ) (s : Stay) (o : Origin) (rest : List Name) → IsSound net book → a < book.begun
    → chains_of book a ≡ (here, key) ∷ rest → stays_of net p k ≡ Some s → s.back ≡ Some o → (o.place ≡ here) × (o.key ≡ key) → ⊥
first_apart net book here key p k a s o rest i lt first there back both = by_chain (chains_of book b) refl
  where
    b : ℕ
    b = book.belongs p k

    by_chain : (xs : List Name) → chains_of book b ≡ xs → ⊥
    by_chain [] is = subst (IsAmong (p, k)) is (i.linked.known p k s there).1
    by_chain (x ∷ xs) is =
        let known = i.linked.known p k s there in
        let chain = subst (IsChain (stays_of net) (unders_of book b)) is (i.linked.chained b known.0) in
        let name_is : (let y : Name = (o.place, o.key) in y) ≡ (here, key) = λ j. (both.0 j, both.1 j) in
        let among : IsAmong (here, key) xs = subst (λ (y : Name). IsAmong y xs) name_is
        (back_among (stays_of net) (unders_of book b) x xs p k s o chain (subst (IsAmong (p, k)) is known.1) there back) in
        let own : book.belongs here key ≡ b = i.linked.owner b here key known.0 (subst (IsAmong (here, key)) (sym is) (inr among)) in
        let owner : book.belongs here key ≡ a = i.linked.owner a here key lt (subst (IsAmong (here, key)) (sym first) (inl refl)) in
        let same : xs ≡ rest = same_rest x (here, key) xs rest (sym is ∙ ap (chains_of book) (sym own ∙ owner) ∙ first) in
        (subst (IsChain (stays_of net) (unders_of book a)) first (i.linked.chained a lt)).3 (subst (IsAmong (here, key)) same among)

-- a message for which a stay waits carries the activity whose chain that stay is the first of
carried_first : (stays : Stays) (chain : List Name) (under : Finish) (message : Message) (p k : ℕ) → Carries stays chain under message
    → IsAwaitedAt message p k → (rest : List Name) × (chain ≡ (p, k) ∷ rest)
carried_first stays chain under (Spawn from to f function graph) p k c at = absurd at
carried_first stays chain under (Shift from to waiting f function graph) p k c at = (c.0, c.2 ∙ (λ j. (at.0 j, at.1 j) ∷ c.0))
carried_first stays chain under (Back from to waiting graph) p k c at = (c.0, c.2 ∙ (λ j. (at.0 j, at.1 j) ∷ c.0))

-- no other message is waited for by that stay
others_apart : (net : Net) (book : Book) (here key number m : ℕ) (message other : Message) (rest : List Name) → IsSound net book
    → net.posts number ≡ Flying message → chains_of book (book.carries number) ≡ (here, key) ∷ rest → (m ≡ number → ⊥) → net.posts m ≡ Flying other
    → IsAwaitedAt other here key → ⊥
others_apart net book here key number m message other rest i flies first apart too at =
    let a = book.carries number in
    let b = book.carries m in
    let c = carried_first (stays_of net) (chains_of book b) (unders_of book b) other here key (i.carried.says m other too) at in
    let own : book.belongs here key ≡ b = i.linked.owner b here key (i.carried.begun_one m other too)
    (subst (IsAmong (here, key)) (sym c.1) (inl refl)) in
    let owner : book.belongs here key ≡ a = i.linked.owner a here key (i.carried.begun_one number message flies)
    (subst (IsAmong (here, key)) (sym first) (inl refl)) in
    apart (i.carried.single m number other message too flies (sym own ∙ owner))

resumes_answered : (setting : Setting) (net : Net) (book : Book) (here key number : ℕ) (message : Message) (old new : places.Place) (s t : Stay)
    (rest : List Name) → IsSound net book → AreAnswered setting net → net.places here ≡ Some old → net.posts number ≡ Flying message
    → stays_of net here key ≡ Some s → chains_of book (book.carries number) ≡ (here, key) ∷ rest → new.stays ≡ with_entry old.stays key (Some t)
    → t.back ≡ s.back → first_function t ≡ first_function s → AreAnswered setting (net_with net here new number)
resumes_answered setting net book here key number message old new s t rest i answered e flies there first stays_are back_is function_is =
    answered_as setting (net_with net here new number) (with_pair (stays_of net) here key (Some t))
    (stays_after net here key old new (Some t) e stays_are)
    (λ p k u x is back. at_pair (λ y. y ≡ Some u → WaitsAt setting.program (with_pair (stays_of net) here key (Some t)) x.place x.key p
    (first_function u)) (stays_of net) here key p k (Some t)
    (λ ep ek same. own p k u x ep ek (same_Some t u same) back) (λ apart same. kept p k u x same back) is)
    (λ m other flies_too. (let was = taken_apart net.posts number m other flies_too in
    fits_apart setting (stays_of net) here key (Some t) other (others_apart net book here key number m message other rest i flies first was.0 was.1)
    (answered.posts m other was.1)))
  where
    kept : (p k : ℕ) (u : Stay) (x : Origin) → stays_of net p k ≡ Some u → u.back ≡ Some x
        → WaitsAt setting.program (with_pair (stays_of net) here key (Some t)) x.place x.key p (first_function u)
    kept p k u x is back =
        waits_apart setting.program (stays_of net) here key x.place x.key p (first_function u) (Some t)
        (first_apart net book here key p k (book.carries number) u x rest i (i.carried.begun_one number message flies) first is back)
        (answered.stays p k u x is back)

    own : (p k : ℕ) (u : Stay) (x : Origin) → p ≡ here → k ≡ key → t ≡ u → u.back ≡ Some x
        → WaitsAt setting.program (with_pair (stays_of net) here key (Some t)) x.place x.key p (first_function u)
    own p k u x ep ek is back =
        subst (WaitsAt setting.program (with_pair (stays_of net) here key (Some t)) x.place x.key p) (sym function_is ∙ ap first_function is)
        (kept p k s x (ap (λ q. stays_of net q k) ep ∙ ap (stays_of net here) ek ∙ there) (sym back_is ∙ ap (λ (v : Stay). v.back) is ∙ back))

-- ---- every delivery

resumed_first : (s : Stay) (register : ℕ) (result : Option Value)
    → first_function (record s { top = resumed s.top register result; away = false }) ≡ first_function s
resumed_first s register None = same_first (resumed s.top register None) s.top s.callers refl
resumed_first s register (Some v) = same_first (resumed s.top register (Some v)) s.top s.callers refl

received_answered : (setting : Setting) (w : World) (here key number : ℕ) (message : Message) (old new : places.Place) → IsSound w.net w.book
    → AreAnswered setting w.net → w.net.places here ≡ Some old → w.net.posts number ≡ Flying message → Receives setting here old message key new
    → AreAnswered setting (net_with w.net here new number)
received_answered setting w here key number (Spawn from to under function graph) old new i answered e flies r =
    let b = r.1 in
    begins_answered setting w.net here key number old new (new_stay function b.arguments under None) answered e b.free
    (ap (λ (p : places.Place). p.stays) b.new_is) (λ o back. no_stay o back)
received_answered setting w here key number (Shift from to waiting under function graph) old new i answered e flies r =
    let b = r.1 in
    let origin : Origin = record { place = from; key = waiting } in
    let waits : WaitsAt setting.program (stays_of w.net) from waiting here function =
    subst (λ p. WaitsAt setting.program (stays_of w.net) from waiting p function) r.0
    (answered.posts number (Shift from to waiting under function graph) flies).2 in
    begins_answered setting w.net here key number old new (new_stay function b.arguments under (Some origin)) answered e b.free
    (ap (λ (p : places.Place). p.stays) b.new_is)
    (λ o back. subst (λ (x : Origin). WaitsAt setting.program (stays_of w.net) x.place x.key here function) (same_Some origin o back) waits)
received_answered setting w here key number (Back from to waiting graph) old new i answered e flies r =
    let b = r.2 in
    let says = i.carried.says number (Back from to waiting graph) flies in
    let at : (let x : Name = (to, waiting) in x) ≡ (here, key) = λ j. (r.0 j, sym r.1 j) in
    resumes_answered setting w.net w.book here key number (Back from to waiting graph) old new b.stay _ says.0 i answered e flies
    (ap (λ o. stays_in o key) e ∙ b.waits.is_there) (says.2 ∙ ap (λ (x : Name). x ∷ says.0) at)
    (ap (λ (p : places.Place). p.stays) b.new_is) refl (resumed_first b.stay b.call.a _)

pub answered_after_delivery : AnsweredAfterDelivery
answered_after_delivery setting w v number i answered d =
    subst (AreAnswered setting) (sym d.net_is) (received_answered setting w d.here d.key number d.message d.old d.new i answered d.place_is d.flying
    d.receives)
