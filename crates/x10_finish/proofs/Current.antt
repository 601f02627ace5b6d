-- Finishes that haven't closed: what an event leaves of them, and what it doesn't touch.
use Rattle.std.proofs.Common.{◌≡◌, ℕ, suc, ◌+◌, ◌<◌, ◌≤◌, ◌&&◌, Bool, true, false, if◌then◌else◌, ◌∷◌, Option, Some, None, inl, inr, refl, sym, ◌∙◌, ap, subst, arith}
use Rattle.std.proofs.lemmas.Option.{same_Some}
use Rattle.x10_model.specs.Maps.{with_entry}
use Rattle.x10_model.specs.Places as machine
use Rattle.x10_model.specs.declared.finish.Finish.{Finish}
use Rattle.x10_model.specs.Places.{Setting, root, Stay, Message, Spawn, Shift, Back, receiver, Effect, Waits, Works, Begins, Spawns, Shifts, Opens, Closes, Ends}
use Rattle.x10_model.specs.Deliveries.{Receives}
use Rattle.x10_model.specs.Totals.{Totals, begins_one, ends_one, sends_to, receives_from, Did, Took, totals_after, is_last, is_reported}
use Rattle.x10_model.specs.Worlds.{same_finish, Net, Book, net_after, Flying}
use Rattle.x10_model.proofs.Maps.{at_key}
use Rattle.x10_finish.specs.Stays.{MovesStay}
use Rattle.x10_finish.specs.Nesting.{stays_in, opened_in, stays_of, opened_of, nth, IsOpen, IsHeld}
use Rattle.x10_finish.specs.Closing.{IsSound}
use Rattle.x10_finish.specs.Watching.{IsCurrent, closes}
use Rattle.x10_model.proofs.SameFinishes.{same_is}
use Rattle.x10_finish.proofs.Entries.{at_pair}
use Rattle.x10_finish.proofs.NestedFinishes.{no_stay, innermost_held}
use Rattle.x10_finish.proofs.OpenedFinishes.{grown}
use Rattle.x10_finish.proofs.Sound.{there_in, overwritten, net_with}
use Rattle.x10_finish.proofs.WorldParts.{stays_after, opened_after, opened_same, entry_self}
use Rattle.x10_finish.proofs.Rooted.{HadOpen, open_back, had_same, had_rest, had_none, opened_or_new}

-- ---- a finish that was not opened yet

is_false : (b : Bool) → (b ≡ true → ⊥) → b ≡ false
is_false true h = absurd (h refl)
is_false false h = refl

-- what is held was opened
held_opened : (net : Net) (book : Book) (g : Finish) → IsSound net book → IsHeld (stays_of net) g → g.number < opened_of net g.home
held_opened net book g i (inl is) = subst (λ (x : Finish). x.number < opened_of net x.home) (sym is) i.nested.root_opened
held_opened net book g i (inr (key, j, s, there, at)) = i.nested.numbered g.home key j g.number s there at

-- so it is another one
pub unopened_apart : (net : Net) (book : Book) (f g : Finish) → IsSound net book → opened_of net f.home ≤ f.number → IsHeld (stays_of net) g
    → same_finish f g ≡ false
unopened_apart net book f g i le held = is_false (same_finish f g) (λ t. (let is = same_is f g t in
    let lt = held_opened net book g i held in
    let home = ap (λ (x : Finish). opened_of net x.home) is in
    let number = ap (λ (x : Finish). x.number) is in
    omega (arith, le, lt, home, number)))

-- ---- what hasn't closed after a move had not closed before

open_before : (net : Net) (here key : ℕ) (old new : machine.Place) (o : Option Stay) (f : Finish) → net.places here ≡ Some old
    → new.stays ≡ with_entry old.stays key o → HadOpen (stays_of net) here o → IsOpen (λ p. stays_in (with_entry net.places here (Some new) p)) f
    → IsOpen (stays_of net) f
open_before net here key old new o f e stays had is_open = open_back (stays_of net) here key o f had
    (subst (λ x. IsOpen x f) (stays_after net here key old new o e stays) is_open)

-- what is open was open before, or is new
moved_open : (net : Net) (here key number : ℕ) (old new : machine.Place) (effect : Effect) (f : Finish) → net.places here ≡ Some old
    → (m : MovesStay here old key new effect) → IsOpen (stays_of (net_after net here new effect number)) f → IsCurrent net f
moved_open net here key number old new (Waits n) f e m is_open =
    inl (inr (subst (λ (x : ℕ → Option machine.Place). IsOpen (λ p. stays_in (x p)) f)
    (entry_self net.places here (Some new) (e ∙ ap Some (sym m.changes))) is_open))
moved_open net here key number old new Works f e m is_open =
    (let c = m.changes in inl (inr (open_before net here key old new (Some c.0) f e c.2.stays
    (had_same (stays_of net) here key m.stay c.0 (there_in net here key old new Works e m) c.1.finishes_are) is_open)))
moved_open net here key number old new (Spawns message function under) f e m is_open =
    (let c = m.changes in inl (inr (open_before net here key old new (Some c.0) f e c.6.stays
    (had_same (stays_of net) here key m.stay c.0 (there_in net here key old new (Spawns message function under) e m) c.3.finishes_are) is_open)))
moved_open net here key number old new (Shifts message under) f e m is_open =
    (let c = m.changes in inl (inr (open_before net here key old new (Some c.0) f e c.7.stays
    (had_same (stays_of net) here key m.stay c.0 (there_in net here key old new (Shifts message under) e m) c.4.finishes_are) is_open)))
moved_open net here key number old new (Closes n) f e m is_open =
    (let c = m.changes in inl (inr (open_before net here key old new (Some c.0) f e c.4.stays
    (had_rest (stays_of net) here key n c.1 m.stay c.0 (there_in net here key old new (Closes n) e m) c.2 c.3.finishes_are) is_open)))
moved_open net here key number old new (Ends under back) f e m is_open =
    inl (inr (open_before net here key old new None f e m.changes.3.stays (λ t is. no_stay t is) is_open))
moved_open net here key number old new (Begins other function under) f e m is_open =
    let c = m.changes in
    let mid = record old { stays = with_entry old.stays key (Some c.0) } in
    let between : Net = record net { places = with_entry net.places here (Some mid) } in
    let again = subst (λ (x : ℕ → Option machine.Place). IsOpen (λ p. stays_in (x p)) f)
    (sym (overwritten net.places here (Some mid) (Some new))) is_open in
    let first = open_before between here other mid new (Some c.1) f (at_key net.places here (Some mid)) c.6
    (had_none (stays_of between) here c.1 c.3.finishes) again in
    inl (inr (open_before net here key old mid (Some c.0) f e refl
    (had_same (stays_of net) here key m.stay c.0 (there_in net here key old new (Begins other function under) e m) c.2.finishes_are) first))
moved_open net here key number old new (Opens n inside) f e m is_open =
    let c = m.changes in
    let is : n ≡ opened_of net here = c.2 ∙ sym (ap opened_in e) in
    elim (opened_or_new (stays_of net) (opened_of net) here key m.stay c.0 f (there_in net here key old new (Opens n inside) e m)
    (c.1.finishes_are ∙ ap (λ x. x ∷ m.stay.finishes) is)
    (subst (λ x. IsOpen x f) (stays_after net here key old new (Some c.0) e c.4.stays) is_open)) [
      | inl now ↦ inr (let home = ap (λ (x : Finish). opened_of net x.home) now in let number_is = ap (λ (x : Finish). x.number) now in
          omega (arith, home, number_is))
      | inr was ↦ inl (inr was)
    ]

pub same_opened : (net : Net) (here p : ℕ) (old new : machine.Place) → net.places here ≡ Some old → new.opened ≡ old.opened
    → opened_of net p ≤ opened_in (with_entry net.places here (Some new) p)
same_opened net here p old new e same = (let is = ap (λ (x : ℕ → ℕ). x p) (opened_same net here old new e same) in omega (arith, is))

-- no place has opened fewer
pub moved_opened : (net : Net) (here key number p : ℕ) (old new : machine.Place) (effect : Effect) → net.places here ≡ Some old
    → (m : MovesStay here old key new effect) → opened_of net p ≤ opened_of (net_after net here new effect number) p
moved_opened net here key number p old new (Waits n) e m = same_opened net here p old new e (ap (λ (x : machine.Place). x.opened) m.changes)
moved_opened net here key number p old new Works e m = same_opened net here p old new e m.changes.2.opened_is
moved_opened net here key number p old new (Begins other function under) e m = same_opened net here p old new e m.changes.7
moved_opened net here key number p old new (Spawns message function under) e m = same_opened net here p old new e m.changes.6.opened_is
moved_opened net here key number p old new (Shifts message under) e m = same_opened net here p old new e m.changes.7.opened_is
moved_opened net here key number p old new (Closes n) e m = same_opened net here p old new e m.changes.4.opened_is
moved_opened net here key number p old new (Ends under back) e m = same_opened net here p old new e m.changes.3.opened_is
moved_opened net here key number p old new (Opens n inside) e m =
    let more = grown (opened_of net) here p in
    let is = ap (λ (x : ℕ → ℕ). x p) (opened_after net here (opened_of net here + 1) new
    (m.changes.4.opened_is ∙ ap (λ x. x + 1) (sym (ap opened_in e)))) in
    omega (arith, more, is)

pub moved_current : (net : Net) (here key number : ℕ) (old new : machine.Place) (effect : Effect) (f : Finish) → net.places here ≡ Some old
    → MovesStay here old key new effect → IsCurrent (net_after net here new effect number) f → IsCurrent net f
moved_current net here key number old new effect f e m (inl (inl is)) = inl (inl is)
moved_current net here key number old new effect f e m (inl (inr is_open)) = moved_open net here key number old new effect f e m is_open
moved_current net here key number old new effect f e m (inr le) =
    inr (let more = moved_opened net here key number f.home old new effect e m in omega (arith, le, more))

-- the finish that a move closes has closed
closed_gone : (net : Net) (book : Book) (here key number n : ℕ) (old new : machine.Place) → IsSound net book → net.places here ≡ Some old
    → (m : MovesStay here old key new (Closes n)) → IsCurrent (net_after net here new (Closes n) number) (record { home = here; number = n }) → ⊥
closed_gone net book here key number n old new i e m (inl (inl is)) =
    let there = there_in net here key old new (Closes n) e m in
    no_stay _ (sym i.nested.root_outer ∙ ap net.enclosing (sym is) ∙ i.nested.enclosed here key 0 n m.stay there (ap (λ xs. nth xs 0) m.changes.2))
closed_gone net book here key number n old new i e m (inl (inr (k, j, u, at, h))) =
    let c = m.changes in
    let there = there_in net here key old new (Closes n) e m in
    let top = ap (λ xs. nth xs 0) c.2 in
    at_pair (λ o. o ≡ Some u → ⊥) (stays_of net) here key here k (Some c.0)
    (λ eh ek is. (let rest : nth c.1 j ≡ Some n = sym (ap (λ xs. nth xs j)
    (ap (λ (x : Stay). x.finishes) (sym (same_Some c.0 u is)) ∙ c.3.finishes_are)) ∙ h in
    let same = (i.nested.apart here key key 0 (suc j) n m.stay m.stay there there top (ap (λ xs. nth xs (suc j)) c.2 ∙ rest)).1 in
    omega (arith, same)))
    (λ other is. other (refl, sym (i.nested.apart here key k 0 j n m.stay u there is top h).0))
    (ap (λ x. x here k) (sym (stays_after net here key old new (Some c.0) e c.4.stays)) ∙ at)
closed_gone net book here key number n old new i e m (inr le) =
    let lt = i.nested.numbered here key 0 n m.stay (there_in net here key old new (Closes n) e m) (ap (λ xs. nth xs 0) m.changes.2) in
    let more = moved_opened net here key number here old new (Closes n) e m in
    omega (arith, le, lt, more)

pub not_closed : (net : Net) (book : Book) (here key number : ℕ) (old new : machine.Place) (effect : Effect) (f : Finish) → IsSound net book
    → net.places here ≡ Some old → (m : MovesStay here old key new effect) → IsCurrent (net_after net here new effect number) f
    → closes here effect f ≡ false
not_closed net book here key number old new (Waits n) f i e m current = refl
not_closed net book here key number old new Works f i e m current = refl
not_closed net book here key number old new (Begins other function under) f i e m current = refl
not_closed net book here key number old new (Spawns message function under) f i e m current = refl
not_closed net book here key number old new (Shifts message under) f i e m current = refl
not_closed net book here key number old new (Opens n inside) f i e m current = refl
not_closed net book here key number old new (Ends under back) f i e m current = refl
not_closed net book here key number old new (Closes n) f i e m current =
    let g : Finish = record { home = here; number = n } in
    is_false (same_finish f g) (λ t. closed_gone net book here key number n old new i e m
    (subst (IsCurrent (net_after net here new (Closes n) number)) (same_is f g t) current))

-- a move changes nothing of a finish that was not opened yet
pub moved_none : (net : Net) (book : Book) (here key : ℕ) (old new : machine.Place) (effect : Effect) (f : Finish) (t : Totals) → IsSound net book
    → net.places here ≡ Some old → MovesStay here old key new effect → opened_of net f.home ≤ f.number
    → (totals_after f t (Did effect) ≡ t) × (is_reported here f t (Did effect) ≡ false)
moved_none net book here key old new (Waits n) f t i e m le = (refl, refl)
moved_none net book here key old new Works f t i e m le = (refl, refl)
moved_none net book here key old new (Opens n inside) f t i e m le = (refl, refl)
moved_none net book here key old new (Closes n) f t i e m le = (refl, refl)
moved_none net book here key old new (Begins other function under) f t i e m le =
    let held = innermost_held (stays_of net) (opened_of net) net.enclosing net.posts here key m.stay i.nested
    (there_in net here key old new (Begins other function under) e m) in
    let apart = unopened_apart net book f under i le (subst (IsHeld (stays_of net)) (sym m.changes.4) held) in
    (ap (λ b. if b then begins_one t else t) apart, refl)
moved_none net book here key old new (Spawns message function under) f t i e m le =
    let held = innermost_held (stays_of net) (opened_of net) net.enclosing net.posts here key m.stay i.nested
    (there_in net here key old new (Spawns message function under) e m) in
    let apart = unopened_apart net book f under i le (subst (IsHeld (stays_of net)) (sym m.changes.4) held) in
    (ap (λ b. if b then sends_to t (receiver message) else t) apart, refl)
moved_none net book here key old new (Shifts message under) f t i e m le =
    let held = innermost_held (stays_of net) (opened_of net) net.enclosing net.posts here key m.stay i.nested
    (there_in net here key old new (Shifts message under) e m) in
    let apart = unopened_apart net book f under i le (subst (IsHeld (stays_of net)) (sym m.changes.5) held) in
    (ap (λ b. if b then sends_to t (receiver message) else t) apart, refl)
moved_none net book here key old new (Ends under back) f t i e m le =
    let held = i.nested.inherited here key m.stay (there_in net here key old new (Ends under back) e m) in
    let apart = unopened_apart net book f under i le (subst (IsHeld (stays_of net)) (sym m.changes.1) held) in
    (ap (λ b. if b then ends_one t else t) apart, ap (λ b. b && is_last f.home here t) apart)

-- ---- the same of deliveries

received_open : (setting : Setting) (net : Net) (here key number : ℕ) (old new : machine.Place) (message : Message) (f : Finish)
    → net.places here ≡ Some old → Receives setting here old message key new → IsOpen (stays_of (net_with net here new number)) f
    → IsOpen (stays_of net) f
received_open setting net here key number old new (Spawn from to under function graph) f e r is_open =
    open_before net here key old new _ f e (ap (λ (p : machine.Place). p.stays) r.1.new_is) (had_none (stays_of net) here _ refl) is_open
received_open setting net here key number old new (Shift from to waiting under function graph) f e r is_open =
    open_before net here key old new _ f e (ap (λ (p : machine.Place). p.stays) r.1.new_is) (had_none (stays_of net) here _ refl) is_open
received_open setting net here key number old new (Back from to waiting graph) f e r is_open =
    open_before net here key old new _ f e (ap (λ (p : machine.Place). p.stays) r.2.new_is)
    (had_same (stays_of net) here key r.2.stay _ (ap (λ o. stays_in o key) e ∙ r.2.waits.is_there) refl) is_open

pub received_opened : (setting : Setting) (here key : ℕ) (old new : machine.Place) (message : Message) → Receives setting here old message key new
    → new.opened ≡ old.opened
received_opened setting here key old new (Spawn from to under function graph) r = ap (λ (p : machine.Place). p.opened) r.1.new_is
received_opened setting here key old new (Shift from to waiting under function graph) r = ap (λ (p : machine.Place). p.opened) r.1.new_is
received_opened setting here key old new (Back from to waiting graph) r = ap (λ (p : machine.Place). p.opened) r.2.new_is

pub received_current : (setting : Setting) (net : Net) (here key number : ℕ) (old new : machine.Place) (message : Message) (f : Finish)
    → net.places here ≡ Some old → Receives setting here old message key new → IsCurrent (net_with net here new number) f → IsCurrent net f
received_current setting net here key number old new message f e r (inl (inl is)) = inl (inl is)
received_current setting net here key number old new message f e r (inl (inr is_open)) =
    inl (inr (received_open setting net here key number old new message f e r is_open))
received_current setting net here key number old new message f e r (inr le) =
    inr (let more = same_opened net here f.home old new e (received_opened setting here key old new message r) in omega (arith, le, more))

-- a delivery changes nothing of a finish that was not opened yet
pub received_none : (net : Net) (book : Book) (number : ℕ) (message : Message) (f : Finish) (t : Totals) → IsSound net book
    → net.posts number ≡ Flying message → opened_of net f.home ≤ f.number → totals_after f t (Took message) ≡ t
received_none net book number (Spawn from to under function graph) f t i flying le =
    ap (λ b. if b then receives_from t from else t) (unopened_apart net book f under i le
    (i.nested.carried number (Spawn from to under function graph) under flying refl))
received_none net book number (Shift from to waiting under function graph) f t i flying le =
    ap (λ b. if b then receives_from t from else t) (unopened_apart net book f under i le
    (i.nested.carried number (Shift from to waiting under function graph) under flying refl))
received_none net book number (Back from to waiting graph) f t i flying le = refl
