-- Every finish that is held stands within the root, so that where the root is quiet nothing lives.
use Rattle.std.proofs.Common.{◌≡◌, ℕ, zero, suc, ◌+◌, ◌<◌, ◌≤◌, Bool, true, false, if◌then◌else◌, List, [], ◌∷◌, Option, Some, None, ◌⊎◌, inl, inr, refl, sym, ◌∙◌, ap, subst, arith}
use Rattle.std.proofs.Math.Path.{fun_ext}
use Rattle.std.proofs.lemmas.Option.{same_Some}
use Rattle.x10_model.specs.declared.event.Event.{Event}
use Rattle.x10_model.specs.Maps.{with_entry, with_pair}
use Rattle.x10_model.specs.Places as places
use Rattle.x10_model.specs.declared.finish.Finish.{Finish}
use Rattle.x10_model.specs.Places.{Setting, root, Stay, Message, Spawn, Shift, Back, innermost, Effect, Waits, Works, Begins, Spawns, Shifts, Opens, Closes, Ends}
use Rattle.x10_model.specs.Deliveries.{Receives}
use Rattle.x10_model.specs.Worlds as worlds
use Rattle.x10_model.specs.Worlds.{Post, Net, Book, World, net_after, same_finish, with_enclosing, IsWithin, itself, enclosed, IsQuiet, IsOver, Quiet, Steps, Delivers, Happens, steps, delivers, idle, Run, done, WithinBounds, opening}
use Rattle.x10_model.proofs.Maps.{at_key}
use Rattle.x10_finish.specs.Stays.{Rewrites, MovesStay}
use Rattle.x10_finish.specs.Nesting.{stays_in, opened_in, Stays, stays_of, opened_of, nth, IsOpen, IsHeld, IsUsed, IsNested}
use Rattle.x10_finish.specs.Closing.{unders_of, IsSound, IsRooted, RootIsOver}
use Rattle.x10_finish.proofs.Stays.{stays_change}
use Rattle.x10_model.proofs.SameFinishes.{same_is}
use Rattle.x10_finish.proofs.Entries.{at_pair}
use Rattle.x10_finish.proofs.NestedFinishes.{no_stay, IsInside, enclosed_inside, used_held, innermost_held}
use Rattle.x10_finish.proofs.OpenedFinishes.{grown, encloses_other, encloses_new}
use Rattle.x10_finish.proofs.Sound.{there_in, net_with, unused_finish, overwritten}
use Rattle.x10_finish.proofs.WorldParts.{stays_after, opened_after, opened_same, entry_self}
use Rattle.x10_finish.proofs.QuietClosings.{sound_happens, sound_opening, lives_used, main_is, opening_row}

-- ---- a quiet root has nothing inside it

nothing_in_root : (stays : Stays) (opened : ℕ → ℕ) (enclosing : Finish → Option Finish) (posts : ℕ → Post) → IsNested stays opened enclosing posts
    → (IsUsed stays posts root → ⊥) → (g : Finish) → IsWithin enclosing root g → IsInside stays posts g → ⊥
nothing_in_root stays opened enclosing posts n quiet g itself (inl used) = quiet used
nothing_in_root stays opened enclosing posts n quiet g itself (inr (k, i, s, e, at)) = no_stay _ (sym n.root_outer ∙ n.enclosed 0 k (suc i) 0 s e at)
nothing_in_root stays opened enclosing posts n quiet g (enclosed g' h e rest) (inl used) = elim (used_held stays opened enclosing posts n g used) [
  | inl is_root ↦ no_stay h (sym n.root_outer ∙ ap enclosing (sym is_root) ∙ e)
  | inr o ↦ nothing_in_root stays opened enclosing posts n quiet h rest (enclosed_inside stays opened enclosing posts n g h o.0 o.1 o.2 o.3 o.4 e)
]
nothing_in_root stays opened enclosing posts n quiet g (enclosed g' h e rest) (inr (k, i, s, is, at)) =
    nothing_in_root stays opened enclosing posts n quiet h rest (enclosed_inside stays opened enclosing posts n g h k (suc i) s is at e)

-- ---- steps

held_back : (stays stays' : Stays) (f : Finish) → (IsOpen stays' f → IsOpen stays f) → IsHeld stays' f → IsHeld stays f
held_back stays stays' f back (inl r) = inl r
held_back stays stays' f back (inr o) = inr (back o)

-- what a stay has now was open before
abbrev pub HadOpen : Stays → ℕ → Option Stay → Type 0
HadOpen stays here o = (t : Stay) → o ≡ Some t → (i : ℕ) (f : Finish) → nth t.finishes i ≡ Some f.number → f.home ≡ here → IsOpen stays f

pub open_back : (stays : Stays) (here key : ℕ) (o : Option Stay) (f : Finish) → HadOpen stays here o → IsOpen (with_pair stays here key o) f
    → IsOpen stays f
open_back stays here key o f had (k, i, s, e, h) =
    at_pair (λ x. x ≡ Some s → IsOpen stays f) stays here key f.home k o (λ eh ek is. had s is i f h eh) (λ other is. (k, i, s, is, h)) e

rooted_back : (stays stays' : Stays) (opened opened' : ℕ → ℕ) (enclosing : Finish → Option Finish) → IsRooted stays opened enclosing
    → ((f : Finish) → IsOpen stays' f → IsOpen stays f) → ((p : ℕ) → opened p ≤ opened' p) → IsRooted stays' opened' enclosing
rooted_back stays stays' opened opened' enclosing r back more = record {
  only = λ f g e. (let lt = r.only f g e in let le = more f.home in omega (arith, lt, le));
  within = λ f h. r.within f (held_back stays stays' f (back f) h);
}

-- one stay of a place changes
rooted_changes : (net : Net) (here key : ℕ) (old new : places.Place) (o : Option Stay) → IsRooted (stays_of net) (opened_of net) net.enclosing
    → net.places here ≡ Some old → Rewrites old key o old.opened new → HadOpen (stays_of net) here o
    → IsRooted (λ p. stays_in (with_entry net.places here (Some new) p)) (λ p. opened_in (with_entry net.places here (Some new) p)) net.enclosing
rooted_changes net here key old new o r e w had =
    subst (λ x. IsRooted x (λ p. opened_in (with_entry net.places here (Some new) p)) net.enclosing)
    (sym (stays_after net here key old new o e w.stays))
    (subst (λ x. IsRooted (with_pair (stays_of net) here key o) x net.enclosing) (sym (opened_same net here old new e w.opened_is))
    (rooted_back (stays_of net) (with_pair (stays_of net) here key o) (opened_of net) (opened_of net) net.enclosing r
    (λ f. open_back (stays_of net) here key o f had) (λ p. omega arith)))

-- a stay with no more finishes than one that was there
pub had_same : (stays : Stays) (here key : ℕ) (s t : Stay) → stays here key ≡ Some s → t.finishes ≡ s.finishes → HadOpen stays here (Some t)
had_same stays here key s t there stack u is i f h eh =
    (key, i, s, ap (λ x. stays x key) eh ∙ there, ap (λ xs. nth xs i) (sym (ap (λ (x : Stay). x.finishes) (sym (same_Some t u is)) ∙ stack)) ∙ h)

pub had_rest : (stays : Stays) (here key n : ℕ) (rest : List ℕ) (s t : Stay) → stays here key ≡ Some s → s.finishes ≡ n ∷ rest → t.finishes ≡ rest
    → HadOpen stays here (Some t)
had_rest stays here key n rest s t there whole stack u is i f h eh = (
  key,
  suc i,
  s,
  ap (λ x. stays x key) eh ∙ there,
  ap (λ xs. nth xs (suc i)) whole
      ∙ ap (λ xs. nth xs i) (sym (ap (λ (x : Stay). x.finishes) (sym (same_Some t u is)) ∙ stack)) ∙ h,
)

pub had_none : (stays : Stays) (here : ℕ) (t : Stay) → t.finishes ≡ [] → HadOpen stays here (Some t)
had_none stays here t empty u is i f h eh = no_stay f.number
    (sym (ap (λ xs. nth xs i) (ap (λ (x : Stay). x.finishes) (sym (same_Some t u is)) ∙ empty)) ∙ h)

-- enclosing one finish more leaves the others as they are
within_more : (enclosing : Finish → Option Finish) (opened : ℕ → ℕ) (here : ℕ) (inside : Finish)
    → ((f g : Finish) → enclosing f ≡ Some g → f.number < opened f.home) → (f : Finish) → IsWithin enclosing root f
    → IsWithin (with_enclosing enclosing (record { home = here; number = opened here }) inside) root f
within_more enclosing opened here inside only f itself = itself
within_more enclosing opened here inside only f (enclosed f' g e rest) =
    enclosed f g (encloses_other enclosing here (opened here) inside f
    (λ is. (let lt = only f g e in let n = ap (λ (x : Finish). x.number) is in let h = ap (λ (x : Finish). opened x.home) is in
    omega (arith, lt, n, h))) ∙ e)
    (within_more enclosing opened here inside only g rest)

only_if : (t : Bool) (o : Option Finish) (inside g : Finish) (A : Type 0) → (t ≡ true → A) → (o ≡ Some g → A)
    → (if t then Some inside else o) ≡ Some g → A
only_if true o inside g A now was e = now refl
only_if false o inside g A now was e = was e

top_or_rest : (stays : Stays) (here key n : ℕ) (s u : Stay) (f : Finish) (i : ℕ) → stays here key ≡ Some s → u.finishes ≡ n ∷ s.finishes
    → nth u.finishes i ≡ Some f.number → f.home ≡ here → (f ≡ record { home = here; number = n }) ⊎ IsOpen stays f
top_or_rest stays here key n s u f zero there stack h eh = inl
    (let m : f.number ≡ n = same_Some f.number n (sym h ∙ ap (λ xs. nth xs 0) stack) in λ j. record { home = eh j; number = m j })
top_or_rest stays here key n s u f (suc i) there stack h eh =
    inr (key, i, s, ap (λ x. stays x key) eh ∙ there, ap (λ xs. nth xs (suc i)) (sym stack) ∙ h)

-- what has something around it was opened
only_more : (enclosing : Finish → Option Finish) (opened : ℕ → ℕ) (here : ℕ) (inside : Finish)
    → ((f g : Finish) → enclosing f ≡ Some g → f.number < opened f.home) → (f g : Finish)
    → with_enclosing enclosing (record { home = here; number = opened here }) inside f ≡ Some g
    → f.number < with_entry opened here (opened here + 1) f.home
only_more enclosing opened here inside only f g e =
    only_if (same_finish f (record { home = here; number = opened here })) (enclosing f) inside g
    (f.number < with_entry opened here (opened here + 1) f.home)
    (λ t. (let is = same_is f (record { home = here; number = opened here }) t in
    let n = ap (λ (x : Finish). x.number) is in
    let now = ap (λ (x : Finish). with_entry opened here (opened here + 1) x.home) is ∙ at_key opened here (opened here + 1) in
    omega (arith, n, now)))
    (λ was. (let lt = only f g was in let le = grown opened here f.home in omega (arith, lt, le))) e

-- a finish that is open is the new one, or was open
pub opened_or_new : (stays : Stays) (opened : ℕ → ℕ) (here key : ℕ) (s t : Stay) (f : Finish) → stays here key ≡ Some s
    → t.finishes ≡ opened here ∷ s.finishes → IsOpen (with_pair stays here key (Some t)) f
    → (f ≡ record { home = here; number = opened here }) ⊎ IsOpen stays f
opened_or_new stays opened here key s t f there stack (k, i, u, e, h) =
    at_pair (λ x. x ≡ Some u → (f ≡ record { home = here; number = opened here }) ⊎ IsOpen stays f) stays here key f.home k (Some t)
    (λ eh ek is. top_or_rest stays here key (opened here) s u f i there (ap (λ (x : Stay). x.finishes) (sym (same_Some t u is)) ∙ stack) h eh)
    (λ other is. inr (k, i, u, is, h)) e

rooted_opens : (stays : Stays) (opened : ℕ → ℕ) (enclosing : Finish → Option Finish) (here key : ℕ) (inside : Finish) (s t : Stay)
    → IsRooted stays opened enclosing → stays here key ≡ Some s → t.finishes ≡ opened here ∷ s.finishes → IsHeld stays inside
    → IsRooted (with_pair stays here key (Some t)) (with_entry opened here (opened here + 1))
    (with_enclosing enclosing (record { home = here; number = opened here }) inside)
rooted_opens stays opened enclosing here key inside s t r there stack held =
    let new : Finish = record { home = here; number = opened here } in
    let within_new : IsWithin (with_enclosing enclosing new inside) root new =
    enclosed new inside (encloses_new enclosing here (opened here) inside new refl refl)
    (within_more enclosing opened here inside r.only inside (r.within inside held)) in
    record {
      only = λ f g e. only_more enclosing opened here inside r.only f g e;
      within = λ f h. elim h [
        | inl is ↦ subst (IsWithin (with_enclosing enclosing new inside) root) (sym is) itself
        | inr o ↦ elim (opened_or_new stays opened here key s t f there stack o) [
          | inl is ↦ subst (IsWithin (with_enclosing enclosing new inside) root) (sym is) within_new
          | inr was ↦ within_more enclosing opened here inside r.only f (r.within f (inr was))
        ]
      ];
    }

-- ---- events

moved_rooted : (net : Net) (book : Book) (here key number : ℕ) (old new : places.Place) (effect : Effect) → IsSound net book
    → IsRooted (stays_of net) (opened_of net) net.enclosing → net.places here ≡ Some old → MovesStay here old key new effect
    → (let after = net_after net here new effect number in IsRooted (stays_of after) (opened_of after) after.enclosing)
moved_rooted net book here key number old new (Waits n) i r e m =
    subst (λ (f : ℕ → Option places.Place). IsRooted (λ p. stays_in (f p)) (λ p. opened_in (f p)) net.enclosing)
    (sym (entry_self net.places here (Some new) (e ∙ ap Some (sym m.changes)))) r
moved_rooted net book here key number old new Works i r e m =
    (let c = m.changes in rooted_changes net here key old new (Some c.0) r e c.2
    (had_same (stays_of net) here key m.stay c.0 (there_in net here key old new Works e m) c.1.finishes_are))
moved_rooted net book here key number old new (Spawns message function under) i r e m =
    (let c = m.changes in rooted_changes net here key old new (Some c.0) r e c.6
    (had_same (stays_of net) here key m.stay c.0 (there_in net here key old new (Spawns message function under) e m) c.3.finishes_are))
moved_rooted net book here key number old new (Shifts message under) i r e m =
    (let c = m.changes in rooted_changes net here key old new (Some c.0) r e c.7
    (had_same (stays_of net) here key m.stay c.0 (there_in net here key old new (Shifts message under) e m) c.4.finishes_are))
moved_rooted net book here key number old new (Closes n) i r e m =
    (let c = m.changes in rooted_changes net here key old new (Some c.0) r e c.4
    (had_rest (stays_of net) here key n c.1 m.stay c.0 (there_in net here key old new (Closes n) e m) c.2 c.3.finishes_are))
moved_rooted net book here key number old new (Ends under back) i r e m =
    rooted_changes net here key old new None r e m.changes.3 (λ t is. no_stay t is)
moved_rooted net book here key number old new (Begins other function under) i r e m =
    let c = m.changes in
    let there = there_in net here key old new (Begins other function under) e m in
    let mid = record old { stays = with_entry old.stays key (Some c.0) } in
    let first = rooted_changes net here key old mid (Some c.0) r e (record { stays = refl; opened_is = refl })
    (had_same (stays_of net) here key m.stay c.0 there c.2.finishes_are) in
    let between : Net = record net { places = with_entry net.places here (Some mid) } in
    subst (λ (f : ℕ → Option places.Place). IsRooted (λ p. stays_in (f p)) (λ p. opened_in (f p)) net.enclosing)
    (overwritten net.places here (Some mid) (Some new))
    (rooted_changes between here other mid new (Some c.1) first (at_key net.places here (Some mid)) (record { stays = c.6; opened_is = c.7 })
    (had_none (stays_of between) here c.1 c.3.finishes))
moved_rooted net book here key number old new (Opens n inside) i r e m =
    let c = m.changes in
    let there = there_in net here key old new (Opens n inside) e m in
    let count : opened_of net here ≡ old.opened = ap opened_in e in
    let held = innermost_held (stays_of net) (opened_of net) net.enclosing net.posts here key m.stay i.nested there in
    let is : n ≡ opened_of net here = c.2 ∙ sym count in
    subst (λ x. IsRooted x (opened_of (net_after net here new (Opens n inside) number))
    (with_enclosing net.enclosing (record { home = here; number = n }) inside)) (sym (stays_after net here key old new (Some c.0) e c.4.stays))
    (subst (λ x. IsRooted (with_pair (stays_of net) here key (Some c.0)) x (with_enclosing net.enclosing (record { home = here; number = n }) inside))
    (sym (opened_after net here (opened_of net here + 1) new (c.4.opened_is ∙ ap (λ x. x + 1) (sym count))))
    (subst (λ (x : ℕ). IsRooted (with_pair (stays_of net) here key (Some c.0)) (with_entry (opened_of net) here (opened_of net here + 1))
    (with_enclosing net.enclosing (record { home = here; number = x }) inside)) (sym is)
    (rooted_opens (stays_of net) (opened_of net) net.enclosing here key inside m.stay c.0 r there
    (c.1.finishes_are ∙ ap (λ x. x ∷ m.stay.finishes) is) (subst (IsHeld (stays_of net)) (sym c.3) held))))

received_rooted : (setting : Setting) (net : Net) (here key number : ℕ) (message : Message) (old new : places.Place)
    → IsRooted (stays_of net) (opened_of net) net.enclosing → net.places here ≡ Some old → Receives setting here old message key new
    → (let after = net_with net here new number in IsRooted (stays_of after) (opened_of after) after.enclosing)
received_rooted setting net here key number (Spawn from to under function graph) old new r e d =
    rooted_changes net here key old new _ r e (record {
      stays = ap (λ (p : places.Place). p.stays) d.1.new_is;
      opened_is = ap (λ (p : places.Place). p.opened) d.1.new_is;
    }) (had_none (stays_of net) here _ refl)
received_rooted setting net here key number (Shift from to waiting under function graph) old new r e d =
    rooted_changes net here key old new _ r e (record {
      stays = ap (λ (p : places.Place). p.stays) d.1.new_is;
      opened_is = ap (λ (p : places.Place). p.opened) d.1.new_is;
    }) (had_none (stays_of net) here _ refl)
received_rooted setting net here key number (Back from to waiting graph) old new r e d =
    rooted_changes net here key old new _ r e (record {
      stays = ap (λ (p : places.Place). p.stays) d.2.new_is;
      opened_is = ap (λ (p : places.Place). p.opened) d.2.new_is;
    })
    (had_same (stays_of net) here key d.2.stay _ (ap (λ o. stays_in o key) e ∙ d.2.waits.is_there) refl)

rooted_at : (net after : Net) → after ≡ net → IsRooted (stays_of net) (opened_of net) net.enclosing
    → IsRooted (stays_of after) (opened_of after) after.enclosing
rooted_at net after e r = subst (λ x. IsRooted (stays_of x) (opened_of x) x.enclosing) (sym e) r

pub rooted_happens : (setting : Setting) (w v : World) (event : Event) → IsSound w.net w.book
    → IsRooted (stays_of w.net) (opened_of w.net) w.net.enclosing → Happens Quiet setting w event v
    → IsRooted (stays_of v.net) (opened_of v.net) v.net.enclosing
rooted_happens setting w v event i r (steps here key u s) =
    rooted_at (net_after w.net here s.new s.effect s.number) v.net s.net_is
    (moved_rooted w.net w.book here key s.number s.old s.new s.effect i r s.place_is (stays_change setting here key s.old s.new s.effect s.moves))
rooted_happens setting w v event i r (delivers number u d) =
    rooted_at (net_with w.net d.here d.new number) v.net d.net_is
    (received_rooted setting w.net d.here d.key number d.message d.old d.new r d.place_is d.receives)
rooted_happens setting w v event i r (idle e h) = r

pub rooted_opening : (setting : Setting) (key : ℕ) → 0 < setting.places
    → (let net = (opening setting key).net in IsRooted (stays_of net) (opened_of net) net.enclosing)
rooted_opening setting key lt =
    let net = (opening setting key).net in
    subst (λ x. IsRooted x (opened_of net) net.enclosing) (sym (fun_ext (λ p. fun_ext (λ k. opening_row setting key p k lt)))) (record {
      only = λ f g e. no_stay g e;
      within = λ f h. elim h [
        | inl is ↦ subst (IsWithin net.enclosing root) (sym is) itself
        | inr o ↦ no_stay f.number (sym (ap (λ (x : Stay). nth x.finishes o.1) (main_is setting key f.home o.0 o.2 o.3).2) ∙ o.4)
      ];
    })

pub root_over : (w : World) → IsSound w.net w.book → IsRooted (stays_of w.net) (opened_of w.net) w.net.enclosing → IsQuiet w.net root → IsOver w
root_over w i r quiet a lives =
    let used = lives_used w a i lives in
    nothing_in_root (stays_of w.net) (opened_of w.net) w.net.enclosing w.net.posts i.nested (unused_finish w.net root quiet) (unders_of w.book a)
    (r.within (unders_of w.book a) (used_held (stays_of w.net) (opened_of w.net) w.net.enclosing w.net.posts i.nested (unders_of w.book a) used))
    (inl used)

pub run_rooted : (setting : Setting) (P : World → Type 0) (u w : World) (events : List Event) → IsSound u.net u.book
    → IsRooted (stays_of u.net) (opened_of u.net) u.net.enclosing → Run Quiet setting P u events w
    → IsSound w.net w.book × IsRooted (stays_of w.net) (opened_of w.net) w.net.enclosing
run_rooted setting P u w events i r (done x p) = (i, r)
run_rooted setting P u w events i r (worlds.then x v y event rest p right h run) =
    run_rooted setting P v y rest (sound_happens setting x v event i h) (rooted_happens setting x v event i r h) run

pub root_is_over : RootIsOver
root_is_over setting key bounds events w lt run quiet =
    let both = run_rooted setting (WithinBounds bounds) (opening setting key) w events (sound_opening setting key lt)
    (rooted_opening setting key lt) run in
    root_over w both.0 both.1 quiet
