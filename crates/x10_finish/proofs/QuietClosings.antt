-- A run in which finishes close only where they are quiet is one in which they close only where all they govern has ended.
use Rattle.std.proofs.Common.{◌≡◌, ℕ, ◌<◌, ◌==◌, nat_lt, Bool, true, false, if◌then◌else◌, List, [], ◌∷◌, Option, Some, None, inl, inr, refl, sym, ◌∙◌, ap, subst, arith, lit<}
use Rattle.std.proofs.Math.Path.{fun_ext}
use Rattle.std.proofs.lemmas.Bool.{cases_eq, ne_eqb, lt-ltb}
use Rattle.std.proofs.lemmas.Option.{same_Some}
use Rattle.x10_model.specs.declared.event.Event.{Event}
use Rattle.x10_model.specs.Maps.{with_pair}
use Rattle.x10_model.specs.Places as places
use Rattle.x10_model.specs.declared.finish.Finish.{Finish}
use Rattle.x10_model.specs.Places.{Setting, root, Origin, Stay, Message, Spawn, Shift, Back, innermost, innermost_of, Effect, Waits, Works, Begins, Spawns, Shifts, Opens, Closes, Ends}
use Rattle.x10_model.specs.Moves.{new_stay}
use Rattle.x10_model.specs.Deliveries.{Receives}
use Rattle.x10_model.specs.Worlds as worlds
use Rattle.x10_model.specs.Worlds.{Post, Unused, Flying, Taken, Net, Book, World, net_after, book_after, book_with, entered, IsUnder, IsWithin, itself, IsSpawn, spawns, Lives, stays, flies, Governs, IsQuiet, HasEnded, Rule, Quiet, Ideal, Allows, Steps, Delivers, Happens, steps, delivers, idle, GoesWrong, Run, done, WithinBounds, opening, opening_places, empty_place, first_place}
use Rattle.x10_finish.specs.Stays.{MovesStay}
use Rattle.x10_finish.specs.Nesting.{stays_in, Stays, stays_of, opened_of, nth, IsUsed, by_stay, by_post}
use Rattle.x10_finish.specs.Chains.{Name, IsAmong, IsBegunBy, IsChain}
use Rattle.x10_finish.specs.Closing.{chains_of, unders_of, IsSound, QuietIsIdeal, IsAtItsEnd, EndedIsQuiet}
use Rattle.x10_finish.proofs.Stays.{stays_change}
use Rattle.x10_finish.proofs.Entries.{at_pair}
use Rattle.x10_finish.proofs.NestedFinishes.{pair_same, pair_other, no_stay, nothing_inside}
use Rattle.x10_finish.proofs.Chains.{chain_inherits}
use Rattle.x10_finish.proofs.WorldParts.{sound_as}
use Rattle.x10_finish.proofs.Sound.{there_in, after_waits, after_works, after_opens, after_closes, after_spawns, after_shifts, after_begins, after_ends, net_with, after_enters, after_resumes, unused_finish}

-- ---- one event

moved : (net : Net) (book : Book) (here key number : ℕ) (old new : places.Place) (effect : Effect) → IsSound net book → net.places here ≡ Some old
    → (m : MovesStay here old key new effect) → ((n : ℕ) → effect ≡ Closes n → IsQuiet net (record { home = here; number = n }))
    → IsSound (net_after net here new effect number) (book_after book (book.belongs here key) here effect number)
moved net book here key number old new (Waits n) i e m quiet = after_waits net book here key number n old new i e m.changes
moved net book here key number old new Works i e m quiet =
    let c = m.changes in after_works net book here key number old new m.stay c.0 i e (there_in net here key old new Works e m) m.is_ready c.1 c.2
moved net book here key number old new (Begins other function under) i e m quiet =
    let c = m.changes in
    after_begins net book here key number other function under old new m.stay c.0 c.1 i e
    (there_in net here key old new (Begins other function under) e m) m.is_ready c.2 c.3 c.4 c.5 c.6 c.7
moved net book here key number old new (Spawns message function under) i e m quiet =
    let c = m.changes in
    after_spawns net book here key number function c.1 under message c.2 old new m.stay c.0 i e
    (there_in net here key old new (Spawns message function under) e m) m.is_ready c.3 c.4 c.5 c.6
moved net book here key number old new (Shifts message under) i e m quiet =
    let c = m.changes in
    after_shifts net book here key number c.2 c.1 under message c.3 old new m.stay c.0 i e
    (there_in net here key old new (Shifts message under) e m) m.is_ready c.4 c.5 c.6 c.7
moved net book here key number old new (Opens n inside) i e m quiet =
    let c = m.changes in
    after_opens net book here key number n inside old new m.stay c.0 i e
    (there_in net here key old new (Opens n inside) e m) m.is_ready c.1 c.2 c.3 c.4
moved net book here key number old new (Closes n) i e m quiet =
    let c = m.changes in
    after_closes net book here key number n old new m.stay c.0 c.1 i e (there_in net here key old new (Closes n) e m) m.is_ready c.2 c.3 c.4
    (quiet n refl)
moved net book here key number old new (Ends under back) i e m quiet =
    let c = m.changes in
    after_ends net book here key number under old new m.stay m.stay.back back i e
    (there_in net here key old new (Ends under back) e m) m.is_ready c.0 refl c.2 c.3

same_world : (w : World) (net : Net) (book : Book) → w.net ≡ net → w.book ≡ book → IsSound net book → IsSound w.net w.book
same_world w net book e f i = subst (λ x. IsSound x w.book) (sym e) (subst (IsSound net) (sym f) i)

sound_steps : (setting : Setting) (w v : World) (here key : ℕ) → IsSound w.net w.book → Steps Quiet setting w here key v → IsSound v.net v.book
sound_steps setting w v here key i s =
    same_world v (net_after w.net here s.new s.effect s.number)
    (book_after w.book (w.book.belongs here key) here s.effect s.number) s.net_is s.book_is
    (moved w.net w.book here key s.number s.old s.new s.effect i s.place_is (stays_change setting here key s.old s.new s.effect s.moves)
    (λ n e. subst (Allows Quiet w here) e s.allowed))

received : (setting : Setting) (net : Net) (book : Book) (here key number : ℕ) (message : Message) (old new : places.Place) → IsSound net book
    → net.places here ≡ Some old → net.posts number ≡ Flying message → Receives setting here old message key new
    → IsSound (net_with net here new number) (book_with book (book.carries number) here key message)
received setting net book here key number (Spawn from to under function graph) old new i e flying r =
    let b = r.1 in
    let says = i.carried.says number (Spawn from to under function graph) flying in
    after_enters net book here key number (Spawn from to under function graph) old new
    (new_stay function b.arguments under None) i e flying b.free refl refl
    (subst (IsBegunBy (stays_of net) (unders_of book (book.carries number)) (new_stay function b.arguments under None)) (sym says.0)
    (refl, sym says.1))
    (record { stays = ap (λ (p : places.Place). p.stays) b.new_is; opened_is = ap (λ (p : places.Place). p.opened) b.new_is })
received setting net book here key number (Shift from to waiting under function graph) old new i e flying r =
    let b = r.1 in
    let says = i.carried.says number (Shift from to waiting under function graph) flying in
    let back : Option Origin = Some (record { place = from; key = waiting }) in
    after_enters net book here key number (Shift from to waiting under function graph) old new
    (new_stay function b.arguments under back) i e flying b.free refl refl
    (subst (IsBegunBy (stays_of net) (unders_of book (book.carries number)) (new_stay function b.arguments under back)) (sym says.2)
    (says.1, says.3, says.4, refl, says.5))
    (record { stays = ap (λ (p : places.Place). p.stays) b.new_is; opened_is = ap (λ (p : places.Place). p.opened) b.new_is })
received setting net book here key number (Back from to waiting graph) old new i e flying r =
    let b = r.2 in
    let says = i.carried.says number (Back from to waiting graph) flying in
    let at : (let x : Name = (to, waiting) in x) ≡ (here, key) = λ j. (r.0 j, sym r.1 j) in
    after_resumes net book here key number (Back from to waiting graph) old new b.stay _ says.0 i e flying
    (ap (λ o. stays_in o key) e ∙ b.waits.is_there) (says.2 ∙ ap (λ (x : Name). x ∷ says.0) at) refl refl refl
    (record { stays = ap (λ (p : places.Place). p.stays) b.new_is; opened_is = ap (λ (p : places.Place). p.opened) b.new_is })

sound_delivers : (setting : Setting) (w v : World) (number : ℕ) → IsSound w.net w.book → Delivers setting w number v → IsSound v.net v.book
sound_delivers setting w v number i d =
    same_world v (net_with w.net d.here d.new number) (book_with w.book (w.book.carries number) d.here d.key d.message) d.net_is d.book_is
    (received setting w.net w.book d.here d.key number d.message d.old d.new i d.place_is d.flying d.receives)

pub sound_happens : (setting : Setting) (w v : World) (event : Event) → IsSound w.net w.book → Happens Quiet setting w event v → IsSound v.net v.book
sound_happens setting w v event i (steps here key u s) = sound_steps setting w v here key i s
sound_happens setting w v event i (delivers number u d) = sound_delivers setting w v number i d
sound_happens setting w v event i (idle e h) = i

-- ---- the opening

abbrev pub first_stay : Setting → Stay
first_stay setting = new_stay setting.program.entry [] root None

abbrev pub no_stays : Stays
no_stays p k = None

main_row : (setting : Setting) (key k : ℕ) → nat_lt 0 setting.places ≡ true
    → stays_in (opening_places setting key 0) k ≡ with_pair no_stays 0 key (Some (first_stay setting)) 0 k
main_row setting key k t = rw t refl

other_row : (setting : Setting) (key p k : ℕ) (s t : Bool) → t ≡ false
    → stays_in (if s then Some (if t then first_place setting key else empty_place 0) else None) k ≡ None
other_row setting key p k true true e = absurd cc
other_row setting key p k true false e = refl
other_row setting key p k false t e = refl

pub opening_row : (setting : Setting) (key p k : ℕ) → 0 < setting.places
    → stays_in (opening_places setting key p) k ≡ with_pair no_stays 0 key (Some (first_stay setting)) p k
opening_row setting key p k lt = elim (cases_eq p 0) [
  | inl e ↦ subst (λ x. stays_in (opening_places setting key x) k ≡ with_pair no_stays 0 key (Some (first_stay setting)) x k) (sym e)
      (main_row setting key k (lt-ltb 0 setting.places lt))
  | inr apart ↦ other_row setting key p k (nat_lt p setting.places) (p == 0) (ne_eqb p 0 apart)
      ∙ sym (pair_other no_stays 0 key p k (Some (first_stay setting)) (λ both. apart both.0))
]

pub main_is : (setting : Setting) (key p k : ℕ) (s : Stay) → with_pair no_stays 0 key (Some (first_stay setting)) p k ≡ Some s
    → (p ≡ 0) × (k ≡ key) × (s ≡ first_stay setting)
main_is setting key p k s h = at_pair (λ o. o ≡ Some s → (p ≡ 0) × (k ≡ key) × (s ≡ first_stay setting)) no_stays 0 key p k
    (Some (first_stay setting)) (λ ep ek is. (ep, ek, sym (same_Some (first_stay setting) s is))) (λ other is. no_stay s is) h

no_finish : {A : Type 0} (setting : Setting) (s : Stay) (i n : ℕ) → s ≡ first_stay setting → nth s.finishes i ≡ Some n → A
no_finish setting s i n is h = no_stay n (sym (ap (λ (x : Stay). nth x.finishes i) is) ∙ h)

not_unused : {A : Type 0} (message : Message) → Unused ≡ Flying message → A
not_unused message e = absurd cc

below_one : (a : ℕ) → a < 1 → a ≡ 0
below_one a lt = omega arith

pub sound_opening : (setting : Setting) (key : ℕ) → 0 < setting.places → IsSound (opening setting key).net (opening setting key).book
sound_opening setting key lt =
    let net = (opening setting key).net in
    let main = with_pair no_stays 0 key (Some (first_stay setting)) in
    sound_as net (opening setting key).book main (opened_of net) (λ a. (0, key) ∷ []) (λ a. root)
    (fun_ext (λ p. fun_ext (λ k. opening_row setting key p k lt))) refl refl refl
    (record {
      numbered = λ p k i n s e h. no_finish setting s i n (main_is setting key p k s e).2 h;
      apart = λ p k l i j n s t e f h g. no_finish setting s i n (main_is setting key p k s e).2 h;
      enclosed = λ p k i n s e h. no_finish setting s i n (main_is setting key p k s e).2 h;
      root_outer = refl;
      root_opened = (let t = lt-ltb 0 setting.places lt in rw t (lit< tt));
      inherited = λ p k s e. inl (ap (λ (x : Stay). x.inherited) (main_is setting key p k s e).2);
      carried = λ number message f flying under. not_unused message flying;
    })
    (record {
      chained = λ a less. (first_stay setting, pair_same no_stays 0 key (Some (first_stay setting)), (refl, refl), (λ m. m), tt);
      owner = λ a p k less m. sym (below_one a less);
      known = λ p k s e. (let is = main_is setting key p k s e in (lit< tt, inl (λ j. (sym is.0 j, sym is.1 j))));
    })
    (record {
      begun_one = λ m message flying. not_unused message flying;
      says = λ m message flying. not_unused message flying;
      single = λ m n message other flying too same. not_unused message flying;
    })

-- ---- what a finish governs

-- a living activity's finish is used
pub lives_used : (w : World) (a : ℕ) → IsSound w.net w.book → Lives w a → IsUsed (stays_of w.net) w.net.posts (unders_of w.book a)
lives_used w a i (stays x rest lt chain) =
    let last = chain_inherits (stays_of w.net) (unders_of w.book a) x rest
    (subst (IsChain (stays_of w.net) (unders_of w.book a)) chain (i.linked.chained a lt)) in
    by_stay last.0 last.1 last.2 last.3 last.4
lives_used w a i (flies number message lt flying (spawns from to under function graph) carries) =
    by_post number (Spawn from to under function graph) flying
    ((let says = i.carried.says number (Spawn from to under function graph) flying in sym (ap (unders_of w.book) (sym carries) ∙ says.1)))

pub quiet_ended : (w : World) (f : Finish) (key : ℕ) (owner : Stay) → IsSound w.net w.book → stays_of w.net f.home key ≡ Some owner
    → nth owner.finishes 0 ≡ Some f.number → IsQuiet w.net f → HasEnded w f
quiet_ended w f key owner i there top quiet a governs lives =
    nothing_inside (stays_of w.net) (opened_of w.net) w.net.enclosing w.net.posts i.nested f key owner there top (unused_finish w.net f quiet)
    (unders_of w.book a) governs (inl (lives_used w a i lives))

pub allowed_ideal : (w : World) (here key : ℕ) (old new : places.Place) (effect : Effect) → IsSound w.net w.book → w.net.places here ≡ Some old
    → MovesStay here old key new effect → Allows Quiet w here effect → Allows Ideal w here effect
allowed_ideal w here key old new (Waits n) i e m allowed = tt
allowed_ideal w here key old new Works i e m allowed = tt
allowed_ideal w here key old new (Begins other function under) i e m allowed = tt
allowed_ideal w here key old new (Spawns message function under) i e m allowed = tt
allowed_ideal w here key old new (Shifts message under) i e m allowed = tt
allowed_ideal w here key old new (Opens n inside) i e m allowed = tt
allowed_ideal w here key old new (Closes n) i e m allowed =
    quiet_ended w (record { home = here; number = n }) key m.stay i (there_in w.net here key old new (Closes n) e m)
    (ap (λ xs. nth xs 0) m.changes.2) allowed
allowed_ideal w here key old new (Ends under back) i e m allowed = tt

pub happens_ideal : (setting : Setting) (w v : World) (event : Event) → IsSound w.net w.book → Happens Quiet setting w event v
    → Happens Ideal setting w event v
happens_ideal setting w v event i (steps here key u s) = steps here key u (record {
  old = s.old;
  new = s.new;
  effect = s.effect;
  number = s.number;
  place_is = s.place_is;
  moves = s.moves;
  allowed = allowed_ideal w here key s.old s.new s.effect i s.place_is (stays_change setting here key s.old s.new s.effect s.moves) s.allowed;
  unused = s.unused;
  net_is = s.net_is;
  book_is = s.book_is;
})
happens_ideal setting w v event i (delivers number u d) = delivers number u d
happens_ideal setting w v event i (idle e h) = idle e h

pub run_ideal : (setting : Setting) (P : World → Type 0) (u w : World) (events : List Event) → IsSound u.net u.book → Run Quiet setting P u events w
    → Run Ideal setting P u events w
run_ideal setting P u w events i (done x p) = done x p
run_ideal setting P u w events i (worlds.then x v y event rest p right h r) =
    worlds.then x v y event rest p right (happens_ideal setting x v event i h) (run_ideal setting P v y rest (sound_happens setting x v event i h) r)

pub run_sound : (setting : Setting) (P : World → Type 0) (u w : World) (events : List Event) → IsSound u.net u.book → Run Quiet setting P u events w
    → IsSound w.net w.book
run_sound setting P u w events i (done x p) = i
run_sound setting P u w events i (worlds.then x v y event rest p right h r) = run_sound setting P v y rest (sound_happens setting x v event i h) r

pub quiet_is_ideal : QuietIsIdeal
quiet_is_ideal setting key bounds events w lt r = run_ideal setting (WithinBounds bounds) (opening setting key) w events
    (sound_opening setting key lt) r

-- ---- and back

-- a stay that waits hasn't the finish as its innermost one, unless it inherited it
below_ended : (w : World) (f : Finish) (key : ℕ) (owner : Stay) (a : ℕ) (b : Name) (rest : List Name) (t : Stay) → IsSound w.net w.book
    → stays_of w.net f.home key ≡ Some owner → owner.away ≡ false → nth owner.finishes 0 ≡ Some f.number
    → stays_of w.net b.0 b.1 ≡ Some t → t.away ≡ true → innermost b.0 t ≡ f → (ns : List ℕ) → t.finishes ≡ ns → (t.inherited ≡ f → ⊥) → ⊥
below_ended w f key owner a b rest t i there ready top at away inner [] stack held = held (sym (ap (innermost_of b.0 t.inherited) stack) ∙ inner)
below_ended w f key owner a b rest t i there ready top at away inner (n ∷ ns) stack held =
    let is : (let g : Finish = record { home = b.0; number = n } in g) ≡ f = sym (ap (innermost_of b.0 t.inherited) stack) ∙ inner in
    let at_home : stays_of w.net f.home b.1 ≡ Some t = subst (λ (x : ℕ). stays_of w.net x b.1 ≡ Some t) (ap (λ (g : Finish). g.home) is) at in
    let top_is : nth t.finishes 0 ≡ Some f.number = ap (λ xs. nth xs 0) stack ∙ ap (λ (g : Finish). Some g.number) is in
    let key_is = (i.nested.apart f.home key b.1 0 0 f.number owner t there at_home top top_is).0 in
    let t_is : owner ≡ t = same_Some owner t (sym there ∙ ap (stays_of w.net f.home) key_is ∙ at_home) in
    let ready_too : t.away ≡ false = subst (λ (x : Stay). x.away ≡ false) t_is ready in
    absurd (let x = sym ready_too ∙ away in cc)

-- an activity with a stay lives
pub lives_by : (w : World) (a p k : ℕ) (xs : List Name) → chains_of w.book a ≡ xs → a < w.book.begun → IsAmong (p, k) xs → Lives w a
lives_by w a p k [] e lt m = absurd m
lives_by w a p k (x ∷ rest) e lt m = stays x rest lt e

-- where the owner works, the finish is its innermost, and all it governs has ended, nothing is under it
chain_ended : (w : World) (f : Finish) (key : ℕ) (owner : Stay) (a : ℕ) (xs : List Name) → IsSound w.net w.book
    → stays_of w.net f.home key ≡ Some owner → owner.away ≡ false → nth owner.finishes 0 ≡ Some f.number → (unders_of w.book a ≡ f → ⊥)
    → IsChain (stays_of w.net) (unders_of w.book a) xs → (p k : ℕ) (s : Stay) → IsAmong (p, k) xs → stays_of w.net p k ≡ Some s → s.inherited ≡ f → ⊥
chain_ended w f key owner a [] i there ready top apart c p k s m e same = m
chain_ended w f key owner a (x ∷ []) i there ready top apart c p k s (inl is) e same =
    let s_is : c.0 ≡ s = same_Some c.0 s (sym (subst (λ (y : Name). stays_of w.net y.0 y.1 ≡ Some c.0) is c.1) ∙ e) in
    apart (sym c.2.1 ∙ ap (λ (y : Stay). y.inherited) s_is ∙ same)
chain_ended w f key owner a (x ∷ []) i there ready top apart c p k s (inr m) e same = m
chain_ended w f key owner a (x ∷ b ∷ rest) i there ready top apart c p k s (inl is) e same =
    let s_is : c.0 ≡ s = same_Some c.0 s (sym (subst (λ (y : Name). stays_of w.net y.0 y.1 ≡ Some c.0) is c.1) ∙ e) in
    let inner : innermost b.0 c.2.0 ≡ f = sym c.2.4 ∙ ap (λ (y : Stay). y.inherited) s_is ∙ same in
    below_ended w f key owner a b rest c.2.0 i there ready top c.2.1 c.2.2 inner c.2.0.finishes refl
    (λ held. chain_ended w f key owner a (b ∷ rest) i there ready top apart c.4 b.0 b.1 c.2.0 (inl refl) c.2.1 held)
chain_ended w f key owner a (x ∷ b ∷ rest) i there ready top apart c p k s (inr m) e same =
    chain_ended w f key owner a (b ∷ rest) i there ready top apart c.4 p k s m e same

pub ended_quiet : (w : World) (f : Finish) → IsSound w.net w.book → IsAtItsEnd w f
    → ((number : ℕ) (message : Message) → w.net.posts number ≡ Flying message → ⊥) → HasEnded w f → IsQuiet w.net f
ended_quiet w f i at none ended = record {
  stays = λ p k place s place_is here same. (let there = ap (λ o. stays_in o k) place_is ∙ here in
      let known = i.linked.known p k s there in
      let a = w.book.belongs p k in
      let lives : Lives w a = lives_by w a p k (chains_of w.book a) refl known.0 known.1 in
      chain_ended w f at.key at.stay a (chains_of w.book a) i (ap (λ o. stays_in o at.key) at.place_is ∙ at.stay_is) at.is_ready
      (ap (λ xs. nth xs 0) at.innermost_is)
      (λ is. ended a (subst (IsWithin w.net.enclosing f) (sym is) itself) lives) (i.linked.chained a known.0) p k s known.1 there same);
  posts = λ number message flying under. none number message flying;
}

pub ended_is_quiet : EndedIsQuiet
ended_is_quiet setting key bounds events w f lt r at none ended =
    ended_quiet w f (run_sound setting (WithinBounds bounds) (opening setting key) w events (sound_opening setting key lt) r) at none ended
