-- Moves and deliveries of the machine are events of the counts of each finish.
use Rattle.std.proofs.Common.{◌≡◌, ℕ, ◌+◌, ◌-◌, ◌<◌, ◌==◌, ◌&&◌, Bool, true, false, List, [], ◌∷◌, Option, Some, None, inl, inr, if◌then◌else◌, refl, sym, ◌∙◌, ap, subst}
use Rattle.std.proofs.Math.Path.{fun_ext}
use Rattle.std.proofs.lemmas.Bool.{eq-eqb, ne_eqb}
use Rattle.x10_model.specs.Maps.{with_entry, with_pair}
use Rattle.x10_model.specs.Places as machine
use Rattle.x10_model.specs.declared.finish.Finish.{Finish}
use Rattle.x10_model.specs.Places.{Setting, root, Stay, Message, Spawn, Shift, Back, receiver, innermost, innermost_of, Effect, Waits, Works, Begins, Spawns, Shifts, Opens, Closes, Ends}
use Rattle.x10_model.specs.Moves.{resumed}
use Rattle.x10_model.specs.Deliveries.{first_of}
use Rattle.x10_model.specs.Totals.{Totals, Happening, Did, Took, totals_after, nothing, begins_one, ends_one, sends_to, receives_from}
use Rattle.x10_model.specs.Worlds.{same_finish, Post, Unused, Flying, Taken, Net, sent, posts_after, enclosing_after, net_after, opening}
use Rattle.x10_model.proofs.Maps.{at_key, off_key}
use Rattle.x10_finish.specs.Detection as detection
use Rattle.x10_finish.specs.Detection.{Counting, Event, IsAtWork, IsAble, AreAble, start, after, after_all, IsCounted}
use Rattle.x10_finish.specs.Stays.{IsWayBack, MovesStay}
use Rattle.x10_finish.specs.Nesting.{stays_in, Stays, stays_of}
use Rattle.x10_finish.specs.Telling.{HowMany, Inherits, IsBetween, FliesBetween, Tells, IsInRange, counted_as, GoesTo, FollowsOn, MovesAreCounted, DeliveriesAreCounted, OpeningIsCounted}
use Rattle.x10_finish.proofs.Stays.{stays_change}
use Rattle.x10_model.proofs.SameFinishes.{same_is, same_self}
use Rattle.x10_finish.proofs.Entries.{at_entry}
use Rattle.x10_finish.proofs.DetectionLemmas.{counted_at_start, counted_after}
use Rattle.x10_finish.proofs.NestedFinishes.{no_stay}
use Rattle.x10_finish.proofs.WorldParts.{map_entry, entry_self, stays_after}
use Rattle.x10_finish.proofs.Sound.{overwritten, there_in, free_after}
use Rattle.x10_finish.proofs.QuietClosings.{no_stays, first_stay, opening_row}
use Rattle.x10_finish.proofs.HowMany.{many_some, none_many}
use Rattle.x10_finish.proofs.CountsOfNet.{Live, Fly, not_unused, live_same, live_new_other, live_gone_other, live_new, live_gone, fly_other, fly_new, fly_taken_other, fly_taken}

-- ---- finishes

pub apart_by : (f g : Finish) → same_finish f g ≡ false → f ≡ g → ⊥
apart_by f g no_more e = absurd (let x = same_self f g e in cc)

-- ---- one event or none

-- what has to hold where the event is one of the finish
pub record Parts (places : ℕ) (f : Finish) (s : Counting) (event : Event) (here : ℕ) (changed : Totals) (net : Net) : Type 0 where
  pub able : IsAble places f.home s event
  pub tells : Tells (stays_of net) net.posts f (after f.home s event)
  pub here_is : (after f.home s event).totals here ≡ changed
  pub others : (p : ℕ) → (p ≡ here → ⊥) → (after f.home s event).totals p ≡ s.totals p

follows_by : (places : ℕ) (f : Finish) (s : Counting) (event : Event) (here : ℕ) (happening : Happening) (changed : Totals) (net : Net) (b : Bool)
    → totals_after f (s.totals here) happening ≡ (if b then changed else s.totals here) → (b ≡ true → Parts places f s event here changed net)
    → (b ≡ false → Tells (stays_of net) net.posts f s) → FollowsOn places f s (if b then event ∷ [] else []) here happening net
follows_by places f s event here happening changed net true is yes_more no_more =
    let p = yes_more refl in
    record { able = (p.able, tt); tells = p.tells; here_is = p.here_is ∙ sym is; others = p.others }
follows_by places f s event here happening changed net false is yes_more no_more =
    record { able = tt; tells = no_more refl; here_is = sym is; others = λ p apart. refl }

follows_none : (places : ℕ) (f : Finish) (s : Counting) (here : ℕ) (happening : Happening) (net : Net)
    → s.totals here ≡ totals_after f (s.totals here) happening → Tells (stays_of net) net.posts f s → FollowsOn places f s [] here happening net
follows_none places f s here happening net is tells = record { able = tt; tells = tells; here_is = is; others = λ p apart. refl }

-- counts tell of a net that is given by its stays
tells_of : (net : Net) (stays : Stays) (f : Finish) (s : Counting) (live : ℕ → ℕ) (flying : ℕ → ℕ → ℕ) → stays_of net ≡ stays
    → (λ p. (s.totals p).live) ≡ live → s.flying ≡ flying → Live stays f live → Fly net.posts f flying → Tells (stays_of net) net.posts f s
tells_of net stays f s live flying es el ef l y = record {
  live = λ p. subst (λ x. HowMany (Inherits x f p) (s.totals p).live) (sym es)
      (subst (λ (g : ℕ → ℕ). HowMany (Inherits stays f p) (g p)) (sym el) (l p));
  flying = λ p q. subst (λ (g : ℕ → ℕ → ℕ). HowMany (FliesBetween net.posts f p q) (g p q)) (sym ef) (y p q);
}

-- how many live where the totals of one place change
abbrev lives : (ℕ → Totals) → ℕ → ℕ
lives totals q = (totals q).live

live_at : (s : Counting) (p : ℕ) (t : Totals) → lives (with_entry s.totals p t) ≡ with_entry (lives s.totals) p t.live
live_at s p t = map_entry (λ (u : Totals). u.live) s.totals p t (λ q. (s.totals q).live) (λ j. refl)

live_kept : (s : Counting) (p : ℕ) (t : Totals) → t.live ≡ (s.totals p).live → lives (with_entry s.totals p t) ≡ lives s.totals
live_kept s p t e = live_at s p t ∙ entry_self (λ q. (s.totals q).live) p t.live (sym e)

-- where a stay works, something under its innermost finish can act
works_under : (stays : Stays) (posts : ℕ → Post) (f : Finish) (s : Counting) (here key : ℕ) (stay : Stay) (ns : List ℕ) → Tells stays posts f s
    → stays here key ≡ Some stay → stay.finishes ≡ ns → innermost_of here stay.inherited ns ≡ f → IsAtWork f.home s here
works_under stays posts f s here key stay [] tells there stack is =
    inl (many_some (Inherits stays f here) (s.totals here).live key (tells.live here) (stay, there, is))
works_under stays posts f s here key stay (n ∷ ns) tells there stack is = inr (ap (λ (x : Finish). x.home) is)

-- ---- moves

-- a move that sends nothing and begins nothing
counted_works : (net : Net) (f : Finish) (s : Counting) (here key : ℕ) (old new : machine.Place) (stay t : Stay) → Tells (stays_of net) net.posts f s
    → net.places here ≡ Some old → stays_of net here key ≡ Some stay → t.inherited ≡ stay.inherited → new.stays ≡ with_entry old.stays key (Some t)
    → (enclosing : Finish → Option Finish) → (let v : Net = record {
      places = with_entry net.places here (Some new);
      posts = net.posts;
      enclosing = enclosing;
    } in Tells (stays_of v) v.posts f s)
counted_works net f s here key old new stay t tells e there same stays enclosing =
    tells_of (record { places = with_entry net.places here (Some new); posts = net.posts; enclosing = enclosing })
    (with_pair (stays_of net) here key (Some t)) f s (λ q. (s.totals q).live) s.flying
    (stays_after net here key old new (Some t) e stays) refl refl
    (live_same (stays_of net) f here key stay t (λ q. (s.totals q).live) there same tells.live) tells.flying

-- a move that puts a message out
counted_out : (places : ℕ) (net : Net) (f g : Finish) (s : Counting) (here key number to : ℕ) (old new : machine.Place) (stay t : Stay)
    (message : Message) (happening : Happening) → Tells (stays_of net) net.posts f s → net.places here ≡ Some old → stays_of net here key ≡ Some stay
    → t.inherited ≡ stay.inherited → new.stays ≡ with_entry old.stays key (Some t) → net.posts number ≡ Unused → here < places → to < places
    → g ≡ innermost here stay → ((f : Finish) → g ≡ f → IsBetween f here to message)
    → ((f : Finish) (p q : ℕ) → IsBetween f p q message → (p ≡ here) × (q ≡ to) × (g ≡ f))
    → totals_after f (s.totals here) happening ≡ (if same_finish f g then sends_to (s.totals here) to else s.totals here)
    → FollowsOn places f s (if same_finish f g then detection.PutsOut here to ∷ [] else []) here happening
    (record { places = with_entry net.places here (Some new); posts = with_entry net.posts number (Flying message); enclosing = net.enclosing })
counted_out places net f g s here key number to old new stay t message happening tells e there same stays unused lh lt inner is one totals =
    let v : Net = record {
      places = with_entry net.places here (Some new);
      posts = with_entry net.posts number (Flying message);
      enclosing = net.enclosing;
    } in
    let stays_now = stays_after net here key old new (Some t) e stays in
    let live = live_same (stays_of net) f here key stay t (λ q. (s.totals q).live) there same tells.live in
    follows_by places f s (detection.PutsOut here to) here happening (sends_to (s.totals here) to) v (same_finish f g) totals
    (λ b. (let fg = same_is f g b in record {
      able = (lh, lt, works_under (stays_of net) net.posts f s here key stay stay.finishes tells there refl (sym inner ∙ sym fg));
      tells = tells_of v (with_pair (stays_of net) here key (Some t)) f (after f.home s (detection.PutsOut here to)) (λ q. (s.totals q).live)
          (with_pair s.flying here to (s.flying here to + 1)) stays_now (live_kept s here (sends_to (s.totals here) to) refl) refl live
          (fly_new net.posts f number here to message s.flying unused (is f (sym fg)) (λ p q h. (let o = one f p q h in (o.0, o.1))) tells.flying);
      here_is = at_key s.totals here (sends_to (s.totals here) to);
      others = λ p apart. off_key s.totals here p (sends_to (s.totals here) to) apart;
    }))
    (λ b. tells_of v (with_pair (stays_of net) here key (Some t)) f s (λ q. (s.totals q).live) s.flying stays_now refl refl live
    (fly_other net.posts f number message s.flying unused (λ p q h. apart_by f g b (sym (one f p q h).2)) tells.flying))

-- a move that begins an activity here
pub counted_begins : (places : ℕ) (net : Net) (f g : Finish) (s : Counting) (here key other : ℕ) (old new : machine.Place) (stay t u : Stay)
    (happening : Happening) → Tells (stays_of net) net.posts f s → net.places here ≡ Some old → stays_of net here key ≡ Some stay
    → t.inherited ≡ stay.inherited
    → old.stays other ≡ None → new.stays ≡ with_entry (with_entry old.stays key (Some t)) other (Some u) → u.inherited ≡ g → g ≡ innermost here stay
    → totals_after f (s.totals here) happening ≡ (if same_finish f g then begins_one (s.totals here) else s.totals here)
    → FollowsOn places f s (if same_finish f g then detection.Begins here ∷ [] else []) here happening
    (record { places = with_entry net.places here (Some new); posts = net.posts; enclosing = net.enclosing })
counted_begins places net f g s here key other old new stay t u happening tells e there same free stays under inner totals =
    let v : Net = record { places = with_entry net.places here (Some new); posts = net.posts; enclosing = net.enclosing } in
    let mid = record old { stays = with_entry old.stays key (Some t) } in
    let between : Net = record net { places = with_entry net.places here (Some mid) } in
    let stays1 = with_pair (stays_of net) here key (Some t) in
    let first : stays_of between ≡ stays1 = stays_after net here key old mid (Some t) e refl in
    let stays_now : stays_of v ≡ with_pair stays1 here other (Some u) =
    ap (λ (g : ℕ → Option machine.Place). λ p. stays_in (g p)) (sym (overwritten net.places here (Some mid) (Some new)))
    ∙ stays_after between here other mid new (Some u) (at_key net.places here (Some mid)) stays
    ∙ ap (λ x. with_pair x here other (Some u)) first in
    let open_key = free_after (stays_of net) here key other stay t there (ap (λ o. stays_in o other) e ∙ free) in
    let live = live_same (stays_of net) f here key stay t (λ q. (s.totals q).live) there same tells.live in
    follows_by places f s (detection.Begins here) here happening (begins_one (s.totals here)) v (same_finish f g) totals
    (λ b. (let fg = same_is f g b in record {
      able = works_under (stays_of net) net.posts f s here key stay stay.finishes tells there refl (sym inner ∙ sym fg);
      tells = tells_of v (with_pair stays1 here other (Some u)) f (after f.home s (detection.Begins here))
          (with_entry (λ q. (s.totals q).live) here ((s.totals here).live + 1)) s.flying stays_now (live_at s here (begins_one (s.totals here))) refl
          (live_new stays1 f here other u (λ q. (s.totals q).live) open_key (under ∙ sym fg) live) tells.flying;
      here_is = at_key s.totals here (begins_one (s.totals here));
      others = λ p apart. off_key s.totals here p (begins_one (s.totals here)) apart;
    }))
    (λ b. tells_of v (with_pair stays1 here other (Some u)) f s (λ q. (s.totals q).live) s.flying stays_now refl refl
    (live_new_other stays1 f here other u (λ q. (s.totals q).live) open_key (λ is. apart_by f g b (sym is ∙ under)) live) tells.flying)

-- a move that ends a stay; what it sends is under no finish
counted_ends : (places : ℕ) (net : Net) (f g : Finish) (s : Counting) (here key report : ℕ) (old new : machine.Place) (stay : Stay)
    (happening : Happening) (posts : ℕ → Post) → Tells (stays_of net) net.posts f s → net.places here ≡ Some old → stays_of net here key ≡ Some stay
    → new.stays ≡ with_entry old.stays key None
    → g ≡ stay.inherited → s.told report ≡ None → Fly posts f s.flying
    → totals_after f (s.totals here) happening ≡ (if same_finish f g then ends_one (s.totals here) else s.totals here)
    → FollowsOn places f s (if same_finish f g then detection.Ends here report ∷ [] else []) here happening
    (record { places = with_entry net.places here (Some new); posts = posts; enclosing = net.enclosing })
counted_ends places net f g s here key report old new stay happening posts tells e there stays under unused fly totals =
    let v : Net = record { places = with_entry net.places here (Some new); posts = posts; enclosing = net.enclosing } in
    let stays_now = stays_after net here key old new None e stays in
    follows_by places f s (detection.Ends here report) here happening (ends_one (s.totals here)) v (same_finish f g) totals
    (λ b. (let fg = same_is f g b in record {
      able = (many_some (Inherits (stays_of net) f here) (s.totals here).live key (tells.live here) (stay, there, sym under ∙ sym fg), unused);
      tells = tells_of v (with_pair (stays_of net) here key None) f (after f.home s (detection.Ends here report))
          (with_entry (λ q. (s.totals q).live) here ((s.totals here).live - 1)) s.flying stays_now (live_at s here (ends_one (s.totals here))) refl
          (live_gone (stays_of net) f here key stay (λ q. (s.totals q).live) there (sym under ∙ sym fg) tells.live) fly;
      here_is = at_key s.totals here (ends_one (s.totals here));
      others = λ p apart. off_key s.totals here p (ends_one (s.totals here)) apart;
    }))
    (λ b. tells_of v (with_pair (stays_of net) here key None) f s (λ q. (s.totals q).live) s.flying stays_now refl refl
    (live_gone_other (stays_of net) f here key stay (λ q. (s.totals q).live) there (λ is. apart_by f g b (sym is ∙ sym under)) tells.live) fly)

-- a result that goes back is under no finish
fly_back : (posts : ℕ → Post) (f : Finish) (number here : ℕ) (origin : Option machine.Origin) (back : Option Message) (flying : ℕ → ℕ → ℕ)
    → posts number ≡ Unused → IsWayBack here origin back → Fly posts f flying → Fly (posts_after posts number back) f flying
fly_back posts f number here None back flying unused way fly = subst (λ b. Fly (posts_after posts number b) f flying) (sym way) fly
fly_back posts f number here (Some origin) back flying unused way fly =
    subst (λ b. Fly (posts_after posts number b) f flying) (sym way.1)
    (fly_other posts f number (Back here origin.place origin.key way.0) flying unused (λ p q h. h) fly)

moved_counted : (places : ℕ) (net : Net) (f : Finish) (s : Counting) (here key number report : ℕ) (old new : machine.Place) (effect : Effect)
    → Tells (stays_of net) net.posts f s → net.places here ≡ Some old → MovesStay here old key new effect → net.posts number ≡ Unused → here < places
    → GoesTo places (sent effect) → s.told report ≡ None → FollowsOn places f s (counted_as f here report effect) here (Did effect)
    (net_after net here new effect number)
moved_counted places net f s here key number report old new (Waits n) tells e m unused lh goes told =
    follows_none places f s here (Did (Waits n)) (net_after net here new (Waits n) number) refl
    (subst (λ (x : ℕ → Option machine.Place). Tells (λ p. stays_in (x p)) net.posts f s)
    (sym (entry_self net.places here (Some new) (e ∙ ap Some (sym m.changes)))) tells)
moved_counted places net f s here key number report old new Works tells e m unused lh goes told =
    (let c = m.changes in follows_none places f s here (Did Works) (net_after net here new Works number) refl
    (counted_works net f s here key old new m.stay c.0 tells e (there_in net here key old new Works e m) c.1.inherited c.2.stays net.enclosing))
moved_counted places net f s here key number report old new (Opens n inside) tells e m unused lh goes told =
    (let c = m.changes in follows_none places f s here (Did (Opens n inside)) (net_after net here new (Opens n inside) number) refl
    (counted_works net f s here key old new m.stay c.0 tells e (there_in net here key old new (Opens n inside) e m) c.1.inherited c.4.stays
    (enclosing_after net.enclosing here (Opens n inside))))
moved_counted places net f s here key number report old new (Closes n) tells e m unused lh goes told =
    (let c = m.changes in follows_none places f s here (Did (Closes n)) (net_after net here new (Closes n) number) refl
    (counted_works net f s here key old new m.stay c.0 tells e (there_in net here key old new (Closes n) e m) c.3.inherited c.4.stays net.enclosing))
moved_counted places net f s here key number report old new (Begins other function under) tells e m unused lh goes told =
    (let c = m.changes in counted_begins places net f under s here key other old new m.stay c.0 c.1 (Did (Begins other function under)) tells e
    (there_in net here key old new (Begins other function under) e m) c.2.inherited c.5 c.6 c.3.inherited c.4 refl)
moved_counted places net f s here key number report old new (Spawns message function under) tells e m unused lh goes told =
    let c = m.changes in
    let x = Spawn here c.1 under function c.2 in
    subst (λ y. FollowsOn places f s (counted_as f here report (Spawns y function under)) here (Did (Spawns y function under))
    (net_after net here new (Spawns y function under) number)) (sym c.5)
    (counted_out places net f under s here key number c.1 old new m.stay c.0 x (Did (Spawns x function under)) tells e
    (there_in net here key old new (Spawns message function under) e m) c.3.inherited c.6.stays unused lh
    (subst (λ y. receiver y < places) c.5 goes) c.4
    (λ g is. (refl, refl, is)) (λ g p q h. (sym h.0, sym h.1, h.2)) refl)
moved_counted places net f s here key number report old new (Shifts message under) tells e m unused lh goes told =
    let c = m.changes in
    let x = Shift here c.1 key under c.2 c.3 in
    subst (λ y. FollowsOn places f s (counted_as f here report (Shifts y under)) here (Did (Shifts y under))
    (net_after net here new (Shifts y under) number)) (sym c.6)
    (counted_out places net f under s here key number c.1 old new m.stay c.0 x (Did (Shifts x under)) tells e
    (there_in net here key old new (Shifts message under) e m) c.4.inherited c.7.stays unused lh (subst (λ y. receiver y < places) c.6 goes) c.5
    (λ g is. (refl, refl, is)) (λ g p q h. (sym h.0, sym h.1, h.2)) refl)
moved_counted places net f s here key number report old new (Ends under back) tells e m unused lh goes told =
    let c = m.changes in
    counted_ends places net f under s here key report old new m.stay (Did (Ends under back)) (posts_after net.posts number back) tells e
    (there_in net here key old new (Ends under back) e m) c.3.stays c.1 told
    (fly_back net.posts f number here m.stay.back back s.flying unused c.2 tells.flying) refl

pub moves_are_counted : MovesAreCounted
moves_are_counted setting places net f s here key number report old new effect tells e moves unused lh goes told =
    moved_counted places net f s here key number report old new effect tells e
    (stays_change setting here key old new effect moves) unused lh goes told

-- ---- deliveries

-- an activity arrives under a finish
counted_arrives : (places : ℕ) (net : Net) (f g : Finish) (s : Counting) (here key number from : ℕ) (old new : machine.Place) (u : Stay)
    (message : Message) (happening : Happening) → Tells (stays_of net) net.posts f s → IsInRange places (stays_of net) net.posts
    → net.places here ≡ Some old → net.posts number ≡ Flying message
    → old.stays key ≡ None → u.inherited ≡ g → new.stays ≡ with_entry old.stays key (Some u) → ((f : Finish) → g ≡ f → IsBetween f from here message)
    → ((f : Finish) (p q : ℕ) → IsBetween f p q message → (p ≡ from) × (q ≡ here) × (g ≡ f))
    → totals_after f (s.totals here) happening ≡ (if same_finish f g then receives_from (s.totals here) from else s.totals here)
    → FollowsOn places f s (if same_finish f g then detection.Arrives from here ∷ [] else []) here happening
    (record { places = with_entry net.places here (Some new); posts = with_entry net.posts number Taken; enclosing = net.enclosing })
counted_arrives places net f g s here key number from old new u message happening tells range e flying free under stays is one totals =
    let v : Net = record { places = with_entry net.places here (Some new); posts = with_entry net.posts number Taken; enclosing = net.enclosing } in
    let stays_now = stays_after net here key old new (Some u) e stays in
    let open_key = ap (λ o. stays_in o key) e ∙ free in
    follows_by places f s (detection.Arrives from here) here happening (receives_from (s.totals here) from) v (same_finish f g) totals
    (λ b. (let fg = same_is f g b in
    let goes = is f (sym fg) in
    let in_range = range.posts_at number from here message f flying goes in
    record {
      able = (
        in_range.0,
        in_range.1,
        many_some (FliesBetween net.posts f from here) (s.flying from here) number (tells.flying from here)
            (message, flying, goes),
      );
      tells = tells_of v (with_pair (stays_of net) here key (Some u)) f (after f.home s (detection.Arrives from here))
          (with_entry (λ q. (s.totals q).live) here ((s.totals here).live + 1)) (with_pair s.flying from here (s.flying from here - 1)) stays_now
          (live_at s here (receives_from (s.totals here) from)) refl
          (live_new (stays_of net) f here key u (λ q. (s.totals q).live) open_key (under ∙ sym fg) tells.live)
          (fly_taken net.posts f number from here message s.flying flying goes (λ p q h. (let o = one f p q h in (o.0, o.1))) tells.flying);
      here_is = at_key s.totals here (receives_from (s.totals here) from);
      others = λ p apart. off_key s.totals here p (receives_from (s.totals here) from) apart;
    }))
    (λ b. tells_of v (with_pair (stays_of net) here key (Some u)) f s (λ q. (s.totals q).live) s.flying stays_now refl refl
    (live_new_other (stays_of net) f here key u (λ q. (s.totals q).live) open_key (λ same. apart_by f g b (sym same ∙ under)) tells.live)
    (fly_taken_other net.posts f number message s.flying flying (λ p q h. apart_by f g b (sym (one f p q h).2)) tells.flying))

pub deliveries_are_counted : DeliveriesAreCounted
deliveries_are_counted setting places net f s here key number old new (Spawn from to under function graph) tells range e flying r =
    let b = r.1 in
    subst (λ (x : ℕ). FollowsOn places f s (if same_finish f under then detection.Arrives from x ∷ [] else []) here
    (Took (Spawn from to under function graph)) (record {
      places = with_entry net.places here (Some new);
      posts = with_entry net.posts number Taken;
      enclosing = net.enclosing;
    })) (sym r.0)
    (counted_arrives places net f under s here key number from old new _ (Spawn from to under function graph)
    (Took (Spawn from to under function graph)) tells range e flying b.free refl (ap (λ (p : machine.Place). p.stays) b.new_is)
    (λ g is. (refl, r.0, is)) (λ g p q h. (sym h.0, sym h.1 ∙ r.0, h.2)) refl)
deliveries_are_counted setting places net f s here key number old new (Shift from to waiting under function graph) tells range e flying r =
    let b = r.1 in
    subst (λ (x : ℕ). FollowsOn places f s (if same_finish f under then detection.Arrives from x ∷ [] else []) here
    (Took (Shift from to waiting under function graph)) (record
    { places = with_entry net.places here (Some new); posts = with_entry net.posts number Taken; enclosing = net.enclosing })) (sym r.0)
    (counted_arrives places net f under s here key number from old new _ (Shift from to waiting under function graph)
    (Took (Shift from to waiting under function graph)) tells range e flying b.free refl (ap (λ (p : machine.Place). p.stays) b.new_is)
    (λ g is. (refl, r.0, is)) (λ g p q h. (sym h.0, sym h.1 ∙ r.0, h.2)) refl)
deliveries_are_counted setting places net f s here key number old new (Back from to waiting graph) tells range e flying r =
    let b = r.2 in
    let v : Net = record { places = with_entry net.places here (Some new); posts = with_entry net.posts number Taken; enclosing = net.enclosing } in
    let t = record b.stay { top = resumed b.stay.top b.call.a (first_of b.result); away = false } in
    let there = ap (λ o. stays_in o key) e ∙ b.waits.is_there in
    follows_none places f s here (Took (Back from to waiting graph)) v refl
    (tells_of v (with_pair (stays_of net) here key (Some t)) f s (λ q. (s.totals q).live) s.flying
    (stays_after net here key old new (Some t) e (ap (λ (p : machine.Place). p.stays) b.new_is)) refl refl
    (live_same (stays_of net) f here key b.stay t (λ q. (s.totals q).live) there refl tells.live)
    (fly_taken_other net.posts f number (Back from to waiting graph) s.flying flying (λ p q h. h) tells.flying))

-- ---- the opening

no_one : (f : Finish) → Live no_stays f (λ p. 0)
no_one f p = none_many (Inherits no_stays f p) (λ k i. no_stay i.0 i.1)

none_flies : (f : Finish) → Fly (λ n. Unused) f (λ p q. 0)
none_flies f p q = none_many (FliesBetween (λ n. Unused) f p q) (λ m b. not_unused b.0 b.1)

opening_tells : (setting : Setting) (key : ℕ) (f : Finish) (b : Bool) → 0 < setting.places → same_finish f root ≡ b
    → Tells (stays_of (opening setting key).net) (opening setting key).net.posts f (if b then after f.home start (detection.Begins 0) else start)
opening_tells setting key f true lt b =
    tells_of (opening setting key).net (with_pair no_stays 0 key (Some (first_stay setting))) f (after f.home start (detection.Begins 0))
    (with_entry (λ p. 0) 0 1) (λ p q. 0) (fun_ext (λ p. fun_ext (λ k. opening_row setting key p k lt)))
    (live_at start 0 (begins_one nothing)) refl (live_new no_stays f 0 key (first_stay setting) (λ p. 0) refl (sym (same_is f root b)) (no_one f))
    (none_flies f)
opening_tells setting key f false lt b =
    tells_of (opening setting key).net (with_pair no_stays 0 key (Some (first_stay setting))) f start (λ p. 0) (λ p q. 0)
    (fun_ext (λ p. fun_ext (λ k. opening_row setting key p k lt)))
    refl refl (live_new_other no_stays f 0 key (first_stay setting) (λ p. 0) refl (λ is. apart_by f root b (sym is)) (no_one f)) (none_flies f)

opening_counted : (places : ℕ) (f : Finish) (b : Bool) → same_finish f root ≡ b
    → IsCounted places f.home (if b then after f.home start (detection.Begins 0) else start)
opening_counted places f true b = counted_after places f.home start (detection.Begins 0) (counted_at_start places f.home)
    (inr (ap (λ (x : Finish). x.home) (sym (same_is f root b))))
opening_counted places f false b = counted_at_start places f.home

opening_totals : (f : Finish) (p : ℕ) (b : Bool) → (if b then after f.home start (detection.Begins 0) else start).totals p
    ≡ (if b && (p == 0) then record nothing { live = 1 } else nothing)
opening_totals f p true = at_entry (λ t. t ≡ (if p == 0 then record nothing { live = 1 } else nothing)) (λ q. nothing) 0 p (begins_one nothing)
    (λ same. (let t = eq-eqb p 0 same in rw t refl)) (λ apart. (let t = ne_eqb p 0 apart in rw t refl))
opening_totals f p false = refl

pub opening_is_counted : OpeningIsCounted
opening_is_counted setting key f lt = (
  opening_tells setting key f (same_finish f root) lt refl,
  opening_counted setting.places f (same_finish f root) refl,
  λ p. opening_totals f p (same_finish f root),
)
