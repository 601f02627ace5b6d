-- One place by itself: as many live under each finish as stays inherited it, whatever its moves and the messages it takes in.
use Rattle.std.proofs.Common.{◌≡◌, ℕ, ◌+◌, ◌-◌, ◌<◌, Bool, true, false, if◌then◌else◌, Option, Some, None, refl, sym, ◌∙◌, ap, subst}
use Rattle.x10_model.specs.Maps.{with_entry}
use Rattle.x10_model.specs.Copies.{Snapshot}
use Rattle.x10_model.specs.Places as places
use Rattle.x10_model.specs.declared.finish.Finish.{Finish}
use Rattle.x10_model.specs.Places.{Setting, Origin, Stay, Message, Spawn, Shift, Back, receiver, Effect, Waits, Works, Begins, Spawns, Shifts, Opens, Closes, Ends}
use Rattle.x10_model.specs.Deliveries as deliveries
use Rattle.x10_model.specs.Deliveries.{Resumes, Receives}
use Rattle.x10_model.specs.Totals.{Totals, Did, Took, totals_after, begins_one, ends_one, sends_to, receives_from}
use Rattle.x10_model.specs.Worlds.{same_finish}
use Rattle.x10_finish.specs.Stays.{MovesStay}
use Rattle.x10_finish.specs.Telling.{HowMany}
use Rattle.x10_finish.specs.Watching.{closes, InheritsAt, IsTallied}
use Rattle.x10_model.proofs.SameFinishes.{same_is}
use Rattle.x10_finish.proofs.NestedFinishes.{no_stay}
use Rattle.x10_finish.proofs.Sound.{free_after}
use Rattle.x10_finish.proofs.HowMany.{none_many, many_some}
use Rattle.x10_finish.proofs.CountsOfNet.{live_same, live_new, live_new_other, live_gone, live_gone_other}
use Rattle.x10_finish.proofs.Counted.{apart_by}

-- ---- one stay changes

goes_on : (stays : ℕ → Option Stay) (f : Finish) (key n : ℕ) (s t : Stay) → stays key ≡ Some s → t.inherited ≡ s.inherited
    → HowMany (InheritsAt stays f) n → HowMany (InheritsAt (with_entry stays key (Some t)) f) n
goes_on stays f key n s t there same h = live_same (λ p. stays) f 0 key s t (λ p. n) there same (λ p. h) 0

begins : (stays : ℕ → Option Stay) (f g : Finish) (key n : ℕ) (u : Stay) (b : Bool) → stays key ≡ None → u.inherited ≡ g → same_finish f g ≡ b
    → HowMany (InheritsAt stays f) n → HowMany (InheritsAt (with_entry stays key (Some u)) f) (if b then n + 1 else n)
begins stays f g key n u true free is e h = live_new (λ p. stays) f 0 key u (λ p. n) free (is ∙ sym (same_is f g e)) (λ p. h) 0
begins stays f g key n u false free is e h = live_new_other (λ p. stays) f 0 key u (λ p. n) free (λ same. apart_by f g e (sym same ∙ is)) (λ p. h) 0

ends : (stays : ℕ → Option Stay) (f g : Finish) (key n : ℕ) (s : Stay) (b : Bool) → stays key ≡ Some s → s.inherited ≡ g → same_finish f g ≡ b
    → HowMany (InheritsAt stays f) n → HowMany (InheritsAt (with_entry stays key None) f) (if b then n - 1 else n)
ends stays f g key n s true there is e h = live_gone (λ p. stays) f 0 key s (λ p. n) there (is ∙ sym (same_is f g e)) (λ p. h) 0
ends stays f g key n s false there is e h = live_gone_other (λ p. stays) f 0 key s (λ p. n) there (λ same. apart_by f g e (sym same ∙ is)) (λ p. h) 0

-- ---- moves

live_if : (b : Bool) (x y : Totals) → (if b then x.live else y.live) ≡ (if b then x else y).live
live_if true x y = refl
live_if false x y = refl

same_if : (b : Bool) (n : ℕ) → n ≡ (if b then n else n)
same_if true n = refl
same_if false n = refl

-- how many there are, at stays and with a number that are the same
many_at : (stays stays' : ℕ → Option Stay) (f : Finish) (n n' : ℕ) → stays' ≡ stays → n ≡ n' → HowMany (InheritsAt stays f) n
    → HowMany (InheritsAt stays' f) n'
many_at stays stays' f n n' e same h = subst (λ x. HowMany (InheritsAt x f) n') (sym e) (subst (HowMany (InheritsAt stays f)) same h)

moved_live : (f : Finish) (t : Totals) (here key : ℕ) (old new : places.Place) (effect : Effect) → HowMany (InheritsAt old.stays f) t.live
    → (m : MovesStay here old key new effect) → HowMany (InheritsAt new.stays f) (totals_after f t (Did effect)).live
moved_live f t here key old new (Waits n) h m = many_at old.stays new.stays f t.live t.live (ap (λ (p : places.Place). p.stays) m.changes) refl h
moved_live f t here key old new Works h m =
    (let c = m.changes in many_at (with_entry old.stays key (Some c.0)) new.stays f t.live t.live c.2.stays refl
    (goes_on old.stays f key t.live m.stay c.0 m.is_there c.1.inherited h))
moved_live f t here key old new (Opens n inside) h m =
    (let c = m.changes in many_at (with_entry old.stays key (Some c.0)) new.stays f t.live t.live c.4.stays refl
    (goes_on old.stays f key t.live m.stay c.0 m.is_there c.1.inherited h))
moved_live f t here key old new (Closes n) h m =
    (let c = m.changes in many_at (with_entry old.stays key (Some c.0)) new.stays f t.live t.live c.4.stays refl
    (goes_on old.stays f key t.live m.stay c.0 m.is_there c.3.inherited h))
moved_live f t here key old new (Spawns message function under) h m =
    let c = m.changes in
    many_at (with_entry old.stays key (Some c.0)) new.stays f t.live (totals_after f t (Did (Spawns message function under))).live c.6.stays
    (same_if (same_finish f under) t.live ∙ live_if (same_finish f under) (sends_to t (receiver message)) t)
    (goes_on old.stays f key t.live m.stay c.0 m.is_there c.3.inherited h)
moved_live f t here key old new (Shifts message under) h m =
    let c = m.changes in
    many_at (with_entry old.stays key (Some c.0)) new.stays f t.live (totals_after f t (Did (Shifts message under))).live c.7.stays
    (same_if (same_finish f under) t.live ∙ live_if (same_finish f under) (sends_to t (receiver message)) t)
    (goes_on old.stays f key t.live m.stay c.0 m.is_there c.4.inherited h)
moved_live f t here key old new (Begins other function under) h m =
    let c = m.changes in
    let first = with_entry old.stays key (Some c.0) in
    many_at (with_entry first other (Some c.1)) new.stays f (if same_finish f under then t.live + 1 else t.live)
    (totals_after f t (Did (Begins other function under))).live c.6 (live_if (same_finish f under) (begins_one t) t)
    (begins first f under other t.live c.1 (same_finish f under)
    (free_after (λ p. old.stays) 0 key other m.stay c.0 m.is_there c.5) c.3.inherited refl
    (goes_on old.stays f key t.live m.stay c.0 m.is_there c.2.inherited h))
moved_live f t here key old new (Ends under back) h m =
    let c = m.changes in
    many_at (with_entry old.stays key None) new.stays f (if same_finish f under then t.live - 1 else t.live)
    (totals_after f t (Did (Ends under back))).live c.3.stays (live_if (same_finish f under) (ends_one t) t)
    (ends old.stays f under key t.live m.stay (same_finish f under) m.is_there (sym c.1) refl h)

-- a move that closes a finish ends no stay under it
closes_live : (f : Finish) (t : Totals) (here : ℕ) (effect : Effect) → closes here effect f ≡ true → (totals_after f t (Did effect)).live ≡ t.live
closes_live f t here (Closes n) e = refl
closes_live f t here (Waits n) e = absurd cc
closes_live f t here Works e = absurd cc
closes_live f t here (Begins other function under) e = absurd cc
closes_live f t here (Spawns message function under) e = absurd cc
closes_live f t here (Shifts message under) e = absurd cc
closes_live f t here (Opens n inside) e = absurd cc
closes_live f t here (Ends under back) e = absurd cc

tallied_if : (f : Finish) (t t' : Totals) (here key : ℕ) (old new : places.Place) (effect : Effect) (b : Bool) → closes here effect f ≡ b
    → HowMany (InheritsAt old.stays f) t.live → MovesStay here old key new effect
    → (b ≡ false → t' ≡ totals_after f t (Did effect)) → (b ≡ true → (t.live ≡ 0) × (t'.live ≡ 0)) → HowMany (InheritsAt new.stays f) t'.live
tallied_if f t t' here key old new effect false e h m counts closed =
    subst (λ (x : Totals). HowMany (InheritsAt new.stays f) x.live) (sym (counts refl)) (moved_live f t here key old new effect h m)
tallied_if f t t' here key old new effect true e h m counts closed =
    (let none = closed refl in subst (HowMany (InheritsAt new.stays f)) (closes_live f t here effect e ∙ none.0 ∙ sym none.1)
    (moved_live f t here key old new effect h m))

-- after a move, where the totals of each finish change as they do by its effect; those of a finish that it closes are none
-- before and afterwards
pub moved_tallied : (here key : ℕ) (old new : places.Place) (effect : Effect) (totals totals' : Finish → Totals) → IsTallied old.stays totals
    → MovesStay here old key new effect
    → ((f : Finish) → closes here effect f ≡ false → totals' f ≡ totals_after f (totals f) (Did effect))
    → ((f : Finish) → closes here effect f ≡ true → ((totals f).live ≡ 0) × ((totals' f).live ≡ 0)) → IsTallied new.stays totals'
moved_tallied here key old new effect totals totals' t m counts closed = record {
  live = λ f. tallied_if f (totals f) (totals' f) here key old new effect (closes here effect f) refl (t.live f) m (counts f) (closed f);
}

-- ---- stays that come and go on

-- where no stay is, none lives
pub none_tallied : (totals : Finish → Totals) → ((f : Finish) → (totals f).live ≡ 0) → IsTallied (λ k. None) totals
none_tallied totals none = record {
  live = λ f. subst (HowMany (InheritsAt (λ k. None) f)) (sym (none f))
      (none_many (InheritsAt (λ k. None) f) (λ k i. no_stay i.0 i.1));
}

-- a stay more lives under the finish that it inherited
pub begun_tallied : (stays : ℕ → Option Stay) (under : Finish) (key : ℕ) (u : Stay) (totals totals' : Finish → Totals) → IsTallied stays totals
    → stays key ≡ None → u.inherited ≡ under
    → ((f : Finish) → (totals' f).live ≡ (if same_finish f under then (totals f).live + 1 else (totals f).live))
    → IsTallied (with_entry stays key (Some u)) totals'
begun_tallied stays under key u totals totals' t free is counts = record {
  live = λ f. subst (HowMany (InheritsAt (with_entry stays key (Some u)) f)) (sym (counts f))
      (begins stays f under key (totals f).live u (same_finish f under) free is refl (t.live f));
}

-- a stay that goes on has inherited what it had
pub same_tallied : (stays : ℕ → Option Stay) (key : ℕ) (s t : Stay) (totals totals' : Finish → Totals) → IsTallied stays totals → stays key ≡ Some s
    → t.inherited ≡ s.inherited → ((f : Finish) → (totals' f).live ≡ (totals f).live)
    → IsTallied (with_entry stays key (Some t)) totals'
same_tallied stays key s t totals totals' tallied there same counts = record {
  live = λ f. subst (HowMany (InheritsAt (with_entry stays key (Some t)) f)) (sym (counts f))
      (goes_on stays f key (totals f).live s t there same (tallied.live f));
}

tallied_at : (old new : ℕ → Option Stay) (totals : Finish → Totals) → new ≡ old → IsTallied old totals → IsTallied new totals
tallied_at old new totals e t = subst (λ x. IsTallied x totals) (sym e) t

-- what a stay inherited has something that lives
pub lives_tallied : (stays : ℕ → Option Stay) (key : ℕ) (s : Stay) (totals : Finish → Totals) → IsTallied stays totals → stays key ≡ Some s
    → 0 < (totals s.inherited).live
lives_tallied stays key s totals t there = many_some (InheritsAt stays s.inherited) (totals s.inherited).live key (t.live s.inherited)
    (s, there, refl)

-- ---- messages

-- a message begins a stay under a finish
pub begins_tallied : (setting : Setting) (here : ℕ) (old : places.Place) (function : ℕ) (graph : Snapshot) (under : Finish) (back : Option Origin)
    (key : ℕ) (new : places.Place) (totals totals' : Finish → Totals) → IsTallied old.stays totals
    → deliveries.Begins setting here old function graph under back key new
    → ((f : Finish) → (totals' f).live ≡ (if same_finish f under then (totals f).live + 1 else (totals f).live)) → IsTallied new.stays totals'
begins_tallied setting here old function graph under back key new totals totals' t b counts =
    tallied_at _ new.stays totals' (ap (λ (p : places.Place). p.stays) b.new_is)
    (begun_tallied old.stays under key _ totals totals' t b.free refl counts)

-- a message lets a stay go on
pub resumes_tallied : (setting : Setting) (here : ℕ) (old : places.Place) (from : ℕ) (graph : Snapshot) (key : ℕ) (new : places.Place)
    (totals totals' : Finish → Totals) → IsTallied old.stays totals → Resumes setting here old from graph key new
    → ((f : Finish) → (totals' f).live ≡ (totals f).live) → IsTallied new.stays totals'
resumes_tallied setting here old from graph key new totals totals' t r counts =
    tallied_at _ new.stays totals' (ap (λ (p : places.Place). p.stays) r.new_is)
    (same_tallied old.stays key r.stay _ totals totals' t r.waits.is_there refl counts)

arrived : (f under : Finish) (from : ℕ) (t t' : Totals) → t' ≡ (if same_finish f under then receives_from t from else t)
    → t'.live ≡ (if same_finish f under then t.live + 1 else t.live)
arrived f under from t t' e = ap (λ (x : Totals). x.live) e ∙ sym (live_if (same_finish f under) (receives_from t from) t)

-- after a message, where the totals of each finish change as they do by it
pub received_tallied : (setting : Setting) (here key : ℕ) (old new : places.Place) (message : Message) (totals totals' : Finish → Totals)
    → IsTallied old.stays totals → Receives setting here old message key new
    → ((f : Finish) → totals' f ≡ totals_after f (totals f) (Took message)) → IsTallied new.stays totals'
received_tallied setting here key old new (Spawn from to under function graph) totals totals' t r counts =
    begins_tallied setting here old function graph under None key new totals totals' t r.1
    (λ f. arrived f under from (totals f) (totals' f) (counts f))
received_tallied setting here key old new (Shift from to waiting under function graph) totals totals' t r counts =
    begins_tallied setting here old function graph under (Some (record { place = from; key = waiting })) key new totals totals' t r.1
    (λ f. arrived f under from (totals f) (totals' f) (counts f))
received_tallied setting here key old new (Back from to waiting graph) totals totals' t r counts =
    resumes_tallied setting here old from graph key new totals totals' t r.2 (λ f. ap (λ (x : Totals). x.live) (counts f))
