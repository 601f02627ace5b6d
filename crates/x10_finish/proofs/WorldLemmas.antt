-- What holds of a world and its counts is kept by each event.
use Rattle.std.proofs.Common.{◌≡◌, ℕ, ◌<◌, ◌≤◌, ◌&&◌, Bool, true, false, if◌then◌else◌, [], ◌∷◌, Option, Some, None, inl, inr, refl, sym, ◌∙◌, ap, subst, arith}
use Rattle.std.proofs.Math.Path.{fun_ext}
use Rattle.std.proofs.lemmas.Bool.{cases_eq}
use Rattle.x10_model.specs.declared.event.Event.TheVariants.{Step, Deliver}
use Rattle.x10_model.specs.Maps.{with_entry}
use Rattle.x10_model.specs.Places as machine
use Rattle.x10_model.specs.declared.finish.Finish.{Finish}
use Rattle.x10_model.specs.Places.{Setting, root, Stay, Message, Spawn, Shift, Back, receiver, Effect, Waits, Works, Begins, Spawns, Shifts, Opens, Closes, Ends}
use Rattle.x10_model.specs.Moves.{Moves}
use Rattle.x10_model.specs.Totals.{Totals, nothing, Did, Took, totals_after, is_last, is_reported, IsDoneAt, first_totals}
use Rattle.x10_model.specs.Worlds.{same_finish, Unused, Net, World, sent, net_after, Quiet, Allows, Steps, Delivers, steps, delivers, opening}
use Rattle.x10_finish.specs.Detection as detection
use Rattle.x10_finish.specs.Detection.{Told, told_of, taken, Counting, Event, start, after, after_all, IsCounted}
use Rattle.x10_finish.specs.Stays.{MovesStay}
use Rattle.x10_finish.specs.Nesting.{stays_in, stays_of, opened_of, nth, IsHeld}
use Rattle.x10_finish.specs.Telling.{Inherits, Tells, IsInRange, GoesTo, counted_as, counted_in, counting_at_opening}
use Rattle.x10_finish.specs.Watching.{IsCurrent, WorldCounts, counting_of, IsFollowed, IsWatched, AreFirst, OpeningIsWatched, IsMoved, ClosesDone, world_after, MovesAreWatched, IsDelivered, DeliveriesAreWatched, IsSame, IsTakenIn, CountsReport, ReportsAreWatched, DoneIsOver, OverIsDone, EndedIsDone, StaysAreCounted, IsUncounted}
use Rattle.x10_finish.proofs.Stays.{stays_change}
use Rattle.x10_model.proofs.SameFinishes.{same_is}
use Rattle.x10_finish.proofs.DetectionLemmas.{counted_after, counted_after_all}
use Rattle.x10_finish.proofs.NestedFinishes.{no_stay}
use Rattle.x10_finish.proofs.Sound.{there_in, net_with}
use Rattle.x10_finish.proofs.QuietClosings.{sound_opening, sound_happens, allowed_ideal, ended_quiet}
use Rattle.x10_finish.proofs.Rooted.{rooted_opening, rooted_happens, root_over}
use Rattle.x10_finish.proofs.Listed.{over_is_quiet}
use Rattle.x10_finish.proofs.HowMany.{many_some}
use Rattle.x10_finish.proofs.CountLemmas.{done_is_quiet, quiet_is_done}
use Rattle.x10_finish.proofs.Counted.{moves_are_counted, deliveries_are_counted, opening_is_counted}
use Rattle.x10_finish.proofs.InRange.{opening_is_in_range, moves_stay_in_range, deliveries_stay_in_range}
use Rattle.x10_finish.proofs.Current.{unopened_apart, same_opened, moved_opened, moved_current, not_closed, moved_none, received_opened, received_current, received_none}

-- ---- the counts of one finish

-- counts are the same where their parts are
counting_same : (a : Counting) (c : WorldCounts) (f : Finish) → ((p : ℕ) → a.totals p ≡ c.totals p f) → a.told ≡ c.told f → a.kept ≡ c.kept f
    → a ≡ counting_of c f a.flying
counting_same a c f totals told kept = (let all : a.totals ≡ (λ p. c.totals p f) = fun_ext totals in
    λ j. record { totals = all j; flying = a.flying; told = told j; kept = kept j })

followed : (places : ℕ) (net : Net) (c : WorldCounts) (f : Finish) (a : Counting) → Tells (stays_of net) net.posts f a → IsCounted places f.home a
    → a ≡ counting_of c f a.flying → IsFollowed places net c f
followed places net c f a tells counted same = record {
  flying = a.flying;
  tells = subst (Tells (stays_of net) net.posts f) same tells;
  counted = subst (IsCounted places f.home) same counted;
}

-- totals that changed at one place
totals_same : (a : ℕ → Totals) (b c : ℕ → Totals) (here : ℕ) (t : Totals) → a here ≡ t → c here ≡ t → ((p : ℕ) → (p ≡ here → ⊥) → a p ≡ b p)
    → ((p : ℕ) → (p ≡ here → ⊥) → c p ≡ b p) → (p : ℕ) → a p ≡ c p
totals_same a b c here t at ct others too p = elim (cases_eq p here) [
  | inl is ↦ ap a is ∙ at ∙ sym ct ∙ ap c (sym is)
  | inr apart ↦ others p apart ∙ sym (too p apart)
]

uncounted_same : (c d : WorldCounts) (f : Finish) → IsUncounted c f → IsSame c d f → IsUncounted d f
uncounted_same c d f none same = record {
  totals = λ p. same.totals p ∙ none.totals p;
  kept = same.kept ∙ none.kept;
  told = λ n. ap (λ (g : ℕ → Option Told). g n) same.told ∙ none.told n;
}

-- ---- at the opening

first_parts : (f : Finish) (b : Bool) → (let s = if b then after f.home start (detection.Begins 0) else start in
    (s.told ≡ (λ n. None)) × (s.kept ≡ start.kept))
first_parts f true = (refl, refl)
first_parts f false = (refl, refl)

opening_followed : (setting : Setting) (key : ℕ) (c : WorldCounts) → 0 < setting.places → AreFirst c → (f : Finish)
    → IsFollowed setting.places (opening setting key).net c f
opening_followed setting key c lt first f =
    let counted = opening_is_counted setting key f lt in
    let parts = first_parts f (same_finish f root) in
    followed setting.places (opening setting key).net c f (counting_at_opening f) counted.0 counted.1
    (counting_same (counting_at_opening f) c f (λ p. counted.2 p ∙ sym (first.totals p f)) (parts.0 ∙ sym (fun_ext (first.told f)))
    (parts.1 ∙ sym (first.kept f)))

first_none : (f : Finish) (p : ℕ) → same_finish f root ≡ false → first_totals p f ≡ nothing
first_none f p e = rw e refl

pub opening_is_watched : OpeningIsWatched
opening_is_watched setting key c lt first = record {
  sound = sound_opening setting key lt;
  rooted = rooted_opening setting key lt;
  range = opening_is_in_range setting key lt;
  each = λ f current. opening_followed setting key c lt first f;
  fresh = λ f le. record {
    totals = λ p. first.totals p f ∙ first_none f p (unopened_apart (opening setting key).net (opening setting key).book f root
        (sound_opening setting key lt) le (inl refl));
    kept = first.kept f;
    told = first.told f;
  };
}

-- ---- what the counts say

-- the home of a finish lets it end where it is done
done_quiet : (places : ℕ) (w : World) (c : WorldCounts) (f : Finish) → IsWatched places w c → IsHeld (stays_of w.net) f → f.home < places
    → IsDoneAt places f.home (c.totals f.home f) (c.kept f) → Allows Quiet w f.home (Closes f.number)
done_quiet places w c f i held lh done = (let e = i.each f (inl held) in
    done_is_quiet places w.net f (counting_of c f e.flying) lh i.range e.tells e.counted done)

pub done_is_over : DoneIsOver
done_is_over places w c i lt done = root_over w i.sound i.rooted (done_quiet places w c root i (inl refl) lt done)

pub over_is_done : OverIsDone
over_is_done places w c i over none told lt =
    let e = i.each root (inl (inl refl)) in
    quiet_is_done places w.net root (counting_of c root e.flying) lt e.tells e.counted (over_is_quiet w root i.sound over none) told

pub ended_is_done : EndedIsDone
ended_is_done places w c f i at lh none told ended =
    let held : IsHeld (stays_of w.net) f = inr (
      at.key,
      0,
      at.stay,
      ap (λ o. stays_in o at.key) at.place_is ∙ at.stay_is,
      ap (λ xs. nth xs 0) at.innermost_is,
    ) in
    let e = i.each f (inl held) in
    quiet_is_done places w.net f (counting_of c f e.flying) lh e.tells e.counted (ended_quiet w f i.sound at none ended) told

pub stays_are_counted : StaysAreCounted
stays_are_counted places w c here key stay i there =
    let held = i.sound.nested.inherited here key stay there in
    let e = i.each stay.inherited (inl held) in
    (held, many_some (Inherits (stays_of w.net) stay.inherited here) (c.totals here stay.inherited).live key (e.tells.live here) (stay, there, refl))

-- ---- what an event changes of reports

unreported : (home : ℕ) (s : Counting) (event : Event) (b : Bool) → (after home s event).told ≡ s.told
    → (after_all home s (if b then event ∷ [] else [])).told ≡ s.told
unreported home s event true e = e
unreported home s event false e = refl

unkept : (home : ℕ) (s : Counting) (event : Event) (b : Bool) → (after home s event).kept ≡ s.kept
    → (after_all home s (if b then event ∷ [] else [])).kept ≡ s.kept
unkept home s event true e = e
unkept home s event false e = refl

ended_told : (home : ℕ) (s : Counting) (here report : ℕ) (b : Bool)
    → (after_all home s (if b then detection.Ends here report ∷ [] else [])).told
    ≡ (if b && is_last home here (s.totals here) then with_entry s.told report (Some (told_of here (s.totals here))) else s.told)
ended_told home s here report true = refl
ended_told home s here report false = refl

moved_told : (f : Finish) (s : Counting) (here report : ℕ) (effect : Effect)
    → (after_all f.home s (counted_as f here report effect)).told
    ≡ (if is_reported here f (s.totals here) (Did effect) then with_entry s.told report (Some (told_of here (s.totals here))) else s.told)
moved_told f s here report (Waits n) = refl
moved_told f s here report Works = refl
moved_told f s here report (Begins key function under) = unreported f.home s (detection.Begins here) (same_finish f under) refl
moved_told f s here report (Spawns message function under) =
    unreported f.home s (detection.PutsOut here (receiver message)) (same_finish f under) refl
moved_told f s here report (Shifts message under) = unreported f.home s (detection.PutsOut here (receiver message)) (same_finish f under) refl
moved_told f s here report (Opens n inside) = refl
moved_told f s here report (Closes n) = refl
moved_told f s here report (Ends under back) = ended_told f.home s here report (same_finish f under)

moved_kept : (f : Finish) (s : Counting) (here report : ℕ) (effect : Effect) → (after_all f.home s (counted_as f here report effect)).kept ≡ s.kept
moved_kept f s here report (Waits n) = refl
moved_kept f s here report Works = refl
moved_kept f s here report (Begins key function under) = unkept f.home s (detection.Begins here) (same_finish f under) refl
moved_kept f s here report (Spawns message function under) = unkept f.home s (detection.PutsOut here (receiver message)) (same_finish f under) refl
moved_kept f s here report (Shifts message under) = unkept f.home s (detection.PutsOut here (receiver message)) (same_finish f under) refl
moved_kept f s here report (Opens n inside) = refl
moved_kept f s here report (Closes n) = refl
moved_kept f s here report (Ends under back) = unkept f.home s (detection.Ends here report) (same_finish f under) refl

-- ---- moves

moved_followed : (setting : Setting) (net : Net) (c d : WorldCounts) (here key number report : ℕ) (old new : machine.Place) (effect : Effect)
    (f : Finish) → IsFollowed setting.places net c f → net.places here ≡ Some old → Moves setting here old key new effect → net.posts number ≡ Unused
    → here < setting.places → GoesTo setting.places (sent effect) → c.told f report ≡ None → IsMoved here effect report c d f
    → IsFollowed setting.places (net_after net here new effect number) d f
moved_followed setting net c d here key number report old new effect f i e moves unused lh goes told m =
    let s = counting_of c f i.flying in
    let events = counted_as f here report effect in
    let x = moves_are_counted setting setting.places net f s here key number report old new effect i.tells e moves unused lh goes told in
    let a = after_all f.home s events in
    followed setting.places (net_after net here new effect number) d f a x.tells (counted_after_all setting.places f.home s events i.counted x.able)
    (counting_same a d f (totals_same a.totals s.totals (λ p. d.totals p f) here
    (totals_after f (c.totals here f) (Did effect)) x.here_is m.here_is x.others m.others)
    (moved_told f s here report effect ∙ sym m.told) (moved_kept f s here report effect ∙ sym m.kept))

moved_fresh : (here : ℕ) (effect : Effect) (report : ℕ) (c d : WorldCounts) (f : Finish) → IsMoved here effect report c d f
    → (totals_after f (c.totals here f) (Did effect) ≡ c.totals here f) × (is_reported here f (c.totals here f) (Did effect) ≡ false) → IsSame c d f
moved_fresh here effect report c d f m none = record {
  totals = totals_same (λ p. d.totals p f) (λ p. c.totals p f) (λ p. c.totals p f) here (c.totals here f) (m.here_is ∙ none.0) refl m.others
      (λ p apart. refl);
  kept = m.kept;
  told = m.told ∙ ap (λ b. if b then with_entry (c.told f) report (Some (told_of here (c.totals here f))) else c.told f) none.1;
}

quiet_allowed : (places : ℕ) (w : World) (c : WorldCounts) (here key : ℕ) (old new : machine.Place) (effect : Effect) → IsWatched places w c
    → w.net.places here ≡ Some old → (m : MovesStay here old key new effect) → here < places → ClosesDone places here c effect
    → Allows Quiet w here effect
quiet_allowed places w c here key old new (Waits n) i e m lh done = tt
quiet_allowed places w c here key old new Works i e m lh done = tt
quiet_allowed places w c here key old new (Begins other function under) i e m lh done = tt
quiet_allowed places w c here key old new (Spawns message function under) i e m lh done = tt
quiet_allowed places w c here key old new (Shifts message under) i e m lh done = tt
quiet_allowed places w c here key old new (Opens n inside) i e m lh done = tt
quiet_allowed places w c here key old new (Ends under back) i e m lh done = tt
quiet_allowed places w c here key old new (Closes n) i e m lh done =
    let held : IsHeld (stays_of w.net) (record { home = here; number = n }) =
    inr (key, 0, m.stay, there_in w.net here key old new (Closes n) e m, ap (λ xs. nth xs 0) m.changes.2) in
    done_quiet places w c (record { home = here; number = n }) i held lh done

pub moves_are_watched : MovesAreWatched
moves_are_watched setting w c d here key number report old new effect i e moves unused lh goes told counts done =
    let m = stays_change setting here key old new effect moves in
    let v = world_after w here key new effect number in
    let allowed = quiet_allowed setting.places w c here key old new effect i e m lh done in
    let quiet : Steps Quiet setting w here key v = record {
      old = old;
      new = new;
      effect = effect;
      number = number;
      place_is = e;
      moves = moves;
      allowed = allowed;
      unused = unused;
      net_is = refl;
      book_is = refl;
    } in (
      record {
        old = old;
        new = new;
        effect = effect;
        number = number;
        place_is = e;
        moves = moves;
        unused = unused;
        net_is = refl;
        book_is = refl;
        allowed = allowed_ideal w here key old new effect i.sound e m allowed;
      },
      record {
        sound = sound_happens setting w v (Step here key) i.sound (steps here key v quiet);
        rooted = rooted_happens setting w v (Step here key) i.sound i.rooted (steps here key v quiet);
        range = moves_stay_in_range setting setting.places w.net here key number old new effect i.range moves lh goes;
        each = λ f current. moved_followed setting w.net c d here key number report old new effect f
            (i.each f (moved_current w.net here key number old new effect f e m current)) e moves unused lh goes (told f)
            (counts f (not_closed w.net w.book here key number old new effect f i.sound e m current));
        fresh = λ f le. (let more = moved_opened w.net here key number f.home old new effect e m in
            let before : opened_of w.net f.home ≤ f.number = omega (arith, le, more) in
            uncounted_same c d f (i.fresh f before)
            (moved_fresh here effect report c d f (counts f (not_closed w.net w.book here key number old new effect f i.sound e m (inr le)))
            (moved_none w.net w.book here key old new effect f (c.totals here f) i.sound e m before)));
      },
    )

-- ---- deliveries

received_told : (f : Finish) (s : Counting) (message : Message) → (after_all f.home s (counted_in f message)).told ≡ s.told
received_told f s (Spawn from to under function graph) = unreported f.home s (detection.Arrives from to) (same_finish f under) refl
received_told f s (Shift from to waiting under function graph) = unreported f.home s (detection.Arrives from to) (same_finish f under) refl
received_told f s (Back from to waiting graph) = refl

received_kept : (f : Finish) (s : Counting) (message : Message) → (after_all f.home s (counted_in f message)).kept ≡ s.kept
received_kept f s (Spawn from to under function graph) = unkept f.home s (detection.Arrives from to) (same_finish f under) refl
received_kept f s (Shift from to waiting under function graph) = unkept f.home s (detection.Arrives from to) (same_finish f under) refl
received_kept f s (Back from to waiting graph) = refl

received_followed : (setting : Setting) (w v : World) (c d : WorldCounts) (number : ℕ) (delivery : Delivers setting w number v) (f : Finish)
    → IsWatched setting.places w c → IsFollowed setting.places w.net c f → IsDelivered delivery.here delivery.message c d f
    → IsFollowed setting.places (net_with w.net delivery.here delivery.new number) d f
received_followed setting w v c d number delivery f i e m =
    let s = counting_of c f e.flying in
    let events = counted_in f delivery.message in
    let x = deliveries_are_counted setting setting.places w.net f s delivery.here delivery.key number delivery.old delivery.new delivery.message
    e.tells i.range delivery.place_is delivery.flying delivery.receives in
    let a = after_all f.home s events in
    followed setting.places (net_with w.net delivery.here delivery.new number) d f a x.tells
    (counted_after_all setting.places f.home s events e.counted x.able)
    (counting_same a d f (totals_same a.totals s.totals (λ p. d.totals p f) delivery.here
    (totals_after f (c.totals delivery.here f) (Took delivery.message)) x.here_is m.here_is x.others m.others)
    (received_told f s delivery.message ∙ sym m.told) (received_kept f s delivery.message ∙ sym m.kept))

received_fresh : (here : ℕ) (message : Message) (c d : WorldCounts) (f : Finish) → IsDelivered here message c d f
    → totals_after f (c.totals here f) (Took message) ≡ c.totals here f → IsSame c d f
received_fresh here message c d f m none = record {
  totals = totals_same (λ p. d.totals p f) (λ p. c.totals p f) (λ p. c.totals p f) here (c.totals here f) (m.here_is ∙ none) refl m.others
      (λ p apart. refl);
  kept = m.kept;
  told = m.told;
}

pub deliveries_are_watched : DeliveriesAreWatched
deliveries_are_watched setting w v c d number delivery i lh counts =
    let net = net_with w.net delivery.here delivery.new number in
    record {
      sound = sound_happens setting w v (Deliver number) i.sound (delivers number v delivery);
      rooted = rooted_happens setting w v (Deliver number) i.sound i.rooted (delivers number v delivery);
      range = subst (λ (n : Net). IsInRange setting.places (stays_of n) n.posts) (sym delivery.net_is)
          (deliveries_stay_in_range setting.places w.net delivery.here number delivery.new i.range lh);
      each = λ f current. (let before = received_current setting w.net delivery.here delivery.key number delivery.old delivery.new delivery.message f
          delivery.place_is delivery.receives (subst (λ n. IsCurrent n f) delivery.net_is current) in
          subst (λ n. IsFollowed setting.places n d f) (sym delivery.net_is)
          (received_followed setting w v c d number delivery f i (i.each f before) (counts f)));
      fresh = λ f le. (let more = same_opened w.net delivery.here f.home delivery.old delivery.new delivery.place_is
          (received_opened setting delivery.here delivery.key delivery.old delivery.new delivery.message delivery.receives) in
          let now : opened_of net f.home ≤ f.number = subst (λ n. opened_of n f.home ≤ f.number) delivery.net_is le in
          let before : opened_of w.net f.home ≤ f.number = omega (arith, now, more) in
          uncounted_same c d f (i.fresh f before) (received_fresh delivery.here delivery.message c d f (counts f)
          (received_none w.net w.book number delivery.message f (c.totals delivery.here f) i.sound delivery.flying before)));
    }

-- ---- reports

-- the counts of a finish that stay
same_followed : (places : ℕ) (net : Net) (c d : WorldCounts) (f : Finish) → IsFollowed places net c f → IsSame c d f → IsFollowed places net d f
same_followed places net c d f i same =
    followed places net d f (counting_of c f i.flying) i.tells i.counted
    (counting_same (counting_of c f i.flying) d f (λ p. sym (same.totals p)) (sym same.told) (sym same.kept))

-- and those of one whose home takes in a report
taken_followed : (places : ℕ) (net : Net) (c d : WorldCounts) (f : Finish) (number : ℕ) (t : Told) → c.told f number ≡ Some t
    → IsFollowed places net c f → IsTakenIn number c d f → IsFollowed places net d f
taken_followed places net c d f number t there i m =
    let s = counting_of c f i.flying in
    let a = after f.home s (detection.TakesIn number) in
    followed places net d f a (record { live = i.tells.live; flying = i.tells.flying })
    (counted_after places f.home s (detection.TakesIn number) i.counted (t, there))
    (counting_same a d f (λ p. sym (m.totals p)) (sym m.told) (sym m.kept))

-- a report that flies is of a finish that was opened
told_opened : {A : Type 0} (places : ℕ) (w : World) (c : WorldCounts) (f : Finish) (number : ℕ) (t : Told) → IsWatched places w c
    → c.told f number ≡ Some t → opened_of w.net f.home ≤ f.number → A
told_opened places w c f number t i there le = no_stay t (sym ((i.fresh f le).told number) ∙ there)

reported : (places : ℕ) (w : World) (c d : WorldCounts) (f g : Finish) (number : ℕ) (t : Told) (b : Bool) → same_finish g f ≡ b → IsWatched places w c
    → c.told f number ≡ Some t → CountsReport w.net f number c d → IsCurrent w.net g → IsFollowed places w.net d g
reported places w c d f g number t false e i there m current = same_followed places w.net c d g (i.each g current) (m.others g e)
reported places w c d f g number t true e i there m current =
    let is = same_is g f e in
    elim (subst (IsCurrent w.net) is current) [
      | inl held ↦ subst (IsFollowed places w.net d) (sym is) (taken_followed places w.net c d f number t there (i.each f (inl held)) (m.this held))
      | inr le ↦ told_opened places w c f number t i there le
    ]

reported_fresh : (places : ℕ) (w : World) (c d : WorldCounts) (f g : Finish) (number : ℕ) (t : Told) (b : Bool) → same_finish g f ≡ b
    → IsWatched places w c → c.told f number ≡ Some t → CountsReport w.net f number c d → opened_of w.net g.home ≤ g.number → IsUncounted d g
reported_fresh places w c d f g number t false e i there m le = uncounted_same c d g (i.fresh g le) (m.others g e)
reported_fresh places w c d f g number t true e i there m le =
    told_opened places w c f number t i there (subst (λ (x : Finish). opened_of w.net x.home ≤ x.number) (same_is g f e) le)

pub reports_are_watched : ReportsAreWatched
reports_are_watched places w c d f number t i there m = record {
  sound = i.sound;
  rooted = i.rooted;
  range = i.range;
  each = λ g current. reported places w c d f g number t (same_finish g f) refl i there m current;
  fresh = λ g le. reported_fresh places w c d f g number t (same_finish g f) refl i there m le;
}
