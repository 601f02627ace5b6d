-- What a worker makes, one thing behind another.
use Rattle.std.proofs.Common.{◌≡◌, ◌≢◌, ℕ, zero, suc, ◌+◌, List, [], ◌∷◌, ◌++◌, map, true, refl, sym, ap, subst, ◌∙◌, arith}
use Rattle.std.specs.Prelude.{◌≤◌, Bool, Result, Ok, IfOk, length, false, Option, Some, None, MatchOption, MatchResult, replicate, take, drop, slice_get, slice_set}
use Rattle.std.specs.Borrow.{Bor}
use Rattle.std.proofs.lemmas.Option.{same_Some, slice_get-map, slice_get_within, get_or_from_slice_get}
use Rattle.std.proofs.lemmas.List.{append-nil, append_assoc, length-append, length-map, map-append, map-set, take_more}
use Rattle.slab.specs.Slab.{get}
use Rattle.x10_kinds.specs.declared.stop.Stop.{Stop}
use Rattle.x10_place.specs.declared.place.Stepped.{Stepped}
use Rattle.x10_place.specs.declared.place.Stepped.TheVariants as stepped
use Rattle.x10_place.specs.declared.sent.Sent.{Sent}
use Rattle.x10_place.specs.Messages.{no_sent}
use Rattle.x10_place.specs.StandsFor.{PlaceState, line_as, IsIdleAt, LeadsAll, Keeps, AreOutside}
use Rattle.x10_place.specs.Stays.{StayState}
use Rattle.x10_place.specs.Stretches.{Strides, at_once, onward, StridesTo, nowhere, finally}
use Rattle.x10_hall.specs.declared.turn.Posted.{Posted}
use Rattle.x10_hall.specs.declared.turn.Taken.{Taken}
use Rattle.x10_hall.specs.declared.turn.Turn.{Turn}
use Rattle.x10_hall.specs.Halls.{PostedFrame, Numbered, frame_of, told}
use Rattle.x10_hall.specs.declared.limits.TheConstants.{MOST_TAKEN, MOST_STEPS}
use Rattle.x10_workers.specs.declared.trail.OwnTurn.{OwnTurn}
use Rattle.x10_workers.specs.declared.trail.Trail.{Trail}
use Rattle.x10_model.proofs.Found.{head_is}
use Rattle.x10_world.specs.StandsForWorld.{IsMadeStep}
use Rattle.x10_world.proofs.Lists.{replicate_more}
use Rattle.x10_workers.specs.Trails.{frames_sent, frames_out, TakesFrame, TakesEach, StepsBy, by_step, by_stride, StepsEach, TurnLeads, TrailLeads}
use Rattle.x10_workers.specs.Workings.{WorksOn, IsSilent, AreAlike, KeepsTurn}
use Rattle.x10_workers.specs.Looms.{flying_as}
use Rattle.x10_workers.specs.Weaves.{Woven, TakesOff, TakesOffEach, IsTurnOf, IsNextTurn, Weaves, WeavesAll, weaves_more, all_flying}

-- a frame more
pub takes_one_more : (p q r : PlaceState) (fs : List Numbered) (f : Numbered) → TakesEach p fs q → TakesFrame q f.bytes r
    → TakesEach p (fs ++ f ∷ []) r
takes_one_more p q r [] f led one = (r, subst (λ z. TakesFrame z f.bytes r) led one, refl)
takes_one_more p q r (g ∷ gs) f led one = (led.0, led.1, takes_one_more led.0 q r gs f led.2 one)

-- steps more
pub steps_more : (p q r : PlaceState) (keys others : List ℕ) (frames out : List PostedFrame) → StepsEach p keys frames q → StepsEach q others out r
    → StepsEach p (keys ++ others) (frames ++ out) r
steps_more p q r [] others frames out led more = subst (λ z. StepsEach z others (frames ++ out) r) led.1
    (subst (λ fs. StepsEach q others (fs ++ out) r) (sym led.0) more)
steps_more p q r (k ∷ ks) others frames out led more = (
  led.0,
  led.1 ++ out,
  led.2,
  ap (λ fs. fs ++ out) led.3 ∙ append_assoc (frames_out led.0) led.1 out,
  led.4,
  steps_more led.2 q r ks others led.1 out led.5 more,
)

-- ---- steps of a turn, which are at most 64

pub few_appended : (old more new : List ℕ) (n : ℕ) → new ≡ old ++ more → length more ≤ n → length old + n ≤ 64 → length new ≤ MOST_STEPS
few_appended old more new n is few room = let long = ap length is in
    omega (arith, long, length-append old more, few, room)

-- one step
pub step_alone : (p q : PlaceState) (key : ℕ) (answer : Stepped) → StepsBy p key answer q → StepsEach p (key ∷ []) (frames_out answer) q
step_alone p q key answer one = (answer, [], q, sym (append-nil (frames_out answer)), one, (refl, refl))

-- a stretch of steps of one activity
pub strides_each : (key : ℕ) (p : PlaceState) (n : ℕ) (q : PlaceState) → Strides key p n q → StepsEach p (replicate n key) [] q
strides_each key p n q (at_once) = (refl, refl)
strides_each key p n q (onward k r s far stride) =
    subst (λ ks. StepsEach p ks [] q) (sym (replicate_more k key))
    (steps_more p r q (replicate k key) (key ∷ []) [] [] (strides_each key p k r far)
    (step_alone r q key (stepped.Moved no_sent) (by_stride no_sent q stride)))

pub strides_to_each : (key : ℕ) (p : PlaceState) (n : ℕ) (sent : Sent) (q : PlaceState) → StridesTo key p n sent q
    → StepsEach p (replicate n key) (frames_sent sent) q
strides_to_each key p n sent q (nowhere) = (refl, refl)
strides_to_each key p n sent q (finally k r o s far stride) =
    subst (λ ks. StepsEach p ks (frames_sent sent) q) (sym (replicate_more k key))
    (steps_more p r q (replicate k key) (key ∷ []) [] (frames_sent sent) (strides_each key p k r far)
    (step_alone r q key (stepped.Moved sent) (by_stride sent q stride)))

-- of no step
pub none_made : (key : ℕ) (p : PlaceState) (n : ℕ) (sent : Sent) (q : PlaceState) → n ≡ 0 → StridesTo key p n sent q → q ≡ p
none_made key p n sent q none (nowhere) = refl
none_made key p n sent q none (finally k r o s far stride) = absurd (omega (arith, none))

-- what a stretch's clause says where it was not refused
pub if_ran : (r : Result Sent Stop) (sent : Sent) (A : Sent → Type 0) (B : Stop → Type 0) → r ≡ Ok sent → MatchResult r A B → A sent
if_ran r sent A B is ran = subst (λ s. MatchResult s A B) is ran

pub if_ok_at : {T E : Type 0} (r : Result T E) (x : T) (P : T → Type 0) → r ≡ Ok x → IfOk r P → P x
if_ok_at r x P is h = subst (λ s. IfOk s P) is h

is_same : (one other : Stepped) → ◌≡◌ {A = Result Stepped Stop} (Ok one) (Ok other) → one ≡ other
is_same one other e = cc

-- a step as a turn tells it
pub record IsStepOf (p : PlaceState) (key : ℕ) (answer : Stepped) (q : PlaceState) : Type 0 where
  pub steps : StepsEach p (key ∷ []) (frames_out answer) q
  pub goes : q.stopped ≢ true
  pub still : answer ≡ stepped.Idle → q ≡ p

-- what a step's clauses say of a place that goes on
pub steps_by : (p q : PlaceState) (key : ℕ) (result : Result Stepped Stop) (answer : Stepped) → result ≡ Ok answer
    → (IsIdleAt p key → (result ≡ Ok stepped.Idle) × (q ≡ p)) → (result ≡ Ok stepped.Idle → IsIdleAt p key)
    → ((a : StayState) → get p.stays key ≡ Some a → a.away ≡ false → AreOutside p.stays key → IfOk result (λ s. LeadsAll p key s q))
    → IfOk result (λ s. q.stopped ≢ true) → Keeps p q → IsStepOf p key answer q
steps_by p q key result answer is idle only some goes kept =
    let made : IsMadeStep p q key answer = record {
      idle = λ still. (is_same answer stepped.Idle (sym is ∙ (idle still).0), (idle still).1);
      only = λ same. only (is ∙ ap (λ s. Ok s) same);
      some = λ a there ready outside. if_ok_at result answer (λ s. LeadsAll p key s q) is (some a there ready outside);
      goes = if_ok_at result answer (λ s. q.stopped ≢ true) is goes;
    } in
    record { steps = step_alone p q key answer (by_step answer q made kept); goes = made.goes; still = λ same. (made.idle (made.only same)).1 }

-- turns more
leads_more : (p q r : PlaceState) (ts us : List OwnTurn) → TrailLeads p ts q → TrailLeads q us r → TrailLeads p (ts ++ us) r
leads_more p q r [] us led more = subst (λ z. TrailLeads z us r) led more
leads_more p q r (t ∷ ts) us led more = (led.0, led.1, leads_more led.0 q r ts us led.2 more)

-- nothing was done
pub goes_still : (p q : PlaceState) (kept : List OwnTurn) → q ≡ p → q.stopped ≢ true → WorksOn p kept q kept
goes_still p q kept same goes = record { more = []; kept = sym (append-nil kept); leads = same; goes = goes }

-- one turn was made
pub goes_one : (p q : PlaceState) (old new : List OwnTurn) (t : OwnTurn) → new ≡ old ++ t ∷ [] → TurnLeads p t q → q.stopped ≢ true
    → WorksOn p old q new
goes_one p q old new t kept led goes = record { more = t ∷ []; kept = kept; leads = (q, led, refl); goes = goes }

-- turns that tell the same lead the same way
pub alike_leads : (p q : PlaceState) (like own : OwnTurn) → AreAlike like own → TurnLeads p own q → TurnLeads p like q
alike_leads p q like own a led = record {
  middle = led.middle;
  takes = subst (λ fs. TakesEach p fs led.middle) (sym a.taken) led.takes;
  steps = subst (λ fs. StepsEach led.middle like.keys fs q) (sym a.frames) (subst (λ ks. StepsEach led.middle ks (map frame_of own.frames.items) q)
      (sym a.keys) led.steps);
  printed = led.printed ∙ sym a.lines;
  short = record {
    few_taken = subst (λ n. n ≤ MOST_TAKEN) (sym (sym (length-map like.taken.items told) ∙ ap length a.taken ∙ length-map own.taken.items told))
        led.short.few_taken;
    few_keys = subst (λ ks. length ks ≤ MOST_STEPS) (sym a.keys) led.short.few_keys;
  };
}

-- one turn was made, and kept
pub goes_kept : (p q : PlaceState) (old new : List OwnTurn) (t : OwnTurn) → KeepsTurn t old new → TurnLeads p t q → q.stopped ≢ true
    → WorksOn p old q new
goes_kept p q old new t k led goes = goes_one p q old new k.like k.kept (alike_leads p q k.like t k.alike led) goes

-- turns that say nothing and have the same keys tell the same
pub silent_alike : (one other : OwnTurn) → IsSilent one → IsSilent other → one.keys ≡ other.keys → AreAlike one other
silent_alike one other a b keys = record {
  taken = ap (λ fs. map told fs) (a.taken ∙ sym b.taken);
  keys = keys;
  frames = ap (λ fs. map frame_of fs) (a.frames ∙ sym b.frames);
  lines = ap (λ ls. map line_as ls) (a.lines ∙ sym b.lines);
}

-- each turn tells the same as itself
pub alike_itself : (own : OwnTurn) → AreAlike own own
alike_itself own = record { taken = refl; keys = refl; frames = refl; lines = refl }

-- nothing was done since
pub goes_same : (p q r : PlaceState) (old new kept : List OwnTurn) → WorksOn p old q new → r ≡ q → kept ≡ new → WorksOn p old r kept
goes_same p q r old new kept a place same = subst (λ ts. WorksOn p old r ts) (sym same) (subst (λ z. WorksOn p old z new) (sym place) a)

pub goes_further : (p q r : PlaceState) (old mid new : List OwnTurn) → WorksOn p old q mid → WorksOn q mid r new → WorksOn p old r new
goes_further p q r old mid new a b = record {
  more = a.more ++ b.more;
  kept = b.kept ∙ ap (λ ts. ts ++ b.more) a.kept ∙ append_assoc old a.more b.more;
  leads = leads_more p q r a.more b.more a.leads b.leads;
  goes = b.goes;
}

-- a frame more is taken off
pub takes_off_more : (x y z : List (Option PostedFrame)) (place : ℕ) (fs : List Numbered) (f : Numbered) → TakesOffEach x place fs y
    → TakesOff y place f z → TakesOffEach x place (fs ++ f ∷ []) z
takes_off_more x y z place [] f off one = (z, subst (λ v. TakesOff v place f z) off one, refl)
takes_off_more x y z place (g ∷ gs) f off one = (off.0, off.1, takes_off_more off.0 y z place gs f off.2 one)

-- a turn more of a log
pub weaves_next : (trails : List Trail) (x y z : Woven) (log : List Turn) (n : ℕ) (t : Turn) → take (n + 1) log ≡ take n log ++ t ∷ []
    → WeavesAll trails x (take n log) y → Weaves trails y t z → WeavesAll trails x (take (n + 1) log) z
weaves_next trails x y z log n t more before one = subst (λ ts. WeavesAll trails x ts z) (sym more) (weaves_more (take n log) t y z before one)

-- ---- what can't be

-- two lists are not the same that differ at a number
pub differ_at : {X Y : Type 0} (f : X → Y) (xs ys : List X) (i : ℕ) (x y : X) → slice_get xs i ≡ Some x → slice_get ys i ≡ Some y → (f x ≡ f y → ⊥)
    → map f xs ≡ map f ys → ⊥
differ_at f [] ys i x y at there ne same = absurd cc
differ_at f (z ∷ xs) [] i x y at there ne same = absurd cc
differ_at f (z ∷ xs) (w ∷ ys) zero x y at there ne same = ne
    (ap f (sym (same_Some z x at)) ∙ head_is (f z) (f w) (map f xs) (map f ys) same ∙ ap f (same_Some w y there))
differ_at f (z ∷ xs) (w ∷ ys) (suc i) x y at there ne same = differ_at f xs ys i x y at there ne (tails (f z) (f w) (map f xs) (map f ys) same)
  where
    tails : {Z : Type 0} (a b : Z) (rest others : List Z) → a ∷ rest ≡ b ∷ others → rest ≡ others
    tails a b rest others e = cc

-- what is taken off leaves one table
takes_off_same : (x y z : List (Option PostedFrame)) (place : ℕ) (fs : List Numbered) → TakesOffEach x place fs y → TakesOffEach x place fs z → y ≡ z
takes_off_same x y z place [] off other = off ∙ sym other
takes_off_same x y z place (f ∷ fs) off other =
    let same : off.0 ≡ other.0 = off.1.after_is ∙ sym other.1.after_is in
    takes_off_same other.0 y z place fs (subst (λ m. TakesOffEach m place fs y) same off.2) other.2

takes_off_split : (x z : List (Option PostedFrame)) (place : ℕ) (fs gs : List Numbered) → TakesOffEach x place (fs ++ gs) z
    → (y : List (Option PostedFrame)) × TakesOffEach x place fs y × TakesOffEach y place gs z
takes_off_split x z place [] gs off = (x, refl, off)
takes_off_split x z place (f ∷ fs) gs off = (let rest = takes_off_split off.0 z place fs gs off.2 in (rest.0, (off.0, off.1, rest.1), rest.2))

-- where one frame of several can't be taken off, they can't
pub no_more_taken : (x y z : List (Option PostedFrame)) (place : ℕ) (all before : List Numbered) (f : Numbered) (after : List Numbered)
    → all ≡ before ++ f ∷ after → TakesOffEach x place before y → ((m : List (Option PostedFrame)) → TakesOff y place f m → ⊥)
    → TakesOffEach x place all z → ⊥
no_more_taken x y z place all before f after is off never taken =
    let parts = takes_off_split x z place before (f ∷ after) (subst (λ fs. TakesOffEach x place fs z) is taken) in
    let same : parts.0 ≡ y = takes_off_same x parts.0 y place before parts.1 off in
    let last = subst (λ m. TakesOffEach m place (f ∷ after) z) same parts.2 in
    never last.0 last.1

pub true_false : (b : Bool) → b ≡ true → b ≡ false → ⊥
true_false b t f = cc

-- ---- lists of what is held

pub map_take_more : {X Y : Type 0} (f : X → Y) (xs : List X) (i : ℕ) (x : X) → slice_get xs i ≡ Some x
    → map f (take (i + 1) xs) ≡ map f (take i xs) ++ f x ∷ []
map_take_more f xs i x is = ap (map f) (take_more xs i x (slice_get_within xs i x is)
    ∙ ap (λ y. take i xs ++ y ∷ []) (get_or_from_slice_get xs i x x is)) ∙ map-append f (take i xs) (x ∷ [])

pub map_split : {X Y : Type 0} (f : X → Y) (xs : List X) (i : ℕ) (x : X) → slice_get xs i ≡ Some x
    → map f xs ≡ map f (take i xs) ++ f x ∷ map f (drop (suc i) xs)
map_split f [] i x is = absurd cc
map_split f (y ∷ ys) zero x is = ap (λ z. f z ∷ map f ys) (same_Some y x is)
map_split f (y ∷ ys) (suc i) x is = ap (λ zs. f y ∷ zs) (map_split f ys i x is)

pub at_map : {X Y : Type 0} (f : X → Y) (xs : List X) (i : ℕ) (x : X) → slice_get xs i ≡ Some x → slice_get (map f xs) i ≡ Some (f x)
at_map f xs i x is = rw (slice_get-map f xs i, is) refl

-- a frame that is held is taken off
pub held_off : (held : List (Option (Bor Posted))) (place : ℕ) (p : Bor Posted) (f : Numbered) → slice_get held f.number ≡ Some (Some p)
    → frame_of p.now ≡ record { to = place; bytes = f.bytes } → TakesOff (map flying_as held) place f (map flying_as (slice_set held f.number None))
held_off held place p f is same = record {
  flies = at_map flying_as held f.number (Some p) is ∙ ap (λ g. Some (Some g)) same;
  after_is = map-set flying_as held f.number None;
}

-- what is held under its number isn't the frame
pub not_off : (held : List (Option (Bor Posted))) (place : ℕ) (o : Option (Bor Posted)) (f : Numbered) (after : List (Option PostedFrame))
    → slice_get held f.number ≡ Some o → ((p : Bor Posted) → o ≡ Some p → frame_of p.now ≡ record { to = place; bytes = f.bytes } → ⊥)
    → TakesOff (map flying_as held) place f after → ⊥
not_off held place o f after is never off = go o refl (same_Some (flying_as o) (Some (record { to = place; bytes = f.bytes }))
    (sym (at_map flying_as held f.number o is) ∙ off.flies))
  where
    go : (p : Option (Bor Posted)) → o ≡ p → flying_as p ≡ Some (record { to = place; bytes = f.bytes }) → ⊥
    go None e flies = cc
    go (Some p) e flies = never p e (same_Some (frame_of p.now) (record { to = place; bytes = f.bytes }) flies)

-- the items up to one and with it
pub take_seen : {X : Type 0} (xs : List X) (i : ℕ) (x : X) → slice_get xs i ≡ Some x → take (i + 1) xs ≡ take i xs ++ x ∷ []
take_seen xs i x is = take_more xs i x (slice_get_within xs i x is) ∙ ap (λ z. take i xs ++ z ∷ []) (get_or_from_slice_get xs i x x is)

pub when_some : {X : Type 0} (o : Option X) (x : X) (A : Type 0) (B : X → Type 0) → o ≡ Some x → B x → MatchOption o A B
when_some o x A B is b = subst (λ p. MatchOption p A B) (sym is) b

pub when_none : {X : Type 0} (o : Option X) (A : Type 0) (B : X → Type 0) → o ≡ None → A → MatchOption o A B
when_none o A B is a = subst (λ p. MatchOption p A B) (sym is) a

-- ---- the next turn of a place

pub next_past_trails : (trails : List Trail) (cursors : List ℕ) (place cursor : ℕ) (own : OwnTurn) → length trails ≤ place
    → IsNextTurn trails cursors place cursor own → ⊥
next_past_trails trails cursors place cursor own past n = (let lt = slice_get_within trails place n.trail n.trail_is in omega (arith, past, lt))

pub next_past_cursors : (trails : List Trail) (cursors : List ℕ) (place cursor : ℕ) (own : OwnTurn) → length cursors ≤ place
    → IsNextTurn trails cursors place cursor own → ⊥
next_past_cursors trails cursors place cursor own past n = (let lt = slice_get_within cursors place cursor n.cursor_is in omega (arith, past, lt))

pub next_past_turns : (trails : List Trail) (cursors : List ℕ) (place cursor at : ℕ) (trail : Trail) (own : OwnTurn)
    → slice_get trails place ≡ Some trail → slice_get cursors place ≡ Some at → length trail.turns ≤ at → IsNextTurn trails cursors place cursor own
    → ⊥
next_past_turns trails cursors place cursor at trail own is cursor-is past n =
    let same : n.trail ≡ trail = same_Some n.trail trail (sym n.trail_is ∙ is) in
    let there : cursor ≡ at = same_Some cursor at (sym n.cursor_is ∙ cursor-is) in
    let lt = slice_get_within trail.turns cursor own (subst (λ (t : Trail). slice_get t.turns cursor ≡ Some own) same n.own_is) in
    omega (arith, past, lt, there)

-- what makes a turn of the log one of its place's trail
pub weaves_by : (trails : List Trail) (x : Woven) (t : Turn) (place cursor : ℕ) (own : OwnTurn) (middle flying : List (Option PostedFrame))
    (cursors : List ℕ) (taken : List Taken) (frames : List Posted) → place ≡ t.place → IsNextTurn trails x.cursors place cursor own → IsTurnOf own t
    → taken ≡ own.taken.items
    → TakesOffEach x.flying t.place (map told taken) middle → frames ≡ t.frames.items → cursors ≡ x.cursors
    → flying ≡ middle ++ all_flying (map frame_of frames) → Weaves trails x t
    (record { cursors = slice_set cursors place (cursor + 1); flying = flying })
weaves_by trails x t place cursor own middle flying cursors taken frames here next same taken-is takes frames-are kept flies = record {
  cursor = cursor;
  own = own;
  middle = middle;
  next = subst (λ n. IsNextTurn trails x.cursors n cursor own) here next;
  same = same;
  takes = subst (λ fs. TakesOffEach x.flying t.place (map told fs) middle) taken-is takes;
  new_is = ap (λ cs. record { cursors = slice_set cs place (cursor + 1); flying = flying }) kept
      ∙ ap (λ n. record { cursors = slice_set x.cursors n (cursor + 1); flying = flying }) here
      ∙ ap (λ fs. record { cursors = slice_set x.cursors t.place (cursor + 1); flying = fs })
      (flies ∙ ap (λ ps. middle ++ all_flying (map frame_of ps)) frames-are);
}

-- there is one next turn
next_same : (trails : List Trail) (cursors : List ℕ) (place m n : ℕ) (own other : OwnTurn) → IsNextTurn trails cursors place m own
    → IsNextTurn trails cursors place n other → own ≡ other
next_same trails cursors place m n own other a b =
    let same : a.trail ≡ b.trail = same_Some a.trail b.trail (sym a.trail_is ∙ b.trail_is) in
    let there : m ≡ n = same_Some m n (sym a.cursor_is ∙ b.cursor_is) in
    same_Some own other (sym a.own_is ∙ ap (λ (t : Trail). slice_get t.turns m) same ∙ ap (λ k. slice_get b.trail.turns k) there ∙ b.own_is)

pub none_next : (trails : List Trail) (x after : Woven) (t : Turn)
    → ((cursor : ℕ) (own : OwnTurn) → IsNextTurn trails x.cursors t.place cursor own → ⊥) → Weaves trails x t after → ⊥
none_next trails x after t none w = none w.cursor w.own w.next

pub not_turn_of : (trails : List Trail) (x after : Woven) (t : Turn) (cursor : ℕ) (own : OwnTurn) → IsNextTurn trails x.cursors t.place cursor own
    → (IsTurnOf own t → ⊥) → Weaves trails x t after → ⊥
not_turn_of trails x after t cursor own next never w = never
    (subst (λ o. IsTurnOf o t) (next_same trails x.cursors t.place w.cursor cursor w.own own w.next next) w.same)

pub not_taken : (trails : List Trail) (x after : Woven) (t : Turn) (cursor : ℕ) (own : OwnTurn) → IsNextTurn trails x.cursors t.place cursor own
    → ((m : List (Option PostedFrame)) → TakesOffEach x.flying t.place (map told own.taken.items) m → ⊥) → Weaves trails x t after → ⊥
not_taken trails x after t cursor own next never w = never w.middle
    (subst (λ (o : OwnTurn). TakesOffEach x.flying t.place (map told o.taken.items) w.middle)
    (next_same trails x.cursors t.place w.cursor cursor w.own own w.next next) w.takes)
