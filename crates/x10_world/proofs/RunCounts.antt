-- Runs one after another.
use Rattle.std.proofs.Common.{◌≡◌, ◌≢◌, ◌⊎◌, ℕ, ◌+◌, ◌-◌, ◌*◌, ◌/◌, ◌%◌, ◌<◌, ◌≤◌, add-mul, min, inl, inr, zero, suc, [], ◌∷◌, ◌++◌, refl, sym, ap, subst, ◌∙◌, arith, length, replicate, List}
use Rattle.std.specs.Prelude.{Result, Ok, Err, IfOk, IfErr, MatchResult, true, take}
use Rattle.std.specs.Result.{IsErrAnd}
use Rattle.std.proofs.lemmas.Grind.{div_ceil_times}
use Rattle.std.proofs.lemmas.List.{length-append, length-map, length-replicate, length-take-le}
use Rattle.std.proofs.lemmas.Nat.{mul-le}
use Rattle.std.proofs.lemmas.Option.{slice_get_within}
use Rattle.x10_kinds.specs.declared.stop.Stop.{Stop}
use Rattle.x10_model.specs.declared.event.Event.{Event}
use Rattle.x10_model.specs.declared.event.Event.TheVariants.{Step}
use Rattle.x10_model.specs.Worlds.{World, Ideal, Run, done, WithinBounds}
use Rattle.x10_world.specs.declared.rounds.Unfinished.{Unfinished}
use Rattle.x10_world.specs.declared.rounds.Unfinished.TheVariants as halt
use Rattle.x10_world.specs.StandsForWorld.{WorldState, KeepsSetting, setting_of_world, StandsForWorld, MakesEvent}
use Rattle.x10_world.specs.Runs.{IsSameWorld, StopsAt, Runs, RunsThrough, IsHaltedRun, IsHaltedStretch, RepeatsThrough, steps_at}
use Rattle.x10_world.specs.Rounds.{RunsTo, RunsIn, HasMade, IsHaltedIn, IsCut, IsOpenAt, IsHalted, Advances, AdvancesOrEnds}
use Rattle.x10_world.proofs.RunLemmas.{within, keeps_more, keeps_self, setting_kept, run_more, run_on}
use Rattle.x10_world.proofs.Courses.{stop_stands}
use Rattle.x10_world.proofs.EventRuns.{through_none, through_on, through_same}

-- what holds of an error that is told as another one
pub err_is : {T : Type 0} (r : Result T Unfinished) (why : Unfinished) (P : Unfinished → Type 0) (Q : T → Type 0) → IsErrAnd r (λ made. made ≡ why)
    → P why → MatchResult r Q P
err_is (Ok x) why P Q e h = absurd e
err_is (Err made) why P Q e h = subst P (sym e) h

pub err_if : {T : Type 0} (r : Result T Unfinished) (why : Unfinished) (P : Unfinished → Type 0) → IsErrAnd r (λ made. made ≡ why) → P why → IfErr r P
err_if (Ok x) why P e h = absurd e
err_if (Err made) why P e h = subst P (sym e) h

-- so for each limit
pub cut_is : {T : Type 0} (r : Result T Unfinished) (why : Unfinished) (x y : WorldState) → IsErrAnd r (λ made. made ≡ why)
    → ((limit : ℕ) → IsCut x limit y why) → IfErr r (λ e. (limit : ℕ) → IsCut x limit y e)
cut_is r why x y e h = err_if r why (λ e. (limit : ℕ) → IsCut x limit y e) e h

-- what holds whatever the error is
pub if_err : {T E : Type 0} (r : Result T E) (P : E → Type 0) → ((e : E) → P e) → IfErr r P
if_err (Ok x) P h = tt
if_err (Err e) P h = h e

-- ---- some run

pub runs_self : (x : WorldState) → RunsTo x x
runs_self x = record { kept = keeps_self x; runs = λ w stand. ([], w, done w (within x w stand), stand) }

pub runs_on : (x y z : WorldState) → RunsTo x y → RunsTo y z → RunsTo x z
runs_on x y z first second = record {
  kept = keeps_more x y z first.kept second.kept;
  runs = λ w stand.
      (let a = first.runs w stand in
      let b = second.runs a.1 a.3 in
      let same = setting_kept x y first.kept in
      let run : Run Ideal (setting_of_world x) (WithinBounds x.bounds) a.1 b.0 b.1 =
      subst (λ s. Run Ideal s (WithinBounds x.bounds) a.1 b.0 b.1) same
      (subst (λ bs. Run Ideal (setting_of_world y) (WithinBounds bs) a.1 b.0 b.1) first.kept.bounds b.2) in
      (a.0 ++ b.0, b.1, run_on Ideal (setting_of_world x) (WithinBounds x.bounds) w a.1 b.1 a.0 b.0 a.2 run, b.3));
}

-- one event, which was made
pub runs_event : (x y : WorldState) (event : Event) → KeepsSetting x y → ((w : World) → StandsForWorld x w → MakesEvent x w event y) → RunsTo x y
runs_event x y event kept makes = record {
  kept = kept;
  runs = λ w stand.
      (let m = makes w stand in
      let q = subst (λ bs. WithinBounds bs m.0) kept.bounds (within y m.0 m.3) in
      (event ∷ [], m.0, run_more Ideal (setting_of_world x) (WithinBounds x.bounds) w w m.0 [] event (done w (within x w stand)) m.1 q, m.3));
}

-- no event was made
pub runs_still : (x y : WorldState) → KeepsSetting x y → ((w : World) → StandsForWorld x w → StandsForWorld y w) → RunsTo x y
runs_still x y kept still = record { kept = kept; runs = λ w stand. ([], w, done w (within x w stand), still w stand) }

-- ---- so many events

pub in_none : (x : WorldState) → RunsIn x 0 x
in_none x = record { kept = keeps_self x; runs = λ w stand. ([], refl, through_none x w stand) }

pub in_on : (x y z : WorldState) (m n : ℕ) → RunsIn x m y → RunsIn y n z → RunsIn x (m + n) z
in_on x y z m n first second = record {
  kept = keeps_more x y z first.kept second.kept;
  runs = λ w stand.
      (let a = first.runs w stand in
      let b = second.runs a.2.last a.2.stands in
      (a.0 ++ b.0, length-append a.0 b.0 ∙ ap (λ k. k + length b.0) a.1 ∙ ap (λ k. m + k) b.1, through_on x y z w a.0 b.0 first.kept a.2 b.2));
}

-- so many steps of one activity
pub in_repeats : (x y : WorldState) (n here key : ℕ) → KeepsSetting x y → ((w : World) → StandsForWorld x w → RepeatsThrough x w n here key y)
    → RunsIn x n y
in_repeats x y n here key kept repeats = record {
  kept = kept;
  runs = λ w stand. let r = repeats w stand in
      (replicate n (Step here key), length-replicate n (Step here key), r.runs);
}

-- one event
pub in_one : (x y : WorldState) (event : Event) → KeepsSetting x y → ((w : World) → StandsForWorld x w → RunsThrough x w (event ∷ []) y)
    → RunsIn x 1 y
in_one x y event kept runs = record { kept = kept; runs = λ w stand. (event ∷ [], refl, runs w stand) }

-- no event, with more room
pub in_same : (x y : WorldState) → IsSameWorld x y → RunsIn x 0 y
in_same x y same = record { kept = same.kept; runs = λ w stand. ([], refl, through_same x x y w [] same (through_none x w stand)) }

same_back : (x y : WorldState) → IsSameWorld x y → IsSameWorld y x
same_back x y same = record {
  places = sym same.places;
  flights = record { posted = sym same.flights.posted; flying = sym same.flights.flying };
  kept = record { program = sym same.kept.program; bounds = sym same.kept.bounds; count = sym same.kept.count };
  stopped = sym same.stopped;
}

in_back : (x y : WorldState) (n : ℕ) → IsSameWorld x y → RunsIn x n y → RunsIn x n x
in_back x y n same r = record {
  kept = keeps_self x;
  runs = λ w stand. let a = r.runs w stand in (a.0, a.1, through_same x y x w a.0 (same_back x y same) a.2);
}

-- What is idle may be tried as often as you like.
pub in_idle : (x y : WorldState) (n : ℕ) → IsSameWorld x y → RunsIn x 1 y → RunsIn x n y
in_idle x y zero same one = in_same x y same
in_idle x y (suc n) same one =
    let all : 1 + n ≡ suc n = omega arith in
    subst (λ k. RunsIn x k y) all (in_on x x y 1 n (in_back x y 1 same one) (in_idle x y n same one))

-- after none
pub in_after : (x y z : WorldState) (n : ℕ) → RunsIn x 0 y → RunsIn y n z → RunsIn x n z
in_after x y z n first more = let same : 0 + n ≡ n = omega arith in subst (λ k. RunsIn x k z) same (in_on x y z 0 n first more)

-- so many steps of one activity, with idle ones between them
pub in_beside : (x y z : WorldState) (idle steps : ℕ) → IsSameWorld x y → RunsIn x 1 y → RunsIn y steps z → RunsIn x (idle + steps) z
in_beside x y z idle steps same one more = in_on x y z idle steps (in_idle x y idle same one) more

pub in_to : (x y : WorldState) (n : ℕ) → RunsIn x n y → RunsTo x y
in_to x y n r = record { kept = r.kept; runs = λ w stand. let a = r.runs w stand in (a.0, a.2.last, a.2.run, a.2.stands) }

-- a stop after so many events
pub halted_to : (x y : WorldState) (limit : ℕ) (why : Stop) → IsHaltedIn x limit y why → RunsTo x y
halted_to x y limit why h = runs_on x h.state y (in_to x h.state h.done h.runs)
    (runs_still h.state y h.stops.kept (λ w stand. stop_stands h.state y h.event why w h.stops stand))

pub cut_to : (x y : WorldState) (limit : ℕ) (why : Unfinished) → IsCut x limit y why → RunsTo x y
cut_to x y limit (halt.Stop why) h = halted_to x y limit why h
cut_to x y limit halt.Limit h = absurd h
cut_to x y limit halt.Memory h = in_to x y h.0 h.2

-- events more before it
pub cut_on : (x y z : WorldState) (m some limit : ℕ) (why : Unfinished) → RunsIn x m y → IsCut y some z why → m + some ≤ limit → IsCut x limit z why
cut_on x y z m some limit (halt.Stop why) first h less = record {
  done = m + h.done;
  few = let few = h.few in
      omega (arith, less, few);
  state = h.state;
  runs = in_on x y h.state m h.done first h.runs;
  event = h.event;
  stops = h.stops;
}
cut_on x y z m some limit halt.Limit first h less = h
cut_on x y z m some limit halt.Memory first h less = (m + h.0, (let few = h.1 in omega (arith, less, few)), in_on x y z m h.0 first h.2, h.3)

-- none before it
pub cut_after : (x y z : WorldState) (limit : ℕ) (why : Unfinished) → RunsIn x 0 y → IsCut y limit z why → IsCut x limit z why
cut_after x y z limit why first h = cut_on x y z 0 limit limit why first h (omega arith)

-- as many events were made as were allowed
pub limit_halted : {T : Type 0} (r : Result T Unfinished) (x y : WorldState) (limit : ℕ) → RunsIn x limit y → y.stopped ≢ true
    → IfErr r (λ why. (why ≡ halt.Limit) × IsOpenAt limit y) → IfErr r (IsHalted x limit y)
limit_halted (Ok t) x y limit runs goes h = tt
limit_halted (Err why) x y limit runs goes h = subst (λ w. IsHalted x limit y w) (sym h.0) (runs, (goes, h.1))

pub limit_made : {T : Type 0} (r : Result T Unfinished) (x y : WorldState) (limit : ℕ) → RunsIn x limit y → y.stopped ≢ true
    → IfOk r (λ _. (n : ℕ) × HasMade x limit n y)
limit_made (Ok t) x y limit runs goes = (limit, record { few = omega arith; runs = runs; goes = goes })
limit_made (Err why) x y limit runs goes = tt

pub cut_is_halt : (x y : WorldState) (limit : ℕ) (why : Unfinished) → IsCut x limit y why → IsHalted x limit y why
cut_is_halt x y limit (halt.Stop why) h = h
cut_is_halt x y limit halt.Limit h = absurd h
cut_is_halt x y limit halt.Memory h = h

-- ---- rounds of so many events

-- how many rounds begin within so many events
abbrev pub rounds_in : ℕ → ℕ → ℕ
rounds_in left round = left / round + min 1 (left % round)

lt_or_le : (a b : ℕ) → (a < b) ⊎ (b ≤ a)
lt_or_le a b = grind arith

-- The steps of one activity, of which each but the first comes a round after the one before it, are within what is left,
-- where they are no more than the rounds that begin within it.
pub rounds_few : (left round steps : ℕ) → 1 < round → steps ≤ rounds_in left round → steps ≢ 0 → (steps - 1) * round + 1 ≤ left
rounds_few left round zero p few some = absurd (some refl)
rounds_few left round (suc k) p few some =
    let times = (div_ceil_times left round (omega (arith, p))).1 in
    let more : (suc k) * round ≤ (rounds_in left round) * round = mul-le (suc k) round (rounds_in left round) round few (omega arith) in
    let same : (1 + k) * round ≡ 1 * round + k * round = add-mul 1 k round in
    let one : 1 + k ≡ suc k = omega arith in
    let back : suc k - 1 ≡ k = omega arith in
    let whole = subst (λ n. n * round ≡ 1 * round + k * round) one same in
    subst (λ n. n * round + 1 ≤ left) (sym back) (omega (arith, times, more, whole))

pub rounds_within : (left round : ℕ) → 1 < round → rounds_in left round ≤ left
rounds_within left round p = elim (lt_or_le left (rounds_in left round)) [
  | inl less ↦
      (let back : suc left - 1 ≡ left = omega arith in
      let most = subst (λ n. n * round + 1 ≤ left) back (rounds_few left round (suc left) p (omega (arith, less)) (λ e. absurd cc)) in
      let least = mul-le left 1 left round (omega arith) (omega (arith, p)) in
      let one : left * 1 ≡ left = omega arith in
      omega (arith, most, least, one))
  | inr few ↦ few
]

-- the steps among these events
pub rounds_all : (round steps : ℕ) → 1 < round → steps ≢ 0 → (steps - 1) * round + 1 - steps + steps ≡ (steps - 1) * round + 1
rounds_all round steps p some =
    let least = mul-le (steps - 1) 1 (steps - 1) round (omega arith) (omega (arith, p)) in
    let one : (steps - 1) * 1 ≡ steps - 1 = omega arith in
    omega (arith, least, one, some)

keeps_back : (x y z : WorldState) → KeepsSetting x z → KeepsSetting y z → KeepsSetting x y
keeps_back x y z k l = record { program = sym l.program ∙ k.program; bounds = sym l.bounds ∙ k.bounds; count = sym l.count ∙ k.count }

-- the one event was refused
pub cut_one : (x y : WorldState) (event : Event) (limit : ℕ) (why : Stop) → StopsAt x event why y → IsHaltedIn x limit y why
cut_one x y event limit why stops = record { done = 0; few = omega arith; state = x; runs = in_none x; event = event; stops = stops }

-- one of several steps of an activity was
pub cut_stretch : (x y : WorldState) (here key most : ℕ) (why : Stop) → KeepsSetting x y → IsHaltedStretch x here key most y why
    → IsHaltedIn x most y why
cut_stretch x y here key most why kept h = record {
  done = h.done;
  few = h.few;
  state = h.state;
  runs = in_repeats x h.state h.done here key (keeps_back x h.state y kept h.stops.kept) h.repeats;
  event = Step here key;
  stops = h.stops;
}

-- the same after no event
pub ends_after : (x y z : WorldState) (limit : ℕ) (result : Result ℕ Unfinished) → RunsIn x 0 y → AdvancesOrEnds y limit result z
    → AdvancesOrEnds x limit result z
ends_after x y z limit (Ok n) first h = (record { few = h.0.few; runs = in_after x y z n first h.0.runs; goes = h.0.goes }, h.1)
ends_after x y z limit (Err why) first h = cut_after x y z limit why first h

-- ---- a step of each of several activities

-- none were made
pub has_none : (x : WorldState) (limit : ℕ) → x.stopped ≢ true → HasMade x limit 0 x
has_none x limit goes = record { few = omega arith; runs = in_none x; goes = goes }

-- the first of a list of events
pub in_taken : (x y : WorldState) (n : ℕ) (events : List Event) → n ≤ length events → KeepsSetting x y
    → ((w : World) → StandsForWorld x w → Runs x w n events y) → RunsIn x n y
in_taken x y n events few kept runs = record {
  kept = kept;
  runs = λ w stand. (take n events, length-take-le n events few, runs w stand);
}

-- a list that was cut to what is left is no longer than that
pub cut_few : (keys : List ℕ) (most left : ℕ) → most ≡ min (length keys) left → length (take most keys) ≤ left
cut_few keys most left e = let all = length-take-le most keys (omega (arith, e)) in
    omega (arith, e, all)

-- so many of these steps were made
pub has_swept : (x y : WorldState) (here limit n : ℕ) (keys : List ℕ) → length keys ≤ limit → n ≤ length keys → KeepsSetting x y → y.stopped ≢ true
    → ((w : World) → StandsForWorld x w → Runs x w n (steps_at here keys) y) → HasMade x limit n y
has_swept x y here limit n keys all few kept goes runs =
    let same = length-map keys (λ (key : ℕ). Step here key) in
    record {
      few = omega (arith, all, few);
      runs = in_taken x y n (steps_at here keys) (omega (arith, few, same)) kept runs;
      goes = goes;
    }

-- one of them was refused
pub cut_swept : (x y : WorldState) (here limit : ℕ) (keys : List ℕ) (why : Stop) → length keys ≤ limit → KeepsSetting x y
    → IsHaltedRun x (steps_at here keys) y why → IsHaltedIn x limit y why
cut_swept x y here limit keys why few kept h =
    let within = slice_get_within (steps_at here keys) h.0 h.1.event h.1.is_next in
    let all = length-map keys (λ (key : ℕ). Step here key) in
    record {
      done = h.0;
      few = omega (arith, within, all, few);
      state = h.1.state;
      runs = in_taken x h.1.state h.0 (steps_at here keys) (omega (arith, within)) (keeps_back x h.1.state y kept h.1.stops.kept) h.1.runs;
      event = h.1.event;
      stops = h.1.stops;
    }

-- and so after none
pub advances_after : (x y z : WorldState) (limit : ℕ) (result : Result ℕ Unfinished) → RunsIn x 0 y → Advances y limit result z
    → Advances x limit result z
advances_after x y z limit (Ok n) first h = record { few = h.few; runs = in_after x y z n first h.runs; goes = h.goes }
advances_after x y z limit (Err why) first h = cut_after x y z limit why first h
