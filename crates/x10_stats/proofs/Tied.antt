-- What ties a tally to the machine's book, and how it is kept where an activity makes a step or a first stay begins.
use Rattle.std.proofs.Common.{◌≡◌, ◌≢◌, ℕ, ◌+◌, ◌<◌, ◌≤◌, ◌^◌, Bool, true, false, List, ◌∷◌, length, Option, None, Some, refl, sym, ap, subst, ◌∙◌, inl, inr, arith}
use Rattle.std.specs.Prelude.{slice_get, slice_set}
use Rattle.std.proofs.lemmas.Bool.{cases_eq}
use Rattle.std.proofs.lemmas.Option.{same_Some}
use Rattle.x10_model.specs.Places.{Message, Spawn, Shift, Back}
use Rattle.x10_model.specs.Worlds as machine
use Rattle.x10_model.specs.Worlds.{Post, Flying, Book, counted}
use Rattle.x10_model.proofs.Found.{head_is}
use Rattle.x10_model.proofs.Lists.{append_front, none_some, set_off}
use Rattle.x10_finish.specs.Chains.{Name}
use Rattle.x10_finish.specs.Closing.{chains_of}
use Rattle.x10_finish.proofs.WorldParts.{chains_counted}
use Rattle.x10_stats.specs.Entries.{AreEntries, Entry, IsTallyOf, IsToldOf, told_as, told_of}
use Rattle.x10_stats.specs.Tallies.{TallyState, activity_at, all_with_room, functions_reaching, one_step, reaching, stepped, with_activity, with_rooms, with_step_of}
use Rattle.x10_stats.specs.declared.activity.Activity.{Activity}
use Rattle.x10_stats.specs.declared.tally.Begun.{Begun}
use Rattle.x10_stats.proofs.EntryCounts.{IsEntered, many_counted, most_counted, most_other, stepped_here, stepped_off}
use Rattle.x10_world.proofs.Lists.{set_either, set_here}
use Rattle.x10_stats.proofs.Slots.{activity_is, room_count, room_slot, row_count, row_has_room, set_slot_here, set_slot_off, slot, sum_one}

-- there is room for the stay with a key at a place
abbrev pub HasAt : TallyState → ℕ → ℕ → Type 0
HasAt t p k = (b : Activity) × (slot t.rows p k ≡ Some b)

-- where all are kept, there is room for the next one
abbrev pub HasNext : TallyState → Type 0
HasNext t = t.kept ≡ true → (b : Activity) × (slice_get t.all t.next ≡ Some b)

-- at the stay stands the activity as the book has it
abbrev pub StandsAt : Book → List Entry → TallyState → (a p k : ℕ) → Type 0
StandsAt book entries t a p k = (n : ℕ) × (e : Entry) × (slice_get entries n ≡ Some e) × (e.activity ≡ a)
    × (slot t.rows p k ≡ Some (told_of book n e))

-- the activity that a Spawn will begin has the function that it names, and has made no step and has no entry
abbrev pub IsAwaited : Book → List Entry → ℕ → Message → Type 0
IsAwaited book entries a (Spawn from to under function graph) =
    ((book.activities a).function ≡ function) × ((book.activities a).steps ≡ 0) × (IsEntered entries a → ⊥)
IsAwaited book entries a _ = Unit {0}

-- After so many events, at so many places: at the stay of each activity that works last stands the activity.
pub record IsTied (made count : ℕ) (posts : ℕ → Post) (book : Book) (entries : List Entry) (t : TallyState) : Type 0 where
  pub rows : length t.rows ≡ count
  pub firsts : (a p k : ℕ) (rest : List Name) → a < book.begun → chains_of book a ≡ (p, k) ∷ rest → StandsAt book entries t a p k
  pub few : (n : ℕ) (e : Entry) → slice_get entries n ≡ Some e → (book.activities e.activity).steps ≤ made
  pub short : length entries ≤ made + 1
  pub awaited : (number : ℕ) (message : Message) → posts number ≡ Flying message → IsAwaited book entries (book.carries number) message
  pub entered : AreEntries posts book entries
  pub tally : IsTallyOf book entries t

-- a tally has room where another one has
abbrev pub Grows : TallyState → TallyState → Type 0
Grows old new = (p k : ℕ) → HasAt old p k → HasAt new p k

pub grows_set : (t : TallyState) (p k : ℕ) (a : Activity) → HasAt t p k → Grows t (with_activity t p k a)
grows_set t p k a room q l (b, is) = elim (cases_eq q p) [
  | inl qp ↦ elim (cases_eq l k) [
    | inl lk ↦ (
      a,
      ap (λ i. slot (with_activity t p k a).rows i l) qp ∙ ap (slot (with_activity t p k a).rows p) lk
          ∙ set_slot_here t.rows p k a room.0 (slice_get t.rows p) refl room.1,
    )
    | inr other ↦ (b, set_slot_off t.rows p k q l a (slice_get t.rows p) refl (λ both. other both.1) ∙ is)
  ]
  | inr other ↦ (b, set_slot_off t.rows p k q l a (slice_get t.rows p) refl (λ both. other both.0) ∙ is)
]

-- ---- with more room

all_room : (all : List Activity) (next : ℕ) (kept : Bool) (n : ℕ) (b : Activity) → slice_get all n ≡ Some b
    → slice_get (all_with_room all next kept) n ≡ Some b
all_room all next true n b is = append_front all _ n b is
all_room all next false n b is = is

next_room : (all : List Activity) (next : ℕ) (kept : Bool) → next + 1 < 2 ^ 64 → kept ≡ true
    → (b : Activity) × (slice_get (all_with_room all next kept) next ≡ Some b)
next_room all next true few is = row_has_room all next few
next_room all next false few is = absurd cc

pub next_after : (t : TallyState) (place key : ℕ) → t.next + 1 < 2 ^ 64 → HasNext (with_rooms t place key)
next_after t place key few kept = next_room t.all t.next t.kept few kept

pub grows_rooms : (t : TallyState) (place key : ℕ) → Grows t (with_rooms t place key)
grows_rooms t place key p k (b, is) = (b, room_slot t.rows place key p k b (slice_get t.rows place) refl is)

pub tied_rooms : (made count : ℕ) (posts : ℕ → Post) (book : Book) (entries : List Entry) (t : TallyState) (place key : ℕ)
    → IsTied made count posts book entries t → IsTied made count posts book entries (with_rooms t place key)
tied_rooms made count posts book entries t place key h = record {
  rows = room_count t.rows place key (slice_get t.rows place) ∙ h.rows;
  firsts = λ a p k rest lt is. (let s = h.firsts a p k rest lt is in
      (s.0, s.1, s.2, s.3, room_slot t.rows place key p k (told_of book s.0 s.1) (slice_get t.rows place) refl s.4));
  few = h.few;
  short = h.short;
  awaited = h.awaited;
  entered = h.entered;
  tally = record {
    next = h.tally.next;
    functions = h.tally.functions;
    all = λ kept n e is. all_room t.all t.next t.kept n (told_of book n e) (h.tally.all kept n e is);
  };
}

-- ---- an activity makes a step

-- the stay is the first one of no other activity
abbrev pub IsAlone : Book → (a p k : ℕ) → Type 0
IsAlone book a p k = (b : ℕ) (rest : List Name) → b < book.begun → chains_of book b ≡ (p, k) ∷ rest → b ≡ a

module _ (made count : ℕ) (posts : ℕ → Post) (book : Book) (entries : List Entry) (t : TallyState) (a p k : ℕ)
    (tied : IsTied made count posts book entries t) (lt : a < book.begun) (below : List Name)
    (first : chains_of book a ≡ (p, k) ∷ below) (alone : IsAlone book a p k) (little : made + 1 < 2 ^ 64) where
  stands : StandsAt book entries t a p k
  stands = tied.firsts a p k below lt first

  abbrev n : ℕ
  n = stands.0

  abbrev e : Entry
  e = stands.1

  abbrev then : Book
  then = counted book a

  entered : IsEntered entries a
  entered = (n, e, stands.2, stands.3)

  -- what the activity is then
  abbrev b : Activity
  b = told_of then n e

  few_steps : (book.activities a).steps ≤ made
  few_steps = subst (λ x. (book.activities x).steps ≤ made) stands.3 (tied.few n e stands.2)

  one_more_step : one_step (activity_at t p k) ≡ b
  one_more_step =
      let here : then.activities e.activity ≡ record (book.activities a) { steps = (book.activities a).steps + 1 } =
      stepped_here book a e.activity stands.3 in
      let one = sum_one (book.activities a).steps (let few = few_steps in omega (arith, few, little)) in
      ap one_step (activity_is t p k (told_of book n e) stands.4)
      ∙ ap (λ x. one_step (told_as (book.activities x) n e.place)) stands.3
      ∙ ap (λ s. let x : Activity = record { number = n; place = e.place; function = (book.activities a).function; steps = s } in x) one
      ∙ sym (ap (λ (x : machine.Activity). told_as x n e.place) here)

  function_is : b.function ≡ (book.activities a).function
  function_is = ap (λ (x : machine.Activity). x.function) (stepped_here book a e.activity stands.3)

  steps_is : b.steps ≡ (book.activities a).steps + 1
  steps_is = ap (λ (x : machine.Activity). x.steps) (stepped_here book a e.activity stands.3)

  told_off : (m : ℕ) (f : Entry) → f.activity ≢ a → told_of then m f ≡ told_of book m f
  told_off m f apart = ap (λ (x : machine.Activity). told_as x m f.place) (stepped_off book a f.activity apart)

  abbrev after : TallyState
  after = with_step_of t p k b

  firsts_then : (c q l : ℕ) (rest : List Name) → c < book.begun → chains_of then c ≡ (q, l) ∷ rest → StandsAt then entries after c q l
  firsts_then c q l rest less is =
      let chain : chains_of book c ≡ (q, l) ∷ rest = sym (ap (λ (f : ℕ → List Name). f c) (chains_counted book a)) ∙ is in
      elim (cases_eq c a) [
        | inl same ↦ subst (λ (x : Name). StandsAt then entries after c x.0 x.1)
            (head_is (p, k) (q, l) below rest (sym first ∙ ap (chains_of book) (sym same) ∙ chain))
            (n, e, stands.2, stands.3 ∙ sym same, set_slot_here t.rows p k b (told_of book n e) (slice_get t.rows p) refl stands.4)
        | inr apart ↦
            let s = tied.firsts c q l rest less chain in
            let off : (q ≡ p) × (l ≡ k) → ⊥ = λ both. apart (alone c rest less (chain ∙ ap (λ (x : Name). x ∷ rest) (λ i. (both.0 i, both.1 i)))) in (
              s.0,
              s.1,
              s.2,
              s.3,
              set_slot_off t.rows p k q l b (slice_get t.rows p) refl off ∙ s.4
                  ∙ ap Some (sym (told_off s.0 s.1 (λ x. apart (sym s.3 ∙ x)))),
            )
      ]

  few_then : (m : ℕ) (f : Entry) → slice_get entries m ≡ Some f → (then.activities f.activity).steps ≤ made + 1
  few_then m f is = elim (cases_eq f.activity a) [
    | inl same ↦
        let more = ap (λ (x : machine.Activity). x.steps) (stepped_here book a f.activity same) in
        let few = few_steps in
        omega (arith, more, few)
    | inr apart ↦
        let same = ap (λ (x : machine.Activity). x.steps) (stepped_off book a f.activity apart) in
        let few = tied.few m f is in
        omega (arith, same, few)
  ]

  awaited_then : (number : ℕ) (message : Message) → IsAwaited book entries (book.carries number) message
      → IsAwaited then entries (book.carries number) message
  awaited_then number (Spawn from to under function graph) h =
      let apart : book.carries number ≢ a = λ same. h.2 (subst (IsEntered entries) (sym same) entered) in
      let off = stepped_off book a (book.carries number) apart in
      (ap (λ (x : machine.Activity). x.function) off ∙ h.0, ap (λ (x : machine.Activity). x.steps) off ∙ h.1, h.2)
  awaited_then number (Shift from to waiting under function graph) h = tt
  awaited_then number (Back from to waiting graph) h = tt

  told_here : (g : Begun) → slice_get t.functions b.function ≡ Some g → IsToldOf then entries b.function (reaching g b.steps)
  told_here g is =
      let old = tied.tally.functions b.function g is in
      let most = most_counted book a b.function entries (sym function_is) entered in
      let steps = steps_is in
      (old.0 ∙ sym (many_counted book a b.function entries), omega (arith, old.1, most, steps))

  told_there : (f : ℕ) (g : Begun) → f ≢ b.function → slice_get t.functions f ≡ Some g → IsToldOf then entries f g
  told_there f g apart is =
      let old = tied.tally.functions f g is in (
        old.0 ∙ sym (many_counted book a f entries),
        old.1 ∙ sym (most_other book a f entries (λ e. apart (sym e ∙ sym function_is))),
      )

  reached : (o : Option Begun) → slice_get t.functions b.function ≡ o → (f : ℕ) (g : Begun)
      → slice_get (functions_reaching t.functions b.function b.steps o) f ≡ Some g → IsToldOf then entries f g
  reached None none f g is = told_there f g (λ same. none_some (slice_get t.functions f) g (ap (slice_get t.functions) same ∙ none) is) is
  reached (Some old) there f g is = elim (set_either t.functions b.function f (reaching old b.steps) g old there is) [
    | inl same ↦ subst (λ i. IsToldOf then entries i g) (sym same.0) (subst (IsToldOf then entries b.function) same.1 (told_here old there))
    | inr other ↦ told_there f g other.0 other.1
  ]

  all_then : t.kept ≡ true → (m : ℕ) (f : Entry) → slice_get entries m ≡ Some f → slice_get (slice_set t.all n b) m ≡ Some (told_of then m f)
  all_then kept m f is = elim (cases_eq m n) [
    | inl same ↦
        let entry : e ≡ f = same_Some e f (sym stands.2 ∙ ap (slice_get entries) (sym same) ∙ is) in
        ap (slice_get (slice_set t.all n b)) same ∙ set_here t.all n b (told_of book n e) (tied.tally.all kept n e stands.2)
        ∙ (λ i. Some (told_of then (sym same i) (entry i)))
    | inr apart ↦
        let off : f.activity ≢ a = λ same. apart (tied.entered.once m n f e is stands.2 (same ∙ sym stands.3)) in
        set_off t.all n m b apart ∙ tied.tally.all kept m f is ∙ ap Some (sym (told_off m f off))
  ]

  tied_then : IsTied (made + 1) count posts then entries after
  tied_then = record {
    rows = row_count t.rows p k b (slice_get t.rows p) ∙ tied.rows;
    firsts = firsts_then;
    few = few_then;
    short = (let few = tied.short in omega (arith, few));
    awaited = λ number message flies. awaited_then number message (tied.awaited number message flies);
    entered = record {
      begun = tied.entered.begun;
      once = tied.entered.once;
      flying = tied.entered.flying;
      spawns = tied.entered.spawns;
      number = tied.entered.number;
    };
    tally = record {
      next = tied.tally.next;
      functions = reached (slice_get t.functions b.function) refl;
      all = all_then;
    };
  }

  pub tied_stepped : IsTied (made + 1) count posts (counted book a) entries (stepped t p k)
  tied_stepped = subst (λ x. IsTied (made + 1) count posts then entries (with_step_of t p k x)) (sym one_more_step) tied_then

  pub grows_stepped : Grows t (stepped t p k)
  grows_stepped q l room = grows_set t p k (one_step (activity_at t p k)) (told_of book n e, stands.4) q l room

-- after more events too
pub tied_later : (made count : ℕ) (posts : ℕ → Post) (book : Book) (entries : List Entry) (t : TallyState)
    → IsTied made count posts book entries t → IsTied (made + 1) count posts book entries t
tied_later made count posts book entries t h = record {
  rows = h.rows;
  firsts = h.firsts;
  few = λ n e is. (let few = h.few n e is in omega (arith, few));
  short = (let short = h.short in omega (arith, short));
  awaited = h.awaited;
  entered = h.entered;
  tally = h.tally;
}
