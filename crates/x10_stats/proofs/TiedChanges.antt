-- A tally and the machine's book stay tied where a stay ends or a later one begins, and where messages are put out and taken in.
use Rattle.std.proofs.Common.{◌≡◌, ◌≢◌, ℕ, ◌<◌, ◌≤◌, List, ◌∷◌, Some, refl, sym, ap, subst, ◌∙◌, inl, inr, arith}
use Rattle.std.specs.Prelude.{slice_get}
use Rattle.std.proofs.lemmas.Bool.{cases_eq}
use Rattle.x10_model.specs.Maps.{with_entry}
use Rattle.x10_model.specs.Places.{Message}
use Rattle.x10_model.specs.Worlds.{Post, Flying, Book, IsSpawn}
use Rattle.x10_model.proofs.Found.{head_is}
use Rattle.x10_model.proofs.Maps.{at_key, off_key}
use Rattle.x10_finish.specs.Chains.{Name}
use Rattle.x10_finish.specs.Closing.{chains_of}
use Rattle.x10_finish.specs.Telling.{HowMany}
use Rattle.x10_finish.proofs.HowMany.{many_same as as_many}
use Rattle.x10_stats.specs.Entries.{AreEntries, Entry, IsSpawnFlying, IsTallyOf, told_of}
use Rattle.x10_stats.specs.Tallies.{TallyState, activity_at, taken_over}
use Rattle.x10_stats.specs.declared.activity.Activity.{Activity}
use Rattle.x10_stats.proofs.EntryCounts.{AreSame, many_same, most_same, told_is}
use Rattle.x10_stats.proofs.Slots.{activity_is, row_count, set_slot_here, set_slot_off}
use Rattle.x10_stats.proofs.Tied.{HasAt, IsAwaited, IsTied, StandsAt}

-- what is counted is the same where the book says the same of each entry
pub tally_same : (book after : Book) (entries : List Entry) (t : TallyState) → AreSame book after entries → IsTallyOf book entries t
    → IsTallyOf after entries t
tally_same book after entries t same h = record {
  next = h.next;
  functions = λ f g is. (let old = h.functions f g is in
      (old.0 ∙ sym (many_same book after f entries same), old.1 ∙ sym (most_same book after f entries same)));
  all = λ kept n e is. h.all kept n e is
      ∙ ap Some (sym (told_is (book.activities e.activity) (after.activities e.activity) n e.place (same n e is)));
}

few_same : (made : ℕ) (book after : Book) (entries : List Entry) → AreSame book after entries
    → ((n : ℕ) (e : Entry) → slice_get entries n ≡ Some e → (book.activities e.activity).steps ≤ made)
    → (n : ℕ) (e : Entry) → slice_get entries n ≡ Some e → (after.activities e.activity).steps ≤ made
few_same made book after entries same few n e is = (let old = few n e is in let steps = (same n e is).1 in omega (arith, old, steps))

-- ---- the stays of an activity change, and one more stay is told of it

module _ (made count : ℕ) (posts : ℕ → Post) (book after : Book) (entries : List Entry) (t : TallyState) (a p k q l : ℕ)
    (tied : IsTied made count posts book entries t) (same : AreSame book after entries) (begun_is : after.begun ≡ book.begun)
    (stands : StandsAt book entries t a p k) (chain : (rest : List Name) × (chains_of after a ≡ (q, l) ∷ rest))
    (others : (b : ℕ) → b ≢ a → chains_of after b ≡ chains_of book b)
    (free : (b : ℕ) (rest : List Name) → b < book.begun → b ≢ a → chains_of book b ≡ (q, l) ∷ rest → ⊥)
    (room : HasAt t q l) where
  abbrev moved : TallyState
  moved = taken_over t q l p k

  abbrev b : Activity
  b = activity_at t p k

  told_moved : b ≡ told_of after stands.0 stands.1
  told_moved = activity_is t p k (told_of book stands.0 stands.1) stands.4
      ∙ sym (told_is (book.activities stands.1.activity) (after.activities stands.1.activity) stands.0 stands.1.place
      (same stands.0 stands.1 stands.2))

  pub firsts_moved : (c x y : ℕ) (rest : List Name) → c < after.begun → chains_of after c ≡ (x, y) ∷ rest → StandsAt after entries moved c x y
  firsts_moved c x y rest less is = elim (cases_eq c a) [
    | inl at ↦ subst (λ (z : Name). StandsAt after entries moved c z.0 z.1)
        (head_is (q, l) (x, y) chain.0 rest (sym chain.1 ∙ ap (chains_of after) (sym at) ∙ is)) (
          stands.0,
          stands.1,
          stands.2,
          stands.3 ∙ sym at,
          set_slot_here t.rows q l b room.0 (slice_get t.rows q) refl room.1 ∙ ap Some told_moved,
        )
    | inr apart ↦
        let old = sym (others c apart) ∙ is in
        let lt = subst (λ n. c < n) begun_is less in
        let s = tied.firsts c x y rest lt old in
        let off : (x ≡ q) × (y ≡ l) → ⊥ = λ both. free c rest lt apart (old ∙ ap (λ (z : Name). z ∷ rest) (λ i. (both.0 i, both.1 i))) in (
          s.0,
          s.1,
          s.2,
          s.3,
          set_slot_off t.rows q l x y b (slice_get t.rows q) refl off ∙ s.4
              ∙ ap Some (sym (told_is (book.activities s.1.activity) (after.activities s.1.activity) s.0 s.1.place (same s.0 s.1 s.2))),
        )
  ]

  pub tied_moved : (then : ℕ → Post)
      → ((number : ℕ) (message : Message) → then number ≡ Flying message → IsAwaited after entries (after.carries number) message)
      → AreEntries then after entries → IsTied made count then after entries moved
  tied_moved then awaited entered = record {
    rows = row_count t.rows q l b (slice_get t.rows q) ∙ tied.rows;
    firsts = firsts_moved;
    few = few_same made book after entries same tied.few;
    short = tied.short;
    awaited = awaited;
    entered = entered;
    tally = (let h = tally_same book after entries t same tied.tally in record { next = h.next; functions = h.functions; all = h.all });
  }

-- ---- nothing more is told

pub tied_still : (made count : ℕ) (posts then : ℕ → Post) (book after : Book) (entries : List Entry) (t : TallyState)
    → IsTied made count posts book entries t → AreSame book after entries
    → ((b : ℕ) (x : Name) (rest : List Name) → b < after.begun → chains_of after b ≡ x ∷ rest → (b < book.begun) × (chains_of book b ≡ x ∷ rest))
    → ((number : ℕ) (message : Message) → then number ≡ Flying message → IsAwaited after entries (after.carries number) message)
    → AreEntries then after entries → IsTied made count then after entries t
tied_still made count posts then book after entries t tied same chains awaited entered = record {
  rows = tied.rows;
  firsts = λ a p k rest lt is. (let old = chains a (p, k) rest lt is in
      let s = tied.firsts a p k rest old.0 old.1 in (
        s.0,
        s.1,
        s.2,
        s.3,
        s.4
            ∙ ap Some (sym (told_is (book.activities s.1.activity) (after.activities s.1.activity) s.0 s.1.place (same s.0 s.1 s.2))),
      ));
  few = few_same made book after entries same tied.few;
  short = tied.short;
  awaited = awaited;
  entered = entered;
  tally = tally_same book after entries t same tied.tally;
}

-- ---- messages

-- the message with a number is no Spawn, neither before nor after
pub awaited_off : (posts : ℕ → Post) (book after : Book) (entries : List Entry) (number : ℕ) (post : Post)
    → ((m : ℕ) (message : Message) → posts m ≡ Flying message → IsAwaited book entries (book.carries m) message)
    → ((m : ℕ) (message : Message) → m ≢ number → IsAwaited book entries (book.carries m) message → IsAwaited after entries (after.carries m) message)
    → ((message : Message) → post ≡ Flying message → IsAwaited after entries (after.carries number) message)
    → (m : ℕ) (message : Message) → with_entry posts number post m ≡ Flying message → IsAwaited after entries (after.carries m) message
awaited_off posts book after entries number post old on new m message flies = elim (cases_eq m number) [
  | inl same ↦ subst (λ x. IsAwaited after entries (after.carries x) message) (sym same)
      (new message (sym (at_key posts number post) ∙ ap (with_entry posts number post) (sym same) ∙ flies))
  | inr apart ↦ on m message apart (old m message (sym (off_key posts number m post apart) ∙ flies))
]

-- as many Spawns fly where none has the number
pub spawns_off : (posts : ℕ → Post) (number flying : ℕ) (post : Post) → HowMany (IsSpawnFlying posts) flying
    → (IsSpawnFlying posts number → ⊥) → ((message : Message) → post ≡ Flying message → IsSpawn message → ⊥)
    → HowMany (IsSpawnFlying (with_entry posts number post)) flying
spawns_off posts number flying post h none new =
    as_many (IsSpawnFlying posts) (IsSpawnFlying (with_entry posts number post)) flying h
    (λ m f. elim (cases_eq m number) [
      | inl same ↦ absurd (none (subst (IsSpawnFlying posts) same f))
      | inr apart ↦ (f.0, off_key posts number m post apart ∙ f.1, f.2)
    ])
    (λ m f. elim (cases_eq m number) [
      | inl same ↦ absurd (new f.0 (sym (at_key posts number post) ∙ ap (with_entry posts number post) (sym same) ∙ f.1) f.2)
      | inr apart ↦ (f.0, sym (off_key posts number m post apart) ∙ f.1, f.2)
    ])
