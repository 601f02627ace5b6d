-- A tally and the machine's book stay tied where the first stay of an activity begins.
use Rattle.std.proofs.Common.{◌≡◌, ◌≢◌, ℕ, ◌+◌, ◌<◌, ◌≤◌, ◌^◌, true, List, [], ◌∷◌, ◌++◌, length, Option, None, Some, refl, sym, ap, subst, ◌∙◌, inl, inr, arith}
use Rattle.std.specs.Prelude.{slice_get, slice_set}
use Rattle.std.proofs.lemmas.Bool.{cases_eq}
use Rattle.std.proofs.lemmas.List.{length-append}
use Rattle.std.proofs.lemmas.Option.{slice_get_within}
use Rattle.x10_model.specs.Places.{Message}
use Rattle.x10_model.specs.Worlds.{Post, Flying, Book}
use Rattle.x10_model.proofs.Found.{head_is}
use Rattle.x10_model.proofs.Lists.{append_front, append_get, last_or_before, none_some, set_off}
use Rattle.x10_finish.specs.Chains.{Name}
use Rattle.x10_finish.specs.Closing.{chains_of}
use Rattle.x10_stats.specs.Entries.{AreEntries, Entry, IsToldOf, told_of}
use Rattle.x10_stats.specs.Tallies.{TallyState, begun_as, functions_with, next_one, one_more}
use Rattle.x10_stats.specs.declared.activity.Activity.{Activity}
use Rattle.x10_stats.specs.declared.tally.Begun.{Begun}
use Rattle.x10_stats.proofs.EntryCounts.{AreSame, IsEntered, many_few, many_more, many_same, most_more, most_same, no_steps, one_other, one_same, told_is}
use Rattle.x10_world.proofs.Lists.{set_either, set_here}
use Rattle.x10_stats.proofs.Slots.{row_count, set_slot_here, set_slot_off, sum_one}
use Rattle.x10_stats.proofs.Tied.{HasAt, HasNext, IsAwaited, IsTied, StandsAt}

module _ (made count : ℕ) (posts then : ℕ → Post) (book after : Book) (entries : List Entry) (t : TallyState) (a here key f : ℕ)
    (tied : IsTied made count posts book entries t) (same : AreSame book after entries) (function_is : (after.activities a).function ≡ f)
    (no_step : (after.activities a).steps ≡ 0) (fresh : IsEntered entries a → ⊥) (chain : chains_of after a ≡ (here, key) ∷ [])
    (others : (b : ℕ) → b < after.begun → b ≢ a → (b < book.begun) × (chains_of after b ≡ chains_of book b))
    (free : (b : ℕ) (rest : List Name) → b < book.begun → chains_of book b ≡ (here, key) ∷ rest → ⊥)
    (room : HasAt t here key) (next : HasNext t) (short : length entries ≤ made) (little : made + 1 < 2 ^ 64)
  where
    abbrev entry : Entry
    entry = record { activity = a; place = here }

    abbrev more : List Entry
    more = entries ++ entry ∷ []

    abbrev b : Activity
    b = next_one t here f

    abbrev begun : TallyState
    begun = begun_as t here key b

    told_new : told_of after (length entries) entry ≡ b
    told_new = λ i. record { number = sym tied.tally.next i; place = here; function = function_is i; steps = no_step i }

    told_old : (n : ℕ) (e : Entry) → slice_get entries n ≡ Some e → told_of after n e ≡ told_of book n e
    told_old n e is = told_is (book.activities e.activity) (after.activities e.activity) n e.place (same n e is)

    count_more : length more ≡ length entries + 1
    count_more = length-append entries (entry ∷ [])

    firsts_begun : (c p k : ℕ) (rest : List Name) → c < after.begun → chains_of after c ≡ (p, k) ∷ rest → StandsAt after more begun c p k
    firsts_begun c p k rest less is = elim (cases_eq c a) [
      | inl at ↦ subst (λ (x : Name). StandsAt after more begun c x.0 x.1)
          (head_is (here, key) (p, k) [] rest (sym chain ∙ ap (chains_of after) (sym at) ∙ is)) (
            length entries,
            entry,
            append_get entries entry [],
            sym at,
            set_slot_here t.rows here key b room.0 (slice_get t.rows here) refl room.1 ∙ ap Some (sym told_new),
          )
      | inr apart ↦
          let old = others c less apart in
          let s = tied.firsts c p k rest old.0 (sym old.1 ∙ is) in
          let off : (p ≡ here) × (k ≡ key) → ⊥ = λ both. free c rest old.0
          (sym old.1 ∙ is ∙ ap (λ (x : Name). x ∷ rest) (λ i. (both.0 i, both.1 i))) in (
            s.0,
            s.1,
            append_front entries (entry ∷ []) s.0 s.1 s.2,
            s.3,
            set_slot_off t.rows here key p k b (slice_get t.rows here) refl off ∙ s.4 ∙ ap Some (sym (told_old s.0 s.1 s.2)),
          )
    ]

    few_begun : (n : ℕ) (e : Entry) → slice_get more n ≡ Some e → (after.activities e.activity).steps ≤ made
    few_begun n e is = elim (last_or_before entries entry e n is) [
      | inl before ↦ (let few = tied.few n e before in let steps = (same n e before).1 in omega (arith, few, steps))
      | inr last ↦
          let none : (after.activities e.activity).steps ≡ 0 = ap (λ (x : Entry). (after.activities x.activity).steps) (sym last.1) ∙ no_step in
          omega (arith, none)
    ]

    -- ---- what is told of functions

    told_of_it : (g : Begun) → IsToldOf book entries f g → IsToldOf after more f (one_more g)
    told_of_it g old =
        let many = many_more after f entries entry in
        let one = one_same (after.activities a) f function_is in
        let before = many_same book after f entries same in
        let few = many_few book f entries in
        let plus = sum_one g.activities (omega (arith, old.0, few, short, little)) in
        let most = most_more after f entries entry in
        let none = no_steps (after.activities a) f no_step in
        let still = most_same book after f entries same in
        (omega (arith, many, one, before, plus, old.0), omega (arith, most, none, still, old.1))

    told_of_others : (h : ℕ) (g : Begun) → h ≢ f → IsToldOf book entries h g → IsToldOf after more h g
    told_of_others h g apart old =
        let many = many_more after h entries entry in
        let one = one_other (after.activities a) h (λ e. apart (sym e ∙ function_is)) in
        let before = many_same book after h entries same in
        let most = most_more after h entries entry in
        let none = no_steps (after.activities a) h no_step in
        let still = most_same book after h entries same in
        (omega (arith, many, one, before, old.0), omega (arith, most, none, still, old.1))

    told_begun : (o : Option Begun) → slice_get t.functions f ≡ o → (h : ℕ) (g : Begun) → slice_get (functions_with t.functions f o) h ≡ Some g
        → IsToldOf after more h g
    told_begun None none h g is =
        told_of_others h g (λ e. none_some (slice_get t.functions h) g (ap (slice_get t.functions) e ∙ none) is) (tied.tally.functions h g is)
    told_begun (Some old) there h g is = elim (set_either t.functions f h (one_more old) g old there is) [
      | inl at ↦ subst (λ i. IsToldOf after more i g) (sym at.0)
          (subst (IsToldOf after more f) at.1 (told_of_it old (tied.tally.functions f old there)))
      | inr other ↦ told_of_others h g other.0 (tied.tally.functions h g other.1)
    ]

    all_begun : t.kept ≡ true → (n : ℕ) (e : Entry) → slice_get more n ≡ Some e → slice_get (slice_set t.all t.next b) n ≡ Some (told_of after n e)
    all_begun kept n e is = elim (last_or_before entries entry e n is) [
      | inl before ↦
          let lt = slice_get_within entries n e before in
          let count_is = tied.tally.next in
          let apart : n ≢ t.next = omega (arith, lt, count_is) in
          set_off t.all t.next n b apart ∙ tied.tally.all kept n e before ∙ ap Some (sym (told_old n e before))
      | inr last ↦
          ap (slice_get (slice_set t.all t.next b)) (last.0 ∙ sym tied.tally.next) ∙ set_here t.all t.next b (next kept).0 (next kept).1
          ∙ ap Some (sym told_new) ∙ (λ i. Some (told_of after (sym last.0 i) (last.1 i)))
    ]

    pub tied_begun : ((number : ℕ) (message : Message) → then number ≡ Flying message → IsAwaited after more (after.carries number) message)
        → AreEntries then after more → IsTied made count then after more begun
    tied_begun awaited entered = record {
      rows = row_count t.rows here key b (slice_get t.rows here) ∙ tied.rows;
      firsts = firsts_begun;
      few = few_begun;
      short = (let size = count_more in omega (arith, size, short));
      awaited = awaited;
      entered = entered;
      tally = record {
        next = (let is = tied.tally.next in let one = sum_one t.next (omega (arith, is, short, little)) in let size = count_more in
            omega (arith, is, one, size));
        functions = told_begun (slice_get t.functions f) refl;
        all = all_begun;
      };
    }
