-- Budgets by their parts: what the stays of activities can still take, and what changes of it.
use Rattle.std.proofs.Common.{◌≡◌, ℕ, ◌+◌, ◌<◌, ◌≤◌, List, [], ◌∷◌, Option, Some, None, inl, inr, refl, sym, ◌∙◌, ap, subst, arith}
use Rattle.std.specs.Prelude.{slice_get, slice_index}
use Rattle.std.proofs.lemmas.Bool.{cases_eq}
use Rattle.x10_model.specs.Maps.{with_entry, with_pair}
use Rattle.x10_model.specs.Modules.{Module}
use Rattle.x10_model.specs.Places.{Stay, Message}
use Rattle.x10_model.specs.Worlds.{Post, Flying, Taken, Net, Activity, Book, World}
use Rattle.x10_model.proofs.Events.{flying_is}
use Rattle.x10_model.proofs.Maps.{at_key, off_key}
use Rattle.x10_finish.specs.Nesting.{Stays, stays_of}
use Rattle.x10_finish.specs.Chains.{Name, IsAmong}
use Rattle.x10_finish.specs.Closing.{chains_of, IsSound}
use Rattle.x10_finish.proofs.NestedFinishes.{pair_same, pair_other, no_stay}
use Rattle.x10_finish.proofs.Chains.{IsUncarried}
use Rattle.x10_finish.proofs.WorldParts.{entry_self, map_entry}
use Rattle.x10_finish.proofs.Listed.{stays_are_listed}
use Rattle.x10_world.specs.Budget.{left_of_any, left_of_all, left_for, IsWithinBudget}
use Rattle.x10_world.proofs.BoundLemmas.{index_is}

-- ---- parts

abbrev pub functions_of : Book → ℕ → ℕ
functions_of book a = (book.activities a).function

abbrev pub steps_of : Book → ℕ → ℕ
steps_of book a = (book.activities a).steps

-- what each activity has taken, with what its stays can still take
abbrev pub spent_in : Module → List ℕ → Stays → (ℕ → ℕ) → (ℕ → List Name) → ℕ → ℕ
spent_in program bounds stays steps chains a = steps a + left_of_all program bounds stays (chains a)

-- so many are within the bound of a function, if it has one
abbrev pub IsWithinOf : List ℕ → ℕ → ℕ → Type 0
IsWithinOf bounds function n = (bound : ℕ) → slice_get bounds function ≡ Some bound → n ≤ bound

-- the same as a budget, of any numbers
pub record Fits (bounds : List ℕ) (begun : ℕ) (functions spent carries : ℕ → ℕ) (posts : ℕ → Post) : Type 0 where
  pub stays : (a : ℕ) → a < begun → IsWithinOf bounds (functions a) (spent a)
  pub carried : (number : ℕ) (message : Message) → posts number ≡ Flying message
      → IsWithinOf bounds (functions (carries number)) (spent (carries number) + left_for bounds message)

-- the activities that messages carry have begun
abbrev pub AreBegun : ℕ → (ℕ → ℕ) → (ℕ → Post) → Type 0
AreBegun begun carries posts = (number : ℕ) (message : Message) → posts number ≡ Flying message → carries number < begun

pub fits_of : (program : Module) (bounds : List ℕ) (w : World) → IsWithinBudget program bounds w
    → Fits bounds w.book.begun (functions_of w.book) (spent_in program bounds (stays_of w.net) (steps_of w.book) (chains_of w.book)) w.book.carries
    w.net.posts
fits_of program bounds w h = record {
  stays = λ a lt bound e. h.stays a bound lt e;
  carried = λ number message flies bound e. h.carried number bound message flies e;
}

-- a world of parts
pub within_as : (program : Module) (bounds : List ℕ) (v : World) (stays : Stays) (functions steps : ℕ → ℕ) (chains : ℕ → List Name)
    → stays_of v.net ≡ stays → functions_of v.book ≡ functions → steps_of v.book ≡ steps → chains_of v.book ≡ chains
    → Fits bounds v.book.begun functions (spent_in program bounds stays steps chains) v.book.carries v.net.posts → IsWithinBudget program bounds v
within_as program bounds v stays functions steps chains es ef et ec f =
    let whole = subst (λ x. Fits bounds v.book.begun (functions_of v.book)
    (spent_in program bounds x (steps_of v.book) (chains_of v.book)) v.book.carries v.net.posts) (sym es)
    (subst (λ x. Fits bounds v.book.begun (functions_of v.book) (spent_in program bounds stays x (chains_of v.book)) v.book.carries v.net.posts)
    (sym et)
    (subst (λ x. Fits bounds v.book.begun (functions_of v.book) (spent_in program bounds stays steps x) v.book.carries v.net.posts) (sym ec)
    (subst (λ x. Fits bounds v.book.begun x (spent_in program bounds stays steps chains) v.book.carries v.net.posts) (sym ef) f))) in
    record { stays = λ a bound lt e. whole.stays a lt bound e; carried = λ number bound message flies e. whole.carried number message flies bound e }

-- ---- changes of numbers

-- no activity has more
pub fits_less : (bounds : List ℕ) (begun : ℕ) (functions spent less carries : ℕ → ℕ) (posts : ℕ → Post) → AreBegun begun carries posts
    → ((a : ℕ) → a < begun → less a ≤ spent a) → Fits bounds begun functions spent carries posts → Fits bounds begun functions less carries posts
fits_less bounds begun functions spent less carries posts known le f = record {
  stays = λ a lt bound e. (let h = f.stays a lt bound e in let l = le a lt in omega (arith, h, l));
  carried = λ number message flies bound e. (let h = f.carried number message flies bound e in
      let l = le (carries number) (known number message flies) in omega (arith, h, l));
}

-- there is one activity more
pub fits_begun : (bounds : List ℕ) (begun function : ℕ) (functions spent less carries : ℕ → ℕ) (posts : ℕ → Post) → AreBegun begun carries posts
    → ((a : ℕ) → a < begun → less a ≤ spent a) → IsWithinOf bounds function (less begun)
    → Fits bounds begun functions spent carries posts → Fits bounds (begun + 1) (with_entry functions begun function) less carries posts
fits_begun bounds begun function functions spent less carries posts known le within f = record {
  stays = λ a lt. elim (cases_eq a begun) [
    | inl e ↦ subst (λ x. IsWithinOf bounds (with_entry functions begun function x) (less x)) (sym e)
        (subst (λ x. IsWithinOf bounds x (less begun)) (sym (at_key functions begun function)) within)
    | inr apart ↦ subst (λ x. IsWithinOf bounds x (less a)) (sym (off_key functions begun a function apart))
        (kept.stays a (let ne = apart in omega (arith, lt)))
  ];
  carried = λ number message flies. subst (λ x. IsWithinOf bounds x (less (carries number) + left_for bounds message))
      (sym (off_key functions begun (carries number) function (λ e. (let lt = known number message flies in absurd (omega (arith, lt, e))))))
      (kept.carried number message flies);
}
  where
    kept : Fits bounds begun functions less carries posts
    kept = fits_less bounds begun functions spent less carries posts known le f

-- a message is put out
pub fits_put : (bounds : List ℕ) (begun : ℕ) (functions spent carries : ℕ → ℕ) (posts : ℕ → Post) (number a : ℕ) (message : Message)
    → IsWithinOf bounds (functions a) (spent a + left_for bounds message)
    → Fits bounds begun functions spent carries posts → Fits bounds begun functions spent (with_entry carries number a)
    (with_entry posts number (Flying message))
fits_put bounds begun functions spent carries posts number a message within f = record {
  stays = f.stays;
  carried = λ m x flies. elim (cases_eq m number) [
    | inl e ↦
        let is : message ≡ x = flying_is message x (sym (ap (with_entry posts number (Flying message)) e ∙ at_key posts number (Flying message))
        ∙ flies) in
        subst (λ b. IsWithinOf bounds (functions b) (spent b + left_for bounds x))
        (sym (ap (with_entry carries number a) e ∙ at_key carries number a))
        (subst (λ y. IsWithinOf bounds (functions a) (spent a + left_for bounds y)) is within)
    | inr apart ↦ subst (λ b. IsWithinOf bounds (functions b) (spent b + left_for bounds x)) (sym (off_key carries number m a apart))
        (f.carried m x (sym (off_key posts number m (Flying message) apart) ∙ flies))
  ];
}

taken_apart : (posts : ℕ → Post) (number m : ℕ) (message : Message) → with_entry posts number Taken m ≡ Flying message
    → (m ≡ number → ⊥) × (posts m ≡ Flying message)
taken_apart posts number m message flies = elim (cases_eq m number) [
  | inl e ↦ absurd (let x = sym (ap (with_entry posts number Taken) e ∙ at_key posts number Taken) ∙ flies in cc)
  | inr apart ↦ (apart, sym (off_key posts number m Taken apart) ∙ flies)
]

-- a message is taken in, and its activity has what it carried for it
pub fits_taken : (bounds : List ℕ) (begun : ℕ) (functions spent more carries : ℕ → ℕ) (posts : ℕ → Post) (number : ℕ) (message : Message)
    → AreBegun begun carries posts → IsUncarried carries (with_entry posts number Taken) (carries number) → posts number ≡ Flying message
    → more (carries number) ≤ spent (carries number) + left_for bounds message → ((a : ℕ) → a < begun → (a ≡ carries number → ⊥) → more a ≤ spent a)
    → Fits bounds begun functions spent carries posts → Fits bounds begun functions more carries (with_entry posts number Taken)
fits_taken bounds begun functions spent more carries posts number message known none flying own le f = record {
  stays = λ a lt bound e. elim (cases_eq a (carries number)) [
    | inl is ↦
        let h = f.carried number message flying bound (subst (λ x. slice_get bounds (functions x) ≡ Some bound) is e) in
        subst (λ x. more x ≤ bound) (sym is) (omega (arith, h, own))
    | inr apart ↦ (let h = f.stays a lt bound e in let l = le a lt apart in omega (arith, h, l))
  ];
  carried = λ m x flies bound e.
      (let was = (taken_apart posts number m x flies).1 in
      let h = f.carried m x was bound e in
      let l = le (carries m) (known m x was) (λ same. none m x flies same) in
      omega (arith, h, l));
}

pub within_index : (bounds : List ℕ) (function n : ℕ) → n ≤ slice_index bounds function → IsWithinOf bounds function n
within_index bounds function n le bound e = let is = index_is bounds function bound e in omega (arith, le, is)

-- ---- changes of stays

-- a stay changes that is not one of them
pub left_apart : (program : Module) (bounds : List ℕ) (stays : Stays) (xs : List Name) (here key : ℕ) (o : Option Stay) → (IsAmong (here, key) xs → ⊥)
    → left_of_all program bounds (with_pair stays here key o) xs ≡ left_of_all program bounds stays xs
left_apart program bounds stays [] here key o apart = refl
left_apart program bounds stays (x ∷ xs) here key o apart =
    ap (λ n. n + left_of_all program bounds (with_pair stays here key o) xs)
    (ap (left_of_any program bounds) (pair_other stays here key x.0 x.1 o (λ both. apart (inl (λ i. (both.0 i, both.1 i))))))
    ∙ ap (λ n. left_of_any program bounds (stays x.0 x.1) + n) (left_apart program bounds stays xs here key o (λ m. apart (inr m)))

-- the first of them changes
pub left_first : (program : Module) (bounds : List ℕ) (stays : Stays) (here key : ℕ) (o : Option Stay) (rest : List Name)
    → (IsAmong (here, key) rest → ⊥)
    → left_of_all program bounds (with_pair stays here key o) ((here, key) ∷ rest)
    ≡ left_of_any program bounds o + left_of_all program bounds stays rest
left_first program bounds stays here key o rest apart =
    ap (λ x. left_of_any program bounds x + left_of_all program bounds (with_pair stays here key o) rest) (pair_same stays here key o)
    ∙ ap (λ n. left_of_any program bounds o + n) (left_apart program bounds stays rest here key o apart)

-- ---- one activity

-- what an activity has taken, where the steps and stays of another one change
pub spent_other : (program : Module) (bounds : List ℕ) (stays : Stays) (steps : ℕ → ℕ) (chains : ℕ → List Name) (a b n : ℕ) (xs : List Name)
    → (b ≡ a → ⊥) → spent_in program bounds stays (with_entry steps a n) (with_entry chains a xs) b ≡ spent_in program bounds stays steps chains b
spent_other program bounds stays steps chains a b n xs apart =
    ap (λ k. k + left_of_all program bounds stays (with_entry chains a xs b)) (off_key steps a b n apart)
    ∙ ap (λ c. steps b + left_of_all program bounds stays c) (off_key chains a b xs apart)

pub spent_apart : (program : Module) (bounds : List ℕ) (stays : Stays) (steps : ℕ → ℕ) (chains : ℕ → List Name) (a b here key n : ℕ) (o : Option Stay)
    (xs : List Name) → (b ≡ a → ⊥) → (IsAmong (here, key) (chains b) → ⊥)
    → spent_in program bounds (with_pair stays here key o) (with_entry steps a n) (with_entry chains a xs) b
    ≡ spent_in program bounds stays steps chains b
spent_apart program bounds stays steps chains a b here key n o xs apart fresh =
    spent_other program bounds (with_pair stays here key o) steps chains a b n xs apart
    ∙ ap (λ k. steps b + k) (left_apart program bounds stays (chains b) here key o fresh)

-- and where its own change
pub spent_own : (program : Module) (bounds : List ℕ) (stays : Stays) (steps : ℕ → ℕ) (chains : ℕ → List Name) (a n : ℕ) (xs : List Name)
    → spent_in program bounds stays (with_entry steps a n) (with_entry chains a xs) a ≡ n + left_of_all program bounds stays xs
spent_own program bounds stays steps chains a n xs =
    ap (λ k. k + left_of_all program bounds stays (with_entry chains a xs a)) (at_key steps a n)
    ∙ ap (λ c. n + left_of_all program bounds stays c) (at_key chains a xs)

-- ---- the book

-- what a change of one activity keeps of it stays of all
pub kept_of : {V : Type 0} (part : Activity → V) (book : Book) (a : ℕ) (changed : Activity) → part (book.activities a) ≡ part changed
    → (let old : ℕ → V = λ b. part (book.activities b) in (λ b. part (with_entry book.activities a changed b)) ≡ old)
kept_of part book a changed e = map_entry part book.activities a changed (λ b. part (book.activities b)) (λ j. refl)
    ∙ entry_self (λ b. part (book.activities b)) a (part changed) e

-- a stay that isn't there is none of any activity
pub free_apart : (net : Net) (book : Book) (here key b : ℕ) → IsSound net book → stays_of net here key ≡ None → b < book.begun
    → IsAmong (here, key) (chains_of book b) → ⊥
free_apart net book here key b i free lt m = let there = ((stays_are_listed net book b here key i lt).0 m).0 in no_stay there.0 (sym free ∙ there.1)
