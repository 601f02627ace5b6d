-- Which places have activities, and which keys are in use there.
use Rattle.std.proofs.Common.{◌≡◌, ℕ, suc, ◌+◌, ◌<◌, ◌≤◌, ◌==◌, true, false, not, List, [], ◌∷◌, ◌++◌, length, map, get_or, Option, Some, None, is_some, count_by, cond, refl, sym, ap, subst, ◌∙◌, inl, inr, add-zero, zero-add, arith, Contains}
use Rattle.std.specs.Prelude.{◌-◌, IsSome, slice_get}
use Rattle.std.proofs.lemmas.Bool.{both_ways, eq-eqb, ne_eqb, not_from_true, not_from_false, cases_Bool, cases_eq}
use Rattle.std.proofs.lemmas.List.{get_or-map, nil_from_length, length-map}
use Rattle.std.proofs.lemmas.List.Sums.{sum_by-cons}
use Rattle.std.proofs.lemmas.Option.{same_Some, slice_get-get_or}
use Rattle.slab.specs.Slab.{get, slab_len, entries, entries_from, ContainsKey}
use Rattle.slab.proofs.SlabLemmas.{Contains-entries, length-entries, length-entries_from}
use Rattle.x10_model.proofs.Lists.{none_some}
use Rattle.x10_flights.specs.Flights.{RisingBy}
use Rattle.x10_place.specs.Opening.{keys_of}
use Rattle.x10_place.specs.Stays.{StayState}
use Rattle.x10_place.specs.StandsFor.{PlaceState}
use Rattle.x10_place.proofs.Openings.{is_some_is}
use Rattle.x10_world.specs.Living.{has_activity, lives_in, lives_at, keys_of_any, keys_at, live_in, live_at}
use Rattle.x10_world.specs.Queries.{HasPlace}

-- ---- one place

-- whose key it is
listed : (p : PlaceState) (key : ℕ) → ContainsKey p.stays key → (a : StayState) × Contains (entries p.stays) (key, a)
listed p key there = let a = is_some_is (get p.stays key) there in (a.0, (Contains-entries p.stays key a.0).1 a.1)

pub nobody_in : (p : PlaceState) → has_activity p ≡ false → (key : ℕ) → ContainsKey p.stays key → ⊥
nobody_in p none key there =
    let found = listed p key there in
    elim (cases_eq (slab_len p.stays) 0) [
      | inl e ↦ omega (arith, found.1.1, length-entries p.stays, e)
      | inr ne ↦ both_ways (not (slab_len p.stays == 0)) none (not_from_false (slab_len p.stays == 0) (ne_eqb (slab_len p.stays) 0 ne))
    ]

first_listed : (p : PlaceState) (es : List (ℕ × StayState)) → entries p.stays ≡ es → 0 < length es
    → (key : ℕ) × (a : StayState) × (get p.stays key ≡ Some a)
first_listed p [] e some = absurd (omega (arith, some))
first_listed p ((key, a) ∷ es) e some = (
  key,
  a,
  (Contains-entries p.stays key a).0
      (subst (λ xs. Contains xs (key, a)) (sym e) (0, omega arith, refl)),
)

pub somebody_in : (p : PlaceState) → has_activity p ≡ true → (key : ℕ) × ContainsKey p.stays key
somebody_in p some = elim (cases_eq (slab_len p.stays) 0) [
  | inl e ↦ absurd (both_ways (not (slab_len p.stays == 0)) (not_from_true (slab_len p.stays == 0) (eq-eqb (slab_len p.stays) 0 e)) some)
  | inr ne ↦
      let found = first_listed p (entries p.stays) refl (omega (arith, length-entries p.stays, ne)) in
      (found.0, subst (λ o. IsSome o) (sym found.2) refl)
]

-- ---- places

-- an activity with the key is at the place
abbrev pub Lives : List PlaceState → ℕ → ℕ → Type 0
Lives places id key = HasPlace places id (λ p. ContainsKey p.stays key)

pub lives_is : (places : List PlaceState) (id : ℕ) → lives_at places id ≡ true → (key : ℕ) × Lives places id key
lives_is places id = at (slice_get places id) refl
  where
    at : (o : Option PlaceState) → slice_get places id ≡ o → lives_in o ≡ true → (key : ℕ) × Lives places id key
    at None e t = absurd (both_ways false refl t)
    at (Some p) e t = let found = somebody_in p t in (found.0, (p, e, found.1))

pub is_lives : (places : List PlaceState) (id key : ℕ) → Lives places id key → lives_at places id ≡ true
is_lives places id key there = elim (cases_Bool (lives_at places id)) [
  | inl t ↦ t
  | inr f ↦ absurd (nobody_in there.0 (sym (ap lives_in there.1) ∙ f) key there.2)
]

-- ---- lists of keys

-- all of some numbers have something
abbrev pub Every : (ℕ → Type 0) → List ℕ → Type 0
Every U [] = Unit {0}
Every U (k ∷ ks) = U k × Every U ks

pub every_push : (U : ℕ → Type 0) (ks : List ℕ) (k : ℕ) → Every U ks → U k → Every U (ks ++ k ∷ [])
every_push U [] k h u = (u, tt)
every_push U (x ∷ xs) k h u = (h.0, every_push U xs k h.1 u)

pub rising_more : (low : ℕ) (ks : List ℕ) (top k : ℕ) → low ≤ top → RisingBy (λ n. n) low ks top → top ≤ k
    → RisingBy (λ n. n) low (ks ++ k ∷ []) (k + 1)
rising_more low [] top k l r h = (omega (arith, l, h), omega arith, tt)
rising_more low (x ∷ xs) top k l r h = (r.0, omega (arith, r.1, h), rising_more (x + 1) xs top k (omega (arith, r.1)) r.2 h)

abbrev keys_from : ℕ → List (Option StayState) → List ℕ
keys_from first slots = map (λ e. e.0) (entries_from first slots)

module _ (U : ℕ → Type 0) where
  -- what is in use among the slots from a key on
  abbrev Uses : ℕ → List (Option StayState) → Type 0
  Uses first slots = (n : ℕ) → U (first + n) → (a : StayState) × (get_or slots n None ≡ Some a)

  later : (first : ℕ) (slot : Option StayState) (slots : List (Option StayState)) → Uses first (slot ∷ slots) → Uses (first + 1) slots
  later first slot slots uses n u = uses (suc n) (let e : first + 1 + n ≡ first + suc n = omega arith in subst U e u)

  count-cons : (slot : Option StayState) (slots : List (Option StayState))
      → count_by is_some (slot ∷ slots) ≡ cond (is_some slot) 1 0 + count_by is_some slots
  count-cons slot slots = sum_by-cons (λ o. cond (is_some o) 1 0) slot slots

  -- There are no more such keys than are in use; and where there are as many, they are those.
  record Fits (first : ℕ) (slots : List (Option StayState)) (keys : List ℕ) : Type 0 where
    few : length keys ≤ count_by is_some slots
    same : length keys ≡ count_by is_some slots → keys ≡ keys_from first slots

  fits_none : (first : ℕ) (slots : List (Option StayState)) → Fits first slots []
  fits_none first slots = record {
    few = omega arith;
    same = λ e. sym (nil_from_length (keys_from first slots) (length-map (entries_from first slots) (λ x. x.0) ∙ length-entries_from first slots
        ∙ sym e));
  }

  -- the first slot's key is the first of the keys
  fits_here : (first : ℕ) (slot : Option StayState) (slots : List (Option StayState)) (k : ℕ) (ks : List ℕ) → k ≡ first
      → (a : StayState) × (slot ≡ Some a) → Fits (first + 1) slots ks → Fits first (slot ∷ slots) (k ∷ ks)
  fits_here first None slots k ks e there rest = absurd (none_some None there.0 refl there.1)
  fits_here first (Some a) slots k ks e there rest = record {
    few = omega (arith, rest.few, count-cons (Some a) slots);
    same = λ all. ap (λ n. n ∷ ks) e ∙ ap (λ xs. first ∷ xs) (rest.same (omega (arith, all, count-cons (Some a) slots)));
  }

  -- it is none of them
  fits_behind : (first : ℕ) (slot : Option StayState) (slots : List (Option StayState)) (keys : List ℕ) → Fits (first + 1) slots keys
      → Fits first (slot ∷ slots) keys
  fits_behind first None slots keys rest = record {
    few = omega (arith, rest.few, count-cons None slots);
    same = λ all. rest.same (omega (arith, all, count-cons None slots));
  }
  fits_behind first (Some a) slots keys rest = record {
    few = omega (arith, rest.few, count-cons (Some a) slots);
    same = λ all. absurd (omega (arith, rest.few, all, count-cons (Some a) slots));
  }

  fits : (first : ℕ) (slots : List (Option StayState)) (keys : List ℕ) (top : ℕ) → Uses first slots → RisingBy (λ n. n) first keys top → Every U keys
      → Fits first slots keys
  fits first slots [] top uses rising every = fits_none first slots
  fits first [] (k ∷ ks) top uses rising every =
      let e : k ≡ first + (k - first) = omega (arith, rising.0) in
      absurd (none_some None (uses (k - first) (subst U e every.0)).0 refl (uses (k - first) (subst U e every.0)).1)
  fits first (slot ∷ slots) (k ∷ ks) top uses rising every = elim (cases_eq k first) [
    | inl e ↦ fits_here first slot slots k ks e (uses 0 (subst U (e ∙ sym (add-zero first)) every.0))
        (fits (first + 1) slots ks top (later first slot slots uses) (subst (λ n. RisingBy (λ m. m) (n + 1) ks top) e rising.2) every.1)
    | inr ne ↦ fits_behind first slot slots (k ∷ ks) (fits (first + 1) slots (k ∷ ks) top (later first slot slots uses)
        (omega (arith, rising.0, ne), rising.1, rising.2) every)
  ]

-- Keys in use at a place, by rising number, are all that are in use there, if there are as many.
pub exact_at : (places : List PlaceState) (id : ℕ) (keys : List ℕ) (top : ℕ) → RisingBy (λ n. n) 0 keys top → Every (Lives places id) keys
    → length keys ≡ live_at places id → keys ≡ keys_at places id
exact_at places id keys top rising every = at (slice_get places id) refl
  where
    at : (o : Option PlaceState) → slice_get places id ≡ o → length keys ≡ live_in o → keys ≡ keys_of_any o
    at None e all = nil_from_length keys all
    at (Some p) e all =
        (fits (Lives places id) 0 p.stays.slots keys top
        (λ n u. is_some_is (get p.stays n) (subst (λ (q : PlaceState). ContainsKey q.stays n) (same_Some u.0 p (sym u.1 ∙ e))
        (subst (λ m. ContainsKey u.0.stays m) (zero-add n) u.2))) rising every).same all

-- each key in use is among them
pub is_listed : (places : List PlaceState) (id key : ℕ) → Lives places id key → (at : ℕ) × (slice_get (keys_at places id) at ≡ Some key)
is_listed places id key there =
    let p = there.0 in
    let found = listed p key there.2 in
    let at = found.1.0 in
    let es = entries p.stays in (
      at,
      ap (λ o. slice_get (keys_of_any o) at) there.1
          ∙ slice_get-get_or (keys_of p.stays) at key (subst (λ n. at < n) (sym (length-map es (λ x. x.0))) found.1.1)
          ∙ ap Some (get_or-map (λ (x : ℕ × StayState). x.0) es at (key, found.0) key found.1.1 ∙ ap (λ (x : ℕ × StayState). x.0) found.1.2),
    )
