-- The first numbers of the queues.
use Rattle.std.proofs.Common.{◌≡◌, ℕ, ◌+◌, ◌≢◌, true, List, [], ◌∷◌, ◌++◌, Some, slice_get, ◌∙◌, ap, arith, inl, inr}
use Rattle.std.proofs.lemmas.Bool.{cases_eq, both_ways, false_from_ne_true, ne_eqb}
use Rattle.x10_flights.specs.Flights.{Flight, flight_among, goes_to, flies_to, without, RisingBy, IsNext, FirstFlies, Has, has_any}
use Rattle.x10_flights.proofs.FlightsQueues.{above}
use Rattle.x10_flights.proofs.FlightsLookups.{flies_more, flies_new, among_others}

-- a frame more leaves the first numbers in flight
pub begins_more : (fs : List Flight) (x : Flight) (p : ℕ) (ns : List ℕ) → RisingBy (λ f. f.number) 0 fs x.number → FirstFlies fs p ns
    → FirstFlies (fs ++ x ∷ []) p ns
begins_more fs x p [] r h = tt
begins_more fs x p (n ∷ ns) r h = flies_more 0 fs x p n r h

pub begins_posted : (fs : List Flight) (x : Flight) (ns : List ℕ) → RisingBy (λ f. f.number) 0 fs x.number → FirstFlies fs x.to ns
    → FirstFlies (fs ++ x ∷ []) x.to (ns ++ x.number ∷ [])
begins_posted fs x [] r h = flies_new 0 fs x r
begins_posted fs x (n ∷ ns) r h = flies_more 0 fs x x.to n r h

-- a frame fewer leaves those to other places in flight
pub begins_without : (number : ℕ) (fs : List Flight) (p : ℕ) (gone : Flight) (ns : List ℕ) → flight_among fs number ≡ Some gone → gone.to ≢ p
    → FirstFlies fs p ns → FirstFlies (without number fs) p ns
begins_without number fs p gone [] is apart h = tt
begins_without number fs p gone (n ∷ ns) is apart h = elim (cases_eq n number) [
  | inl e ↦ absurd (both_ways (flies_to fs p n) (ap (goes_to p) (ap (flight_among fs) e ∙ is) ∙ ne_eqb gone.to p apart) h)
  | inr u ↦ ap (goes_to p) (among_others number fs n u) ∙ h
]

-- the first number is the least of a frame in flight
pub first_is_next : (fs : List Flight) (p : ℕ) (ns : List ℕ) (top : ℕ) → RisingBy (λ n. n) 0 ns top → ((n : ℕ) → flies_to fs p n ≡ true → Has ns n)
    → FirstFlies fs p ns → IsNext (flies_to fs p) 0 (slice_get ns 0)
first_is_next fs p [] top r all b = λ m l. false_from_ne_true (flies_to fs p m) (λ t. all m t)
first_is_next fs p (n ∷ ns) top r all b = record {
  not_before = omega arith;
  passes = b;
  least = λ m l t. elim (all m t) [ inl e ↦ omega arith | inr h ↦ omega (arith, above (n + 1) ns top m r.2 h) ];
}

pub first_of : (fs : List Flight) (p : ℕ) (ns : List ℕ) → has_any ns ≡ true → FirstFlies fs p ns → (n : ℕ) × (flies_to fs p n ≡ true)
first_of fs p [] e b = absurd (cc)
first_of fs p (n ∷ ns) e b = (n, b)
