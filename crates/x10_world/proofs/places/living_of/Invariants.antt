use Rattle.std.specs.Prelude.{◌≡◌, ℕ, ◌<◌, ◌≤◌, false}
use Rattle.x10_flights.specs.PlaceSets.{has_place}
use Rattle.x10_world.specs.Living.{lives_at}
use Rattle.x10_world.proofs.places.living_of.Given as goal

-- the places below the counter are noted
abbrev pub invariant-loop-id : goal.invariant-loop-id
invariant-loop-id l = record {
  known : (p : ℕ) → p < l.id → has_place l.living p ≡ lives_at l.list p;
  others : (p : ℕ) → l.id ≤ p → has_place l.living p ≡ false;
}
