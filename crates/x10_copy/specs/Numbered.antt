-- Parts with numbers of their own, and where each part's number is looked up.
use Rattle.std.specs.Prelude.{◌≡◌, ℕ, ◌<◌, ◌≤◌, List, length, slice_index}
use Rattle.x10_model.specs.declared.limits.TheConstants.{MOST_WIDE}

-- each part has its number at its place; what stands at other places is open
pub record AreNumbered (places parts : List ℕ) : Type 0 where
  pub few : length parts ≤ MOST_WIDE
  pub there : (k : ℕ) → k < length parts → slice_index parts k < length places
  pub back : (k : ℕ) → k < length parts → slice_index places (slice_index parts k) ≡ k
