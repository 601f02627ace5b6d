-- Stays under their keys: what a step leaves there.
use Rattle.std.proofs.Common.{◌≡◌, ℕ, Some, None, refl, sym, subst, ◌∙◌}
use Rattle.std.specs.Prelude.{IsSome}
use Rattle.slab.specs.Slab.{Slab, get, Updates, ContainsKey, with_value}
use Rattle.slab.proofs.SlabLemmas.{Updates-with_value}
use Rattle.x10_place.specs.Stays.{StayState}

contains : (slab : Slab StayState) (key : ℕ) (a : StayState) → get slab key ≡ Some a → ContainsKey slab key
contains slab key a e = subst (λ o. IsSome o) (sym e) refl

-- a stay was written
pub written : (slab : Slab StayState) (key : ℕ) (a b : StayState) → get slab key ≡ Some a → Updates slab (with_value slab key b) key (Some b)
written slab key a b e = Updates-with_value slab key b (contains slab key a e)

-- a stay was written, and taken away
pub removed : (slab new : Slab StayState) (key : ℕ) (a b : StayState) → get slab key ≡ Some a → Updates (with_value slab key b) new key None
    → Updates slab new key None
removed slab new key a b e up = record { changed = up.changed; others = λ k ne. up.others k ne ∙ (written slab key a b e).others k ne }
