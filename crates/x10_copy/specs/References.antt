-- What is known of the global references among values.
use Rattle.std.specs.Prelude.{◌≡◌, ℕ, IsTrue, Some, slice_get}
use Rattle.x10_heap.specs.Words.{Context, is_named}
use Rattle.x10_model.specs.Maps.{IsIn}
use Rattle.x10_model.specs.Values.{Value, Ref}
use Rattle.x10_model.specs.Copies.{Node, Snapshot}

-- where the value is a global reference, this holds of its home, its number there and its class
abbrev pub OfReference : (ℕ → ℕ → ℕ → Type 0) → Value → Type 0
OfReference P (Ref home id class) = P home id class
OfReference P _ = Unit {0}

-- and so of each value of a snapshot
pub record OfReferences (P : ℕ → ℕ → ℕ → Type 0) (s : Snapshot) : Type 0 where
  pub roots : (v : Value) → IsIn v s.roots → OfReference P v
  pub fields : (k : ℕ) (node : Node) (v : Value) → slice_get s.nodes k ≡ Some node
      → IsIn v node.fields → OfReference P v

-- each global reference names an object of its class
abbrev pub AreNamed : Context → Snapshot → Type 0
AreNamed x s = OfReferences (λ home id class. IsTrue (is_named x home id class)) s

-- each one whose home is elsewhere does
abbrev pub AreNamedElsewhere : Context → Snapshot → Type 0
AreNamedElsewhere x s = OfReferences (λ home id class. (home ≡ x.here → ⊥)
    → IsTrue (x.far home id class)) s
