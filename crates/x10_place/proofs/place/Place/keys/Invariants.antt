use Rattle.std.specs.Prelude.{◌≡◌, ◌++◌, map}
use Rattle.x10_place.specs.Opening.{keys_of}
use Rattle.x10_place.proofs.place.Place.keys.Given as goal

-- the keys so far, and those of the entries that are left
abbrev pub invariant-loop-key : goal.invariant-loop-key
invariant-loop-key l =
    (goal.iterator-loop-key).can_next l.key-iterator
    × ((goal.iterator-loop-key).is_finite l.key-iterator
    × (l.keys.items ++ map (λ e. e.0) l.key-iterator ≡ keys_of l.self.stays))
