-- What is true of places, however their steps are made.
use Rattle.std.specs.Prelude.{ℕ}
use Rattle.x10_model.specs.Places as machine
use Rattle.x10_place.specs.declared.sent.Sent.{Sent}
use Rattle.x10_place.specs.StandsFor.{PlaceState, Far, StandsFor, IsIdleAt}
use Rattle.x10_place.specs.Stretches.{IsStride}

-- A step of the activity with a key, at a place that stands for one of the machine, is a move; and where it makes one, the
-- activity isn't idle.
abbrev pub NoStrideIsIdle : Type 0
NoStrideIsIdle = (far : Far) (p : PlaceState) (m : machine.Place) (key : ℕ) (out : Sent)
    (q : PlaceState) → StandsFor far p m → IsStride key p out q
    → IsIdleAt p key → ⊥
