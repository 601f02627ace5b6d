-- Enclosing finishes.
use Rattle.std.proofs.Common.{Option}
use Rattle.x10_model.specs.declared.finish.Finish.{Finish}
use Rattle.x10_model.specs.Worlds.{IsWithin, itself, enclosed}

pub IsWithin-trans : (enclosing : Finish → Option Finish) (outer middle inner : Finish) → IsWithin enclosing outer middle
    → IsWithin enclosing middle inner → IsWithin enclosing outer inner
IsWithin-trans enclosing outer middle inner h itself = h
IsWithin-trans enclosing outer middle inner h (enclosed f g e rest) = enclosed f g e (IsWithin-trans enclosing outer middle g h rest)
