-- Handles: what is behind them, and what is done with it.
use Rattle.std.specs.Prelude.{◌≡◌, Option, Some}
use Rattle.x10_handles.specs.declared.handle.Handle.{Handle}
use Rattle.x10_handles.specs.declared.inside.Inside.{Inside}
use Rattle.x10_handles.specs.declared.inside.Inside.TheVariants as inside
use Rattle.x10_handles.specs.declared.station.Station.{Station}

-- what is behind a handle; none where it is closed
abbrev pub inside_of : Handle → Option Inside
inside_of h = h.held.inside

-- the handle is closed, or has something else than a place
abbrev pub IsNoPlace : Option Inside → Type 0
IsNoPlace i = (s : Station) → i ≡ Some (inside.Place s) → ⊥

-- a call that asks a place found none behind the handle, and changed nothing
abbrev pub LacksPlace : Handle → Handle → Type 0
LacksPlace old new = IsNoPlace (inside_of old) × (inside_of new ≡ inside_of old)

-- a place is behind the handle before and after a call, and they are in a relation
abbrev pub Works : Handle → Handle → (Station → Station → Type 0) → Type 0
Works old new Acts = (s : Station) × (t : Station) × (inside_of old ≡ Some (inside.Place s))
    × (inside_of new ≡ Some (inside.Place t)) × Acts s t

-- the same where the place stays as it is
abbrev pub Shows : Handle → Handle → (Station → Type 0) → Type 0
Shows old new Has = (s : Station) × (inside_of old ≡ Some (inside.Place s))
    × (inside_of new ≡ inside_of old) × Has s

-- what is behind a handle is no place, and stays
abbrev pub LacksIn : Inside → Inside → Type 0
LacksIn old new = ((s : Station) → old ≡ inside.Place s → ⊥) × (new ≡ old)

-- what is behind a handle is a place before and after a call, and they are in a relation
abbrev pub Alters : Inside → Inside → (Station → Station → Type 0) → Type 0
Alters old new Acts = (s : Station) × (t : Station) × (old ≡ inside.Place s)
    × (new ≡ inside.Place t) × Acts s t
