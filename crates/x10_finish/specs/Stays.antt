-- What a move changes of the stays at its place, told by its effect alone.
use Rattle.std.specs.Prelude.{◌≡◌, ℕ, ◌+◌, Bool, true, false, List, [], ◌∷◌, Option, Some, None}
use Rattle.x10_model.specs.Maps.{with_entry}
use Rattle.x10_model.specs.Copies.{Snapshot}
use Rattle.x10_model.specs.Places as places
use Rattle.x10_model.specs.Moves.{Moves}
use Rattle.x10_model.specs.declared.finish.Finish.{Finish}
use Rattle.x10_model.specs.Places.{Setting, Origin, Stay, Message, Spawn, Shift, Back, innermost, Effect, Waits, Works, Begins, Spawns}
use Rattle.x10_model.specs.Places.{Shifts, Opens, Closes, Ends}

-- a stay goes on with such finishes, away or not; what it inherited and where its result goes stay
pub record GoesOn (s : Stay) (finishes : List ℕ) (away : Bool) (t : Stay) : Type 0 where
  pub finishes_are : t.finishes ≡ finishes
  pub away_is : t.away ≡ away
  pub inherited : t.inherited ≡ s.inherited
  pub back : t.back ≡ s.back

-- a stay that begins under a finish
pub record IsNew (under : Finish) (back : Option Origin) (t : Stay) : Type 0 where
  pub finishes : t.finishes ≡ []
  pub away : t.away ≡ false
  pub inherited : t.inherited ≡ under
  pub back_is : t.back ≡ back

-- one stay of a place is another or none now, and so many finishes were opened
pub record Rewrites (old : places.Place) (key : ℕ) (stay : Option Stay) (opened : ℕ)
    (new : places.Place) : Type 0 where
  pub stays : new.stays ≡ with_entry old.stays key stay
  pub opened_is : new.opened ≡ opened

-- the message that takes a result back, if it is awaited
abbrev pub IsWayBack : ℕ → Option Origin → Option Message → Type 0
IsWayBack here None message = message ≡ None
IsWayBack here (Some origin) message = (graph : Snapshot)
    × (message ≡ Some (Back here origin.place origin.key graph))

-- what the move of the stay with a key changes
abbrev pub Changes : ℕ → places.Place → ℕ → Stay → places.Place → Effect → Type 0
Changes here old key s new (Waits number) = new ≡ old
Changes here old key s new Works = (t : Stay) × GoesOn s s.finishes false t
    × Rewrites old key (Some t) old.opened new
Changes here old key s new (Begins other function under) = (t u : Stay)
    × GoesOn s s.finishes false t × IsNew under None u × (under ≡ innermost here s)
    × (old.stays other ≡ None)
    × (new.stays ≡ with_entry (with_entry old.stays key (Some t)) other (Some u))
    × (new.opened ≡ old.opened)
Changes here old key s new (Spawns message function under) = (t : Stay) × (to : ℕ)
    × (graph : Snapshot) × GoesOn s s.finishes false t
    × (under ≡ innermost here s) × (message ≡ Spawn here to under function graph)
    × Rewrites old key (Some t) old.opened new
Changes here old key s new (Shifts message under) = (t : Stay) × (to function : ℕ)
    × (graph : Snapshot) × GoesOn s s.finishes true t
    × (under ≡ innermost here s) × (message ≡ Shift here to key under function graph)
    × Rewrites old key (Some t) old.opened new
Changes here old key s new (Opens number inside) = (t : Stay)
    × GoesOn s (number ∷ s.finishes) false t × (number ≡ old.opened) × (inside ≡ innermost here s)
    × Rewrites old key (Some t) (old.opened + 1) new
Changes here old key s new (Closes number) = (t : Stay) × (rest : List ℕ)
    × (s.finishes ≡ number ∷ rest) × GoesOn s rest false t
    × Rewrites old key (Some t) old.opened new
Changes here old key s new (Ends under back) = (s.finishes ≡ []) × (under ≡ s.inherited)
    × IsWayBack here s.back back × Rewrites old key None old.opened new

-- the move of a stay that is ready
pub record MovesStay (here : ℕ) (old : places.Place) (key : ℕ) (new : places.Place)
    (effect : Effect) : Type 0 where
  pub stay : Stay
  pub is_there : old.stays key ≡ Some stay
  pub is_ready : stay.away ≡ false
  pub changes : Changes here old key stay new effect

abbrev pub StaysChange : Type 0
StaysChange = (setting : Setting) (here key : ℕ) (old new : places.Place) (effect : Effect)
    → Moves setting here old key new effect
    → MovesStay here old key new effect
