-- A worked run over three places: an activity shifts, begins another at a third place, comes back and waits for it.
use Rattle.std.specs.Prelude.{◌≡◌, ℕ, pos, List, [], ◌∷◌, Some, None}
use Rattle.x10_code.specs.declared.op.Op.TheVariants as op
use Rattle.x10_model.specs.declared.event.Event.{Event}
use Rattle.x10_model.specs.declared.event.Event.TheVariants.{Step, Deliver}
use Rattle.x10_model.specs.declared.version.ImageVersion.TheVariants.{One}
use Rattle.x10_model.specs.Modules.{Module}
use Rattle.x10_model.specs.Places as places
use Rattle.x10_model.specs.Places.{Setting, Line, Number}
use Rattle.x10_model.specs.Worlds.{Ideal, World, Run, WithinBounds, opening}
use Rattle.x10_model.specs.Examples.{instr, plain_function, on_places}

-- main opens a finish, goes to place 1 and waits at its end, and then prints 9; at place 1 an activity is begun at place 2,
-- which prints 5
abbrev pub relay : Module
relay = record {
  version = One;
  least_places = 3;
  classes = [];
  ints = pos 5 ∷ pos 9 ∷ [];
  texts = [];
  functions = plain_function 1 0 (instr op.Intk 0 0 0 0 ∷ instr op.Print 0 0 0 0
      ∷ instr op.Ret 0 0 0 0 ∷ [])
      ∷ plain_function 1 0 (instr op.Placek 0 0 0 2 ∷ instr op.Ata 0 0 0 0 ∷ instr op.Ret 0 0 0 0
      ∷ [])
      ∷ plain_function 1 0 (instr op.Finb 0 0 0 0 ∷ instr op.Placek 0 0 0 1 ∷ instr op.At 0 0 0 1
      ∷ instr op.Fine 0 0 0 0
      ∷ instr op.Intk 0 0 0 1 ∷ instr op.Print 0 0 0 0 ∷ instr op.Ret 0 0 0 0 ∷ [])
      ∷ [];
  entry = 2;
}

abbrev pub relaying : Setting
relaying = on_places 3 relay

abbrev pub relay_bounds : List ℕ
relay_bounds = 3 ∷ 3 ∷ 10 ∷ []

-- message 0 shifts, 1 begins the other activity, 2 comes back; once it is back, main waits until the other has ended
abbrev pub relay_events : List Event
relay_events =
    Step 0 0 ∷ Step 0 0 ∷ Step 0 0 ∷ Deliver 0 ∷ Step 1 0 ∷ Step 1 0 ∷ Step 1 0 ∷ Deliver 2
    ∷ Step 0 0 ∷ Deliver 1
    ∷ Step 2 0 ∷ Step 2 0 ∷ Step 2 0 ∷ Step 0 0 ∷ Step 0 0 ∷ Step 0 0 ∷ Step 0 0 ∷ []

-- a place with these lines where nobody is left
abbrev pub EndsWith : World → ℕ → List Line → Type 0
EndsWith w p lines = (place : places.Place) × (w.net.places p ≡ Some place) × (place.lines ≡ lines)
    × (place.stays 0 ≡ None)

-- by the ideal rule, each activity within its bound, to a world whose places have printed 9, nothing and 5
abbrev pub RelayRuns : Type 0
RelayRuns = (w : World) × Run Ideal relaying (WithinBounds relay_bounds)
    (opening relaying 0) relay_events w
    × EndsWith w 0 (Number (pos 9) ∷ []) × EndsWith w 1 [] × EndsWith w 2 (Number (pos 5) ∷ [])
