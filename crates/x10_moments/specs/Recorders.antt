-- What makes the moments of a run.
use Rattle.std.specs.Prelude.{◌≡◌, ℕ, List, ◌++◌, length, Option, Some, None, slice_get, slice_set}
use Rattle.x10_model.specs.Modules.{Module}
use Rattle.x10_place.specs.StandsFor.{PlaceState}
use Rattle.x10_verify.specs.Flows.{FlowFacts}
use Rattle.x10_world.specs.StandsForWorld.{WorldState}
use Rattle.x10_states.specs.Kinds.{AreLeast}
use Rattle.x10_moments.specs.Moments.{AreShown, IsShown, Shown, first_moment}
use Rattle.x10_moments.specs.Pages.{page_front}

-- the module, what is known of its functions, and what each place showed last
pub record RecorderState : Type 0 where
  pub program : Module
  pub kinds : List FlowFacts
  pub places : List Shown

-- A page was begun of a world of a module, before which so many events were made: what is known of its functions are their least
-- assignments, what is kept is what the places show, and the text says that, and which frames are in flight.
pub record IsBegun (program : Module) (x : WorldState) (before : ℕ) (r : RecorderState)
    (text : List ℕ) : Type 0 where
  pub program_is : r.program ≡ program
  pub least : AreLeast r.program r.kinds
  pub shown : AreShown r.program r.kinds x.places r.places
  pub text_is : text ≡ page_front r.program (length x.places) before x.flights
      ++ first_moment r.places

-- what is kept is what a place shows now, if one is named, and else as it was
abbrev pub Updates : Module → List FlowFacts → WorldState → Option ℕ → (old new : List Shown) → Type 0
Updates program kinds x None old new = new ≡ old
Updates program kinds x (Some id) old new = (p : PlaceState) × (s : Shown)
    × (slice_get x.places id ≡ Some p) × IsShown program kinds p s × (new ≡ slice_set old id s)
