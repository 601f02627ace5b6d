-- Waits at the end of a finish that aren't longer than they have to be.
use Rattle.std.specs.Prelude.{◌≡◌, ℕ, List, false, ◌∷◌, Some}
use Rattle.x10_model.specs.declared.event.Event.{Event}
use Rattle.x10_model.specs.declared.finish.Finish.{Finish}
use Rattle.x10_model.specs.Places.{Setting, Stay, Waits}
use Rattle.x10_model.specs.Worlds.{World, Rule, Happens, steps, delivers, idle, HasEnded}
use Rattle.x10_finish.specs.Nesting.{stays_of}
use Rattle.x10_finish.specs.Watching.{NothingFlies}

-- no activity that the finish governs lives, and no message flies
pub record MayEnd (w : World) (f : Finish) : Type 0 where
  pub ended : HasEnded w f
  pub none_flies : NothingFlies w.net

-- the activity with a key at a place works, and the finish with a number is the innermost that it has open there
pub record WorksIn (w : World) (here key number : ℕ) : Type 0 where
  pub stay : Stay
  pub outer : List ℕ
  pub is_there : stays_of w.net here key ≡ Some stay
  pub is_ready : stay.away ≡ false
  pub innermost_is : stay.finishes ≡ number ∷ outer

-- a step waits at the end of a finish only where the finish may not end
abbrev pub IsPrompt : (rule : Rule) (setting : Setting) (w : World) (event : Event) (v : World)
    → Happens rule setting w event v → Type 0
IsPrompt rule setting w event v (steps here key u s) = (number : ℕ) → s.effect ≡ Waits number
    → MayEnd w (record { home = here; number = number }) → ⊥
IsPrompt rule setting w event v (delivers number u d) = Unit {0}
IsPrompt rule setting w event v (idle e i) = Unit {0}
