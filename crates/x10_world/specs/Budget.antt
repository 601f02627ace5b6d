-- Budgets of steps: what an activity has taken, with what its stays can still take and what the message that carries it
-- will begin, is within the bound of its first function.
use Rattle.std.specs.Prelude.{◌≡◌, ℕ, ◌+◌, ◌<◌, ◌≤◌, Bool, List, [], ◌∷◌, take, Option, Some, None, Ok, if◌then◌else◌, slice_get, slice_index}
use Rattle.x10_model.specs.declared.event.Event.{Event}
use Rattle.x10_model.specs.Modules.{Module}
use Rattle.x10_model.specs.Structure.{bounds_of}
use Rattle.x10_model.specs.Places as places
use Rattle.x10_model.specs.Places.{Setting, CallFrame, Stay, Message, Spawn, Shift, Back, Effect}
use Rattle.x10_model.specs.Moves.{Moves}
use Rattle.x10_model.specs.Worlds.{Flying, World, Rule, Quiet, Delivers, Happens, Run, WithinBounds, opening}
use Rattle.x10_image.specs.Parts.{code_at}
use Rattle.x10_bounds.specs.Potential.{potential}
use Rattle.x10_finish.specs.Watching.{world_after}
use Rattle.x10_finish.specs.Nesting.{Stays, stays_of}
use Rattle.x10_finish.specs.Chains.{Name}
use Rattle.x10_finish.specs.Closing.{chains_of, IsSound}

-- ---- what can still be taken

-- how many steps a call frame can still take from an instruction on, its loops turning as often as its slots say
abbrev pub left_in : Module → List ℕ → CallFrame → ℕ → ℕ
left_in program bounds frame pc = potential (take frame.function bounds)
    (code_at program frame.function) pc frame.loops

-- how many the callers can, each from the instruction after its call
abbrev pub left_after : Module → List ℕ → List CallFrame → ℕ
left_after program bounds [] = 0
left_after program bounds (caller ∷ callers) =
    left_in program bounds caller (caller.pc + 1) + left_after program bounds callers

-- where a stay goes on: at its instruction, or behind its at, where it is away
abbrev pub goes_on_at : Bool → ℕ → ℕ
goes_on_at away pc = if away then pc + 1 else pc

-- how many steps a stay can still take itself
abbrev pub left_of : Module → List ℕ → Stay → ℕ
left_of program bounds s = left_in program bounds s.top
    (goes_on_at s.away s.top.pc) + left_after program bounds s.callers

-- where there is none, none
abbrev pub left_of_any : Module → List ℕ → Option Stay → ℕ
left_of_any program bounds None = 0
left_of_any program bounds (Some s) = left_of program bounds s

-- how many the stays with such names can
abbrev pub left_of_all : Module → List ℕ → Stays → List Name → ℕ
left_of_all program bounds stays [] = 0
left_of_all program bounds stays (x ∷ xs) =
    left_of_any program bounds (stays x.0 x.1) + left_of_all program bounds stays xs

-- how many the stay can that a message begins: those of its function; one that a result comes back to has counted its own
abbrev pub left_for : List ℕ → Message → ℕ
left_for bounds (Spawn from to under function graph) = slice_index bounds function
left_for bounds (Shift from to waiting under function graph) = slice_index bounds function
left_for bounds (Back from to waiting graph) = 0

-- what an activity has taken, with what its stays can still take
abbrev pub spent_by : Module → List ℕ → World → ℕ → ℕ
spent_by program bounds w a = (w.book.activities a).steps + left_of_all program bounds
    (stays_of w.net) (chains_of w.book a)

-- ---- the budget

-- each activity is within its bound, with what its stays can still take, and with what the message will begin that carries
-- it, where one flies
pub record IsWithinBudget (program : Module) (bounds : List ℕ) (w : World) : Type 0 where
  pub stays : (a bound : ℕ) → a < w.book.begun
      → slice_get bounds (w.book.activities a).function ≡ Some bound
      → spent_by program bounds w a ≤ bound
  pub carried : (number bound : ℕ) (message : Message) → w.net.posts number ≡ Flying message
      → slice_get bounds (w.book.activities (w.book.carries number)).function ≡ Some bound
      → spent_by program bounds w (w.book.carries number) + left_for bounds message ≤ bound

-- ---- laws

abbrev pub BudgetAtOpening : Type 0
BudgetAtOpening = (setting : Setting) (key : ℕ) (bounds : List ℕ)
    → bounds_of setting.program ≡ Ok bounds
    → IsWithinBudget setting.program bounds (opening setting key)

abbrev pub BudgetAfterMove : Type 0
BudgetAfterMove = (setting : Setting) (bounds : List ℕ) (w : World) (here key number : ℕ)
    (old new : places.Place) (effect : Effect)
    → bounds_of setting.program ≡ Ok bounds → IsSound w.net w.book
    → IsWithinBudget setting.program bounds w
    → w.net.places here ≡ Some old → Moves setting here old key new effect
    → IsWithinBudget setting.program bounds (world_after w here key new effect number)

abbrev pub BudgetAfterDelivery : Type 0
BudgetAfterDelivery = (setting : Setting) (bounds : List ℕ) (w v : World) (number : ℕ)
    → bounds_of setting.program ≡ Ok bounds → IsSound w.net w.book
    → IsWithinBudget setting.program bounds w
    → Delivers setting w number v → IsWithinBudget setting.program bounds v

-- the same of any event, whenever finishes may close
abbrev pub BudgetAfterEvent : Type 0
BudgetAfterEvent = (rule : Rule) (setting : Setting) (bounds : List ℕ) (w v : World) (event : Event)
    → bounds_of setting.program ≡ Ok bounds
    → IsSound w.net w.book → IsWithinBudget setting.program bounds w
    → Happens rule setting w event v → IsWithinBudget setting.program bounds v

-- activities within their budgets have taken no more steps than their bounds
abbrev pub BudgetBounds : Type 0
BudgetBounds = (program : Module) (bounds : List ℕ) (w : World) → IsWithinBudget program bounds w
    → WithinBounds bounds w

-- so in each world of a run no activity has
abbrev pub RunsAreWithinBounds : Type 0
RunsAreWithinBounds = (setting : Setting) (key : ℕ) (bounds : List ℕ) (events : List Event)
    (w : World) → 0 < setting.places
    → bounds_of setting.program ≡ Ok bounds
    → Run Quiet setting (λ u. Unit {0}) (opening setting key) events w
    → Run Quiet setting (WithinBounds bounds) (opening setting key) events w
