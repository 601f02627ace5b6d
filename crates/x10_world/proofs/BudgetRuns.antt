-- Activities are within their budgets in every run: at the opening, after each event, and so in each world on the way.
use Rattle.std.proofs.Common.{◌≡◌, ℕ, ◌≤◌, Bool, true, false, List, [], take, Option, Some, None, Ok, if◌then◌else◌, refl, sym, ap, subst, arith}
use Rattle.std.specs.Prelude.{nat_lt}
use Rattle.x10_model.specs.declared.event.Event.{Event}
use Rattle.x10_model.specs.Modules.{Module, Function}
use Rattle.x10_model.specs.Ranges.{function_at}
use Rattle.x10_model.specs.Structure.{bounds_of}
use Rattle.x10_model.specs.Values.{Value}
use Rattle.x10_model.specs.declared.finish.Finish.{Finish}
use Rattle.x10_model.specs.Places.{Setting, root, Origin, Stay}
use Rattle.x10_model.specs.Moves.{new_stay}
use Rattle.x10_model.specs.Worlds as worlds
use Rattle.x10_model.specs.Worlds.{World, WithinBounds, first_place, opening, Rule, Quiet, Happens, steps, delivers, idle, Run, done}
use Rattle.x10_model.proofs.Maps.{at_key}
use Rattle.x10_finish.specs.Nesting.{stays_in}
use Rattle.x10_finish.specs.Closing.{IsSound}
use Rattle.x10_finish.proofs.QuietClosings.{sound_opening, sound_happens}
use Rattle.x10_image.specs.Parts.{code_in, code_at}
use Rattle.x10_bounds.specs.Potential.{potential}
use Rattle.x10_finish.specs.Watching.{world_after}
use Rattle.x10_world.specs.Budget.{left_of, left_of_any, IsWithinBudget, BudgetAtOpening, BudgetAfterEvent, BudgetBounds, RunsAreWithinBounds}
use Rattle.x10_world.proofs.Budgets.{IsWithinOf, within_index}
use Rattle.x10_world.proofs.BudgetMoves.{budget_after_move}
use Rattle.x10_world.proofs.BudgetDeliveries.{new_left, budget_after_delivery}

-- ---- the opening

-- a stay that begins is within the bound of its function
new_within : (program : Module) (bounds : List ℕ) (function : ℕ) (arguments : List Value) (under : Finish) (back : Option Origin)
    (o : Option Function) → bounds_of program ≡ Ok bounds → function_at program function ≡ o
    → IsWithinOf bounds function (left_of program bounds (new_stay function arguments under back))
new_within program bounds function arguments under back (Some callee) bounds_are is bound e =
    let left = new_left program bounds function callee arguments under back bounds_are is in
    within_index bounds function (left_of program bounds (new_stay function arguments under back)) (omega (arith, left)) bound e
new_within program bounds function arguments under back None bounds_are is bound e =
    let none : potential (take function bounds) (code_at program function) 0 (λ n. 0) ≡ 0 =
    ap (λ o. potential (take function bounds) (code_in o) 0 (λ n. 0)) is in
    omega (arith, none)

main_within : (setting : Setting) (key : ℕ) (bounds : List ℕ) (b : Bool) → bounds_of setting.program ≡ Ok bounds
    → IsWithinOf bounds setting.program.entry (left_of_any setting.program bounds (stays_in (if b then Some (first_place setting key) else None) key))
main_within setting key bounds false bounds_are bound e = omega arith
main_within setting key bounds true bounds_are bound e =
    let main : Stay = new_stay setting.program.entry [] root None in
    let none : ℕ → Option Stay = λ k. None in
    subst (λ o. left_of_any setting.program bounds o ≤ bound) (sym (at_key none key (Some main)))
    (new_within setting.program bounds setting.program.entry [] root None
    (function_at setting.program setting.program.entry) bounds_are refl bound e)

pub budget_at_opening : BudgetAtOpening
budget_at_opening setting key bounds bounds_are = record {
  stays = λ a bound lt e. (let main = main_within setting key bounds (nat_lt 0 setting.places) bounds_are bound e in omega (arith, main));
  carried = λ number bound message flies e. absurd cc;
}

-- ---- events

pub budget_after_event : BudgetAfterEvent
budget_after_event rule setting bounds w v event bounds_are i within (steps here key u s) =
    subst (λ n. IsWithinBudget setting.program bounds (record { net = n; book = v.book })) (sym s.net_is)
    (subst (λ b. IsWithinBudget setting.program bounds (record { net = (world_after w here key s.new s.effect s.number).net; book = b }))
    (sym s.book_is)
    (budget_after_move setting bounds w here key s.number s.old s.new s.effect bounds_are i within s.place_is s.moves))
budget_after_event rule setting bounds w v event bounds_are i within (delivers number u d) =
    budget_after_delivery setting bounds w v number bounds_are i within d
budget_after_event rule setting bounds w v event bounds_are i within (idle e h) = within

pub budget_bounds : BudgetBounds
budget_bounds program bounds w within a bound lt e = (let h = within.stays a bound lt e in omega (arith, h))

-- ---- runs

runs_within : (setting : Setting) (bounds : List ℕ) (P : World → Type 0) (u w : World) (events : List Event) → bounds_of setting.program ≡ Ok bounds
    → IsSound u.net u.book → IsWithinBudget setting.program bounds u → Run Quiet setting P u events w
    → Run Quiet setting (WithinBounds bounds) u events w
runs_within setting bounds P u w events bounds_are i within (done x p) = done x (budget_bounds setting.program bounds x within)
runs_within setting bounds P u w events bounds_are i within (worlds.then x v y event rest p right h r) =
    worlds.then x v y event rest (budget_bounds setting.program bounds x within) right h
    (runs_within setting bounds P v y rest bounds_are (sound_happens setting x v event i h)
    (budget_after_event Quiet setting bounds x v event bounds_are i within h) r)

pub runs_are_within_bounds : RunsAreWithinBounds
runs_are_within_bounds setting key bounds events w lt bounds_are r =
    runs_within setting bounds (λ u. Unit {0}) (opening setting key) w events bounds_are (sound_opening setting key lt)
    (budget_at_opening setting key bounds bounds_are) r
