-- Runs of a world.
use Rattle.std.proofs.Common.{◌≡◌, List, [], ◌∷◌, ◌++◌, length, Result, Ok, Err, refl, ap, ◌∙◌}
use Rattle.std.specs.Prelude.{IfOk}
use Rattle.x10_model.specs.declared.event.Event.{Event}
use Rattle.x10_model.specs.Places.{Setting}
use Rattle.x10_model.specs.Worlds.{World, Rule, Happens, Run, done, then, WithinBounds}
use Rattle.x10_model.proofs.Events.{happens_right}
use Rattle.x10_world.specs.StandsForWorld.{WorldState, KeepsSetting, setting_of_world, StandsForWorld}
use Rattle.x10_world.proofs.BudgetRuns.{budget_bounds}

-- each activity is within its bound
pub within : (x : WorldState) (w : World) → StandsForWorld x w → WithinBounds x.bounds w
within x w stand = budget_bounds x.program x.bounds w stand.budget

-- a run with one event more
pub run_more : (rule : Rule) (setting : Setting) (P : World → Type 0) (u v z : World) (events : List Event) (event : Event)
    → Run rule setting P u events v → Happens rule setting v event z → P z → Run rule setting P u (events ++ event ∷ []) z
run_more rule setting P u v z [] event (done w p) h q = then u z z event [] p (λ g. happens_right rule setting u z event h g) h (done z q)
run_more rule setting P u v z (e ∷ es) event (then u' x w e' es' p right first rest) h q =
    then u x z e (es ++ event ∷ []) p right first (run_more rule setting P x v z es event rest h q)

-- one run after another
pub run_on : (rule : Rule) (setting : Setting) (P : World → Type 0) (u v w : World) (events more : List Event) → Run rule setting P u events v
    → Run rule setting P v more w → Run rule setting P u (events ++ more) w
run_on rule setting P u v w events more (done x holds) rest = rest
run_on rule setting P u v w events more (then x y z event others holds right happens far) rest =
    then x y w event (others ++ more) holds right happens (run_on rule setting P y v w others more far rest)

pub setting_kept : (x y : WorldState) → KeepsSetting x y → setting_of_world y ≡ setting_of_world x
setting_kept x y k = ap (λ (g : Setting). record g { places = length y.places })
    (ap (λ m. record { program = m; places = length y.places }) k.program) ∙ ap (λ n. record { program = x.program; places = n }) k.count

pub keeps_more : (x y z : WorldState) → KeepsSetting x y → KeepsSetting y z → KeepsSetting x z
keeps_more x y z k l = record { program = l.program ∙ k.program; bounds = l.bounds ∙ k.bounds; count = l.count ∙ k.count }

pub keeps_self : (x : WorldState) → KeepsSetting x x
keeps_self x = record { program = refl; bounds = refl; count = refl }

-- what holds of an answer that is no error
pub if_ok : {T : Type 0} {E : Type 0} (r : Result T E) (P : Type 0) → IfOk r (λ u. P) → ((e : E) → r ≡ Err e → ⊥) → P
if_ok (Ok u) P h never = h
if_ok (Err e) P h never = absurd (never e refl)
