-- Why a world stops.
use Rattle.std.proofs.Common.{ℕ, List, Option, Some, None, ap, ◌∙◌, inl, inr}
use Rattle.std.specs.Prelude.{IfSome}
use Rattle.x10_kinds.specs.declared.limit.Limit.TheVariants as limits
use Rattle.x10_kinds.specs.declared.stop.Stop.{Stop}
use Rattle.x10_model.specs.declared.event.Event.{Event}
use Rattle.x10_model.specs.declared.event.Event.TheVariants.{Step, Deliver}
use Rattle.x10_place.specs.StandsFor.{PlaceState, IsHindered}
use Rattle.x10_world.specs.Runs.{IsHaltedAt}
use Rattle.x10_world.specs.StandsForWorld.{WorldState, IsHinderedAt, IsStepStop, stop_for_refusal}

step_stop : (p : PlaceState) (key : ℕ) (why : Stop) → IsHindered p key why → IsStepStop why
step_stop p key why (inl memory) = inl memory
step_stop p key why (inr (limit, is, h)) = inr (limit, is)

pub event_stop : (x : WorldState) (event : Event) (why : Stop) → IsHinderedAt x event why → IsStepStop why
event_stop x (Step id key) why (inl (inl memory)) = inl memory
event_stop x (Step id key) why (inl (inr full)) = inr (limits.Frames, full.0)
event_stop x (Step id key) why (inr (p, there, h)) = step_stop p key why h
event_stop x (Deliver number) why h = elim h.for_room [
  | inl memory ↦ inl (h.why_is ∙ ap (λ r. stop_for_refusal r) memory)
  | inr l ↦ inr (l.0, h.why_is ∙ ap (λ r. stop_for_refusal r) l.1)
]

-- why a run ends before its events do
pub run_stop : (x y : WorldState) (events : List Event) (n : ℕ) (o : Option Stop) → IfSome o (IsHaltedAt x events n y) → IfSome o IsStepStop
run_stop x y events n None h = tt
run_stop x y events n (Some why) h = event_stop h.state h.event why h.stops.hindered
