-- A step of a stretch is one that its place made: the activity wasn't idle.
use Rattle.std.proofs.Common.{◌≡◌, ◌≢◌, ℕ, true, sym, ◌∙◌}
use Rattle.x10_model.specs.Places as machine
use Rattle.x10_place.specs.declared.place.Stepped.TheVariants as stepped
use Rattle.x10_place.specs.declared.sent.Sent.{Sent}
use Rattle.x10_place.specs.StandsFor.{PlaceState, Far, StandsFor}
use Rattle.x10_place.specs.Stretches.{IsStride}
use Rattle.x10_place.proofs.NeverIdle.{no_stride_is_idle}
use Rattle.x10_world.specs.StandsForWorld.{IsMadeStep}

moved_not : (out : Sent) → stepped.Moved out ≡ stepped.Idle → ⊥
moved_not out e = cc

pub stride_made : (far : Far) (p q : PlaceState) (m : machine.Place) (key : ℕ) (out : Sent) → StandsFor far p m → p.stopped ≢ true
    → IsStride key p out q → IsMadeStep p q key (stepped.Moved out)
stride_made far p q m key out stands on stride = record {
  idle = λ still. absurd (no_stride_is_idle far p m key out q stands stride still);
  only = λ e. absurd (moved_not out e);
  some = λ a there ready outside. stride.leads;
  goes = λ e. on (sym stride.stopped ∙ e);
}
