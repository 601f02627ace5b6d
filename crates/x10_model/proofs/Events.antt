-- What happens at an event is not wrong.
use Rattle.std.proofs.Common.{◌≡◌, ℕ, Bool, true, false, Some, None, sym, ap, subst, ◌∙◌}
use Rattle.x10_model.specs.declared.event.Event.{Event}
use Rattle.x10_model.specs.declared.event.Event.TheVariants.{Step, Deliver}
use Rattle.x10_model.specs.Places as places
use Rattle.x10_model.specs.Places.{Setting, Stay, IsFree, Message, Spawn, Shift, Back, receiver}
use Rattle.x10_model.specs.Deliveries.{Receives}
use Rattle.x10_model.specs.Wrong.{IsWrong, no_instruction, wrong_at, IsMisfit}
use Rattle.x10_model.specs.Worlds.{Flying, World, Rule, Steps, Delivers, IsIdle, no_place, no_stay, is_away, is_kept_out, not_flying, Happens, steps, delivers, idle, GoesWrong, step, delivery, nowhere}
use Rattle.x10_model.proofs.NotWrong.{moves_not_wrong}
use Rattle.x10_model.proofs.Ready.{received_fits}
use Rattle.x10_model.proofs.Lists.{same_some, none_some}

pub flying_is : (m n : Message) → Flying m ≡ Flying n → m ≡ n
flying_is m n e = cc

-- what is taken in is for the place that takes it in
for_receiver : (setting : Setting) (here key : ℕ) (old new : places.Place) (message : Message) → Receives setting here old message key new
    → receiver message ≡ here
for_receiver setting here key old new (Spawn from to under function graph) r = r.0
for_receiver setting here key old new (Shift from to waiting under function graph) r = r.0
for_receiver setting here key old new (Back from to waiting graph) r = r.0

steps_right : (rule : Rule) (setting : Setting) (w v : World) (here key : ℕ) → Steps rule setting w here key v → (place : places.Place)
    → w.net.places here ≡ Some place → IsWrong setting here place key → ⊥
steps_right rule setting w v here key s place e wrong =
    moves_not_wrong setting here key s.old s.new s.effect s.moves
    (subst (λ p. IsWrong setting here p key) (same_some (w.net.places here) place s.old e s.place_is) wrong)

delivers_right : (setting : Setting) (w v : World) (number : ℕ) → Delivers setting w number v → (message : Message) (place : places.Place)
    → w.net.posts number ≡ Flying message → w.net.places (receiver message) ≡ Some place → IsMisfit setting (receiver message) place message → ⊥
delivers_right setting w v number d message place e p misfit =
    let same : message ≡ d.message = flying_is message d.message (sym e ∙ d.flying) in
    let at : receiver message ≡ d.here = ap receiver same ∙ for_receiver setting d.here d.key d.old d.new d.message d.receives in
    let place-is : place ≡ d.old = same_some (w.net.places d.here) place d.old (subst (λ q. w.net.places q ≡ Some place) at p) d.place_is in
    let m1 : IsMisfit setting d.here place message = subst (λ q. IsMisfit setting q place message) at misfit in
    let m2 : IsMisfit setting d.here d.old message = subst (λ q. IsMisfit setting d.here q message) place-is m1 in
    received_fits setting d.here d.key d.old d.new d.message d.receives (subst (λ m. IsMisfit setting d.here d.old m) same m2)

delivers_somewhere : (setting : Setting) (w v : World) (number : ℕ) → Delivers setting w number v → (message : Message)
    → w.net.posts number ≡ Flying message → w.net.places (receiver message) ≡ None → ⊥
delivers_somewhere setting w v number d message e none =
    let same : message ≡ d.message = flying_is message d.message (sym e ∙ d.flying) in
    let at : receiver message ≡ d.here = ap receiver same ∙ for_receiver setting d.here d.key d.old d.new d.message d.receives in
    none_some (w.net.places d.here) d.old (subst (λ q. w.net.places q ≡ None) at none) d.place_is

ready_there : (setting : Setting) (here key : ℕ) (place : places.Place) → IsWrong setting here place key
    → (stay : Stay) × (place.stays key ≡ Some stay) × (stay.away ≡ false) × IsFree place.stays key
ready_there setting here key place (no_instruction stay e ready free none) = (stay, e, ready, free)
ready_there setting here key place (wrong_at stay function instr e ready free f i w) = (stay, e, ready, free)

false_true : (b : Bool) → b ≡ false → b ≡ true → ⊥
false_true b e f = cc

idle_step : (setting : Setting) (w : World) (here key : ℕ) → IsIdle w (Step here key) → (place : places.Place) → w.net.places here ≡ Some place
    → IsWrong setting here place key → ⊥
idle_step setting w here key (no_place here' key' e) place p wrong = none_some (w.net.places here) place e p
idle_step setting w here key (no_stay here' key' old e n) place p wrong =
    let there = ready_there setting here key place wrong in
    none_some (place.stays key) there.0 (subst (λ (q : places.Place). q.stays key ≡ None) (same_some (w.net.places here) old place e p) n) there.1
idle_step setting w here key (is_away here' key' old stay e s away) place p wrong =
    let there = ready_there setting here key place wrong in
    let s1 : place.stays key ≡ Some stay = subst (λ (q : places.Place). q.stays key ≡ Some stay) (same_some (w.net.places here) old place e p) s in
    false_true there.0.away there.2 (subst (λ (t : Stay). t.away ≡ true) (same_some (place.stays key) stay there.0 s1 there.1) away)
idle_step setting w here key (is_kept_out here' key' old stay e s kept_out) place p wrong =
    kept_out (subst (λ (q : places.Place). IsFree q.stays key) (same_some (w.net.places here) place old p e)
    (ready_there setting here key place wrong).3)

idle_delivery : (w : World) (number : ℕ) → IsIdle w (Deliver number) → (message : Message) → w.net.posts number ≡ Flying message → ⊥
idle_delivery w number (not_flying number' never) message e = never message e

pub happens_right : (rule : Rule) (setting : Setting) (w v : World) (event : Event) → Happens rule setting w event v → GoesWrong setting w event → ⊥
happens_right rule setting w v (Step here key) (steps here' key' v' s) (step here'' key'' place p wrong) =
    steps_right rule setting w v here key s place p wrong
happens_right rule setting w v (Step here key) (idle event i) (step here'' key'' place p wrong) = idle_step setting w here key i place p wrong
happens_right rule setting w v (Deliver number) (delivers number' v' d) (delivery number'' message place f p misfit) =
    delivers_right setting w v number d message place f p misfit
happens_right rule setting w v (Deliver number) (delivers number' v' d) (nowhere number'' message f none) =
    delivers_somewhere setting w v number d message f none
happens_right rule setting w v (Deliver number) (idle event i) (delivery number'' message place f p misfit) = idle_delivery w number i message f
happens_right rule setting w v (Deliver number) (idle event i) (nowhere number'' message f none) = idle_delivery w number i message f
