-- Stays are at places and messages go from place to place, in every world.
use Rattle.std.proofs.Common.{◌≡◌, ℕ, ◌<◌, Option, Some, None, refl, sym, ◌∙◌, subst}
use Rattle.std.proofs.lemmas.Option.{same_Some}
use Rattle.x10_model.specs.Maps.{with_entry}
use Rattle.x10_model.specs.Places as machine
use Rattle.x10_model.specs.declared.finish.Finish.{Finish}
use Rattle.x10_model.specs.Places.{Setting, Origin, Stay, Message, Spawn, Shift, Back, receiver, Effect, Waits, Works, Begins, Spawns, Shifts, Opens, Closes, Ends}
use Rattle.x10_model.specs.Worlds.{Post, Flying, Taken, Net, sent, posts_after}
use Rattle.x10_finish.specs.Stays.{IsWayBack, MovesStay}
use Rattle.x10_finish.specs.Nesting.{stays_in, stays_of}
use Rattle.x10_finish.specs.Telling.{IsBetween, IsInRange, GoesTo, OpeningIsInRange, MovesStayInRange, DeliveriesStayInRange}
use Rattle.x10_finish.proofs.Stays.{stays_change}
use Rattle.x10_finish.proofs.Entries.{at_entry}
use Rattle.x10_finish.proofs.NestedFinishes.{no_stay}
use Rattle.x10_finish.proofs.QuietClosings.{main_is, opening_row}
use Rattle.x10_finish.proofs.CountsOfNet.{not_unused}
use Rattle.x10_model.proofs.Events.{flying_is}

stays_range : (places : ℕ) (net : Net) (here : ℕ) (new : machine.Place) → IsInRange places (stays_of net) net.posts → here < places
    → (p k : ℕ) (s : Stay) → stays_in (with_entry net.places here (Some new) p) k ≡ Some s → p < places
stays_range places net here new range lh p k s h =
    at_entry (λ (o : Option machine.Place). stays_in o k ≡ Some s → p < places) net.places here p (Some new)
    (λ same e. subst (λ x. x < places) (sym same) lh) (λ apart e. range.stays_at p k s e) h

-- a message that goes from here to a place
abbrev IsFrom : ℕ → ℕ → Message → Type 0
IsFrom places here message = (f : Finish) (p q : ℕ) → IsBetween f p q message → (p ≡ here) × (q ≡ receiver message)

taken_flies : (x : Message) → Taken ≡ Flying x → ⊥
taken_flies x e = absurd cc

from_back : (here places : ℕ) (origin : Option Origin) (back : Option Message) (message : Message) → IsWayBack here origin back → back ≡ Some message
    → IsFrom places here message
from_back here places None back message way e = no_stay message (sym way ∙ e)
from_back here places (Some origin) back message way e = subst (IsFrom places here)
    (same_Some (Back here origin.place origin.key way.0) message (sym way.1 ∙ e)) (λ f p q b. absurd b)

from_here : (here : ℕ) (old new : machine.Place) (key : ℕ) (effect : Effect) (places : ℕ) → MovesStay here old key new effect → (message : Message)
    → sent effect ≡ Some message → IsFrom places here message
from_here here old new key (Waits n) places m message e = no_stay message e
from_here here old new key Works places m message e = no_stay message e
from_here here old new key (Begins other function under) places m message e = no_stay message e
from_here here old new key (Opens n inside) places m message e = no_stay message e
from_here here old new key (Closes n) places m message e = no_stay message e
from_here here old new key (Spawns x function under) places m message e =
    subst (IsFrom places here) (sym m.changes.5 ∙ same_Some x message e) (λ f p q b. (sym b.0, sym b.1))
from_here here old new key (Shifts x under) places m message e =
    subst (IsFrom places here) (sym m.changes.6 ∙ same_Some x message e) (λ f p q b. (sym b.0, sym b.1))
from_here here old new key (Ends under back) places m message e = from_back here places m.stay.back back message m.changes.2 e

posts_range : (places : ℕ) (posts : ℕ → Post) (number here : ℕ) (o : Option Message)
    → ((m p q : ℕ) (message : Message) (f : Finish) → posts m ≡ Flying message → IsBetween f p q message → (p < places) × (q < places))
    → here < places → GoesTo places o
    → ((message : Message) → o ≡ Some message → IsFrom places here message) → (m p q : ℕ) (message : Message) (f : Finish)
    → posts_after posts number o m ≡ Flying message → IsBetween f p q message → (p < places) × (q < places)
posts_range places posts number here None range lh goes from m p q message f flies b = range m p q message f flies b
posts_range places posts number here (Some x) range lh goes from m p q message f flies b =
    at_entry (λ (o : Post). o ≡ Flying message → (p < places) × (q < places)) posts number m (Flying x)
    (λ same is. (let x_is = flying_is x message is in
    let ends = from x refl f p q (subst (IsBetween f p q) (sym x_is) b) in
    (subst (λ y. y < places) (sym ends.0) lh, subst (λ y. y < places) (sym ends.1) goes))) (λ apart is. range m p q message f is b) flies

pub moves_stay_in_range : MovesStayInRange
moves_stay_in_range setting places net here key number old new effect range moves lh goes = record {
  stays_at = stays_range places net here new range lh;
  posts_at = posts_range places net.posts number here (sent effect) range.posts_at lh goes
      (from_here here old new key effect places (stays_change setting here key old new effect moves));
}

pub deliveries_stay_in_range : DeliveriesStayInRange
deliveries_stay_in_range places net here number new range lh = record {
  stays_at = stays_range places net here new range lh;
  posts_at = λ m p q message f flies b. at_entry (λ (o : Post). o ≡ Flying message → (p < places) × (q < places)) net.posts number m Taken
      (λ same is. absurd (taken_flies message is)) (λ apart is. range.posts_at m p q message f is b) flies;
}

pub opening_is_in_range : OpeningIsInRange
opening_is_in_range setting key lt = record {
  stays_at = λ p k s h. (let is = main_is setting key p k s (sym (opening_row setting key p k lt) ∙ h) in
      subst (λ x. x < setting.places) (sym is.0) lt);
  posts_at = λ m p q message f flies b. not_unused message flies;
}
