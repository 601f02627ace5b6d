-- What other places export is known, and what a step puts out goes to a place of the run.
use Rattle.std.proofs.Common.{◌≡◌, ℕ, ◌<◌, true, Option, Some, None, refl, sym, ap, subst, ◌∙◌}
use Rattle.std.specs.Prelude.{IsTrue}
use Rattle.std.proofs.lemmas.Option.{same_Some}
use Rattle.x10_model.specs.Modules.{Module}
use Rattle.x10_model.specs.Places as machine
use Rattle.x10_model.specs.Places.{Message, Effect, receiver}
use Rattle.x10_model.specs.Frames as frames
use Rattle.x10_model.specs.Frames.{Frame, to_of}
use Rattle.x10_model.specs.Marshalling.{snapshot_of, message_of}
use Rattle.x10_model.specs.Worlds.{sent}
use Rattle.x10_heap.specs.Words.{Context}
use Rattle.x10_heap.proofs.GrownHeaps.{Grows, holds_texts}
use Rattle.x10_place.specs.declared.place.Stepped.TheVariants as stepped
use Rattle.x10_place.specs.declared.sent.Outgoing.{Outgoing}
use Rattle.x10_place.specs.declared.sent.Sent.{Sent}
use Rattle.x10_place.specs.Messages.{SendsMessage, SendsReport, PutsOut}
use Rattle.x10_place.specs.Stays.{StoreState}
use Rattle.x10_place.specs.StandsFor.{Far, PlaceState, context_of, store_of, StandsFor, IsStanding, LeadsAll}
use Rattle.x10_place.proofs.GrownFrames.{stay_kept}

-- each export that is known the one way is known the other way too
abbrev pub IsKnown : Far → Far → Type 0
IsKnown far near = (home id class : ℕ) → IsTrue (far home id class) → IsTrue (near home id class)

known_grows : (far near : Far) (p : PlaceState) → IsKnown far near → Grows (context_of far p) (context_of near p)
known_grows far near p known = record {
  classes = refl;
  here = refl;
  places = refl;
  objects = λ n o e. (o, e, refl);
  rails = λ n bytes e. (bytes, e);
  texts = λ n text e. e;
  exports = λ id e is. is;
  far = known;
}

-- a place stands for what it stood for when more exports are known
pub far_grows : (far near : Far) (p : PlaceState) (m : machine.Place) → IsKnown far near → StandsFor far p m → StandsFor near p m
far_grows far near p m known h =
    let grows = known_grows far near p known in
    record {
      assigned = h.assigned;
      none = h.none;
      keys = h.keys;
      some = λ key a e. let found = h.some key a e in (
        found.0,
        found.1,
        stay_kept (context_of far p) (context_of near p) grows p.program h.assigned a found.0 found.2,
      );
      site = h.site;
      heap = holds_texts (context_of far p) (context_of near p) grows m.cells h.heap refl refl h.heap.few_texts;
      exports = h.exports;
      opened = h.opened;
      lines = h.lines;
      tallied = h.tallied;
      booked = h.booked;
    }

-- ---- what is put out

-- the receiver of a message is that of its frame
pub receiver_is : (f : Frame) (message : Message) → message_of f ≡ Some message → receiver message ≡ to_of f
receiver_is (frames.Spawn from to home number function graph) message e =
    ap receiver (same_Some message (machine.Spawn from to (record { home = home; number = number }) function (snapshot_of graph)) (sym e))
receiver_is (frames.Shift from to waiting home number function graph) message e =
    ap receiver (same_Some message (machine.Shift from to waiting (record { home = home; number = number }) function (snapshot_of graph)) (sym e))
receiver_is (frames.Back from to waiting graph) message e = ap receiver (same_Some message (machine.Back from to waiting (snapshot_of graph)) (sym e))
receiver_is (frames.Report from to number sent received) message e = absurd cc

-- each frame of a step, if there is one, goes to a place of the run
pub record AreWithin (places : ℕ) (out : Sent) : Type 0 where
  pub message : (o : Outgoing) → out.message ≡ Some o → o.to < places
  pub report : (o : Outgoing) → out.report ≡ Some o → o.to < places

message_within : (program : Module) (x : Context) (q : Option Outgoing) (sent : Option Message) (o : Outgoing) → SendsMessage program x q sent
    → q ≡ Some o → o.to < x.places
message_within program x None sent o h e = absurd cc
message_within program x (Some r) sent o h e =
    let to : o.to ≡ to_of h.2.carries.frame = ap (λ (y : Outgoing). y.to) (sym (same_Some r o e)) ∙ h.2.to_is
    ∙ receiver_is h.2.carries.frame h.0 h.2.carries.message_is in
    subst (λ n. n < x.places) (sym to) h.2.carries.fits.to

report_within : (s : StoreState) (effect : Effect) (q : Option Outgoing) (o : Outgoing) → SendsReport s effect q → q ≡ Some o → o.to < s.places
report_within s effect None o h e = absurd cc
report_within s effect (Some r) o h e =
    let to : o.to ≡ h.0.home = ap (λ (y : Outgoing). y.to) (sym (same_Some r o e)) ∙ h.2.to_is in
    subst (λ n. n < s.places) (sym to) h.2.carries.fits.to

pub put_within : (program : Module) (x : Context) (s : StoreState) (effect : Effect) (out : Sent) → x.places ≡ s.places
    → PutsOut program x s effect out → AreWithin s.places out
put_within program x s effect out same h = record {
  message = λ o e. subst (λ n. o.to < n) same (message_within program x out.message (sent effect) o h.message e);
  report = λ o e. report_within s effect out.report o h.report e;
}

pub sent_within : (p q : PlaceState) (key : ℕ) (out : Sent) → IsStanding p → LeadsAll p key (stepped.Moved out) q → AreWithin p.places out
sent_within p q key out standing leads =
    let led = leads any standing.0 standing.1 in
    put_within p.program (context_of any p) (store_of p) led.effect out refl led.answers.1
  where
    any : Far
    any home id class = true
