use Rattle.std.proofs.Common.{◌≡◌, Bool, subst, rules}
use Rattle.x10_model.specs.declared.version.FrameVersion.TheVariants.{Wide}
use Rattle.x10_model.specs.Frames.{Frame, FitsFrame, IsSpelled}
use Rattle.x10_place.specs.Arrivals.{IsUnread}
use Rattle.x10_place.specs.Receiving.{IsRefusedBytes, IsOfFrame}
use Rattle.x10_place.specs.StandsFor.{place_of}
use Rattle.x10_place.proofs.Delivered.{ok_then, err_then}
use Rattle.x10_place.proofs.Received.{taken_bytes, refused_bytes, unread_refused, unread_none, read_before, standing_after, fits_wide}
use Rattle.x10_place.proofs.ground.Ground.receive.Goals as goal

pub returns-in_err-view-clause-refused : goal.returns-in_err-view-clause-refused
returns-in_err-view-clause-refused c =
    let unread : IsUnread c.args.self.now.store.places c.args.bytes.now c.in_err-view.field-0.0 = search rules in
    let refused : (stopped : Bool) → IsRefusedBytes (place_of c.args.self.now.verified.now c.args.self.now.stays c.args.self.now.store stopped)
    c.args.bytes.now c.in_err-view.field-0.0 = unread_refused c.args.self.now.verified.now c.args.self.now.stays c.args.self.now.store
    c.args.bytes.now c.in_err-view.field-0.0 unread in
    search rules

pub returns-in_err-view-clause-read : goal.returns-in_err-view-clause-read
returns-in_err-view-clause-read c =
    let unread : IsUnread c.args.self.now.store.places c.args.bytes.now c.in_err-view.field-0.0 = search rules in
    let none : IsOfFrame c.args.self.now.store.places c.args.bytes.now c.in_err-view.field-0.0 =
    unread_none c.args.self.now.verified.now c.args.self.now.stays c.args.self.now.store c.args.bytes.now c.in_err-view.field-0.0 unread in
    search rules

pub returns-clause-read : goal.returns-clause-read
returns-clause-read c =
    let places : c.locality-places.result.places ≡ c.args.self.now.store.places = c.locality-places.ensures.places in
    read_before c.args.self.now.verified.now c.args.self.now.stays c.args.self.now.store c.args.bytes.now c.in_ok-view.view
    (subst (λ n. IsSpelled n c.in_ok-view.view c.args.bytes.now) places c.in_ok-view.ensures.found) c.take.result

pub returns-clause-ok : goal.returns-clause-ok
returns-clause-ok c =
    let places : c.locality-places.result.places ≡ c.args.self.now.store.places = c.locality-places.ensures.places in
    ok_then c.take.result (taken_bytes c.args.self.now.verified.now c.args.self.now.stays c.args.self.now.store c.args.bytes.now c.take.new.self.stays
    c.take.new.self.store c.in_ok-view.view
    (subst (λ n. IsSpelled n c.in_ok-view.view c.args.bytes.now) places c.in_ok-view.ensures.found)
    (subst (λ n. (f : Frame) → IsSpelled n f c.args.bytes.now → c.in_ok-view.view ≡ f) places c.in_ok-view.ensures.only)) c.take.ensures.ok

pub returns-clause-refused : goal.returns-clause-refused
returns-clause-refused c =
    let places : c.locality-places.result.places ≡ c.args.self.now.store.places = c.locality-places.ensures.places in
    err_then c.take.result (refused_bytes c.args.self.now.verified.now c.args.self.now.stays c.args.self.now.store c.args.bytes.now c.in_ok-view.view
    (subst (λ n. (f : Frame) → IsSpelled n f c.args.bytes.now → c.in_ok-view.view ≡ f) places c.in_ok-view.ensures.only)) c.take.ensures.refused

pub returns-clause-standing : goal.returns-clause-standing
returns-clause-standing c = standing_after c.args.self.now.verified.now c.args.self.now.stays c.args.self.now.store c.args.bytes.now
    c.take.new.self.stays c.take.new.self.store c.in_ok-view.view c.take.result c.requires c.take.ensures.ok c.take.ensures.err

pub take-requires-clause-fits : goal.take-requires-clause-fits
take-requires-clause-fits c =
    let places : c.locality-places.result.places ≡ c.args.self.now.store.places = c.locality-places.ensures.places in
    subst (λ n. FitsFrame Wide n c.in_ok-view.view) places (fits_wide c.locality-places.result.places c.in_ok-view.view c.args.bytes.now
    c.in_ok-view.ensures.found)
