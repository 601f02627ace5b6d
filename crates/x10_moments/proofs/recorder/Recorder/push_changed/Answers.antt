use Rattle.std.proofs.Common.{List, OnOk, ap, map, subst}
use Rattle.x10_moments.specs.Moments.{Shown, shown_by}
use Rattle.x10_moments.specs.Recorders.{Updates}
use Rattle.x10_moments.proofs.Moments.{kept_one}
use Rattle.x10_moments.proofs.recorder.Recorder.push_changed.Goals as goal

pub returns-clause-places : goal.returns-clause-places
returns-clause-places c =
    subst (λ (ss : List Shown). OnOk c.push_changed_place.result (Updates c.args.self.now.program c.args.self.now.kinds c.args.world.now c.args.place
    ss (map shown_by c.push_changed_place.new.places.items))) (ap (λ v. v.places) c.self.view_is)
    (kept_one c.push_changed_place.result c.args.self.now.program c.args.self.now.kinds c.args.world.now c.args.place c.in-Some.id
    c.self.inside.places.items c.push_changed_place.new.places.items c.in_ok-parts.parts c.in-Some.is c.requires.there c.in_ok-parts.ensures
    c.push_changed_place.ensures.places)
