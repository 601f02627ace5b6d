use Rattle.std.proofs.Common.{subst}
use Rattle.slab.specs.Slab.{get}
use Rattle.x10_place.proofs.Openings.{is_some_is}
use Rattle.x10_place.specs.Opening.{IsNextKey}
use Rattle.x10_place.proofs.place.Place.next_key.Goals as goal

pub returns-then-contains : goal.returns-then-contains
returns-then-contains c = subst (λ v. IsNextKey v.stays c.args.from c.loop-key.key) c.self.view_is
    (record {
      least = c.loop-key.auto.key;
      used = is_some_is (get c.self.inside.ground.stays c.loop-key.key)
          (c.contains.ensures.0 c.if-contains.true);
      before = c.loop-key.invariant;
    })
