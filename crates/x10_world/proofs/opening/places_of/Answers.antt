use Rattle.x10_world.proofs.OpeningLemmas.{each_more, length_more}
use Rattle.x10_world.proofs.opening.places_of.Goals as goal

pub loop-id-preserved : goal.loop-id-preserved
loop-id-preserved c = record {
  count = length_more c.loop-id.list.items c.push.new.self.items c.in_ok-place.place c.loop-id.id c.loop-id.invariant.count
      c.in_ok-push.ensures.items;
  each = each_more c.args.verified.now c.args.count c.loop-id.id c.loop-id.list.items c.push.new.self.items c.in_ok-place.place
      c.loop-id.invariant.count c.loop-id.invariant.each c.in_ok-push.ensures.items
      (record { is_new = c.in_ok-place.ensures.fields; stands = c.in_ok-place.ensures.opening });
}
