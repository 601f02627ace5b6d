use Rattle.std.proofs.Common.{rules, ◌≡◌, ◌++◌, ◌∷◌, [], length, ap, arith}
use Rattle.std.specs.Vec.Iter.{into_iter_items, into_iter_len}
use Rattle.x10_workers.proofs.KeptTurns.{made_none, next_kept, made_more, made_all, none_left}
use Rattle.x10_workers.proofs.threads.trails_from.Goals as goal

pub loop-kept-init : goal.loop-kept-init
loop-kept-init c = record {
  so_far = made_none c.args.verified.now c.args.places c.args.all.items c.in_ok-trails.trails.items
      (into_iter_items c.into_iter-kept-iterator.result) c.in_ok-trails.ensures.items (search rules);
  steps = search rules;
}

pub new-requires : goal.new-requires
new-requires c = (next_kept c.args.verified.now c.args.places c.args.all.items c.loop-kept.trails.items (into_iter_items c.loop-kept.kept-iterator)
    (into_iter_items c.next.new.self) c.in-Some.kept c.requires c.loop-kept.invariant.so_far c.in-Some.ensures.steps.0).trail

pub loop-kept-preserved : goal.loop-kept-preserved
loop-kept-preserved c = record {
  so_far = made_more c.args.verified.now c.args.places c.args.all.items c.loop-kept.trails.items c.push.new.self.items
      (into_iter_items c.loop-kept.kept-iterator) (into_iter_items c.next.new.self) c.in-Some.kept c.new.result c.requires
      c.loop-kept.invariant.so_far c.in-Some.ensures.steps.0 c.new.ensures pushed;
  steps = (let all = ap length c.in-Some.ensures.steps.0 in let was = c.loop-kept.invariant.steps in let step = c.in-Some.ensures.steps.1 in
      omega (arith, all, was, step));
}
  where
    pushed : c.push.new.self.items ≡ c.loop-kept.trails.items ++ c.new.result ∷ []
    pushed = search rules

pub returns : goal.returns
returns c = made_all c.args.verified.now c.args.places c.args.all.items c.loop-kept.trails.items
    (into_iter_items c.loop-kept.kept-iterator) c.requires c.loop-kept.invariant.so_far
    (none_left (into_iter_items c.loop-kept.kept-iterator) (into_iter_len c.loop-kept.kept-iterator) c.loop-kept.invariant.steps
    c.in-None.ensures.steps.0)
