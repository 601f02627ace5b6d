use Rattle.x10_workers.proofs.threads.all_trails.Goals as goal

pub trails_from-requires : goal.trails_from-requires
trails_from-requires g c = c.in_ok-all.ensures c.args.verified.now c.args.places (record {
  count = c.in_ok-ends.ensures.count;
  each = c.in_ok-ends.ensures.each;
})
