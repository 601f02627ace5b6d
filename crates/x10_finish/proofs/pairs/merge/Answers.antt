use Rattle.std.proofs.Common.{◌∙◌, length, refl, arith}
use Rattle.x10_finish.specs.Pairs.{pair_at, raised_at}
use Rattle.x10_finish.proofs.MergedReports.{merged_more, merged_past}
use Rattle.x10_finish.proofs.pairs.merge.Goals as goal

pub loop-done-preserved : goal.loop-done-preserved
loop-done-preserved c =
    let old = pair_at (length c.args.sent.now) c.args.pairs.now in
    let before = pair_at (length c.args.sent.now) c.loop-done.pairs in
    let q = c.next_counted-q.result in
    record {
      far = omega (arith, c.loop-done.invariant.far, c.next_counted-q.ensures.past);
      within = omega (arith, c.if-q-places.false);
      whole = c.raise_both-unequal.ensures.whole;
      unequal = c.raise_both-unequal.ensures.unequal;
      pairs = merged_more c.args.place c.args.sent.now c.args.received.now q old before
          (raised_at c.args.place q (record { sent = _; received = 0 }) before)
          (pair_at (length c.args.sent.now) c.raise_both-unequal.new.pairs) _ _
          (λ a b. c.loop-done.invariant.pairs a b
          ∙ merged_past c.args.place c.args.sent.now c.args.received.now c.loop-done.at q old
          c.next_counted-q.ensures.past c.next_counted-q.ensures.sent c.next_counted-q.ensures.received a b)
          refl refl (λ a b. refl) c.raise_both-unequal.ensures.pairs;
    }
