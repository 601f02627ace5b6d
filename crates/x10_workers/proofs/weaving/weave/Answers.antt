use Rattle.std.proofs.Common.{sym, subst, ◌∙◌, arith, take_all}
use Rattle.std.specs.Prelude.{length, slice_get}
use Rattle.std.proofs.lemmas.Option.{slice_get_past}
use Rattle.x10_workers.specs.Looms.{woven}
use Rattle.x10_workers.specs.Weaves.{WeavesAll, IsDifference, nothing_woven}
use Rattle.x10_workers.proofs.LogRuns.{are_begun, woven_is_played}
use Rattle.x10_workers.proofs.ShortTurns.{woven_within}
use Rattle.x10_workers.proofs.WorkLemmas.{when_none, true_false}
use Rattle.x10_workers.proofs.weaving.weave.Goals as goal

pub returns-then-not-is_done-clause-err : goal.returns-then-not-is_done-clause-err
returns-then-not-is_done-clause-err c =
    let missed : IsDifference c.args.trails.now (nothing_woven (length c.args.trails.now)) c.args.log.now.items (length c.args.log.now.items) = record {
      within = omega arith;
      now = woven c.weave_all.new.self;
      before = subst (λ ts. WeavesAll c.args.trails.now (nothing_woven (length c.args.trails.now)) ts (woven c.weave_all.new.self))
          (sym (take_all (length c.args.log.now.items) c.args.log.now.items (omega arith)))
          (subst (λ x. WeavesAll c.args.trails.now x c.args.log.now.items (woven c.weave_all.new.self)) c.in-Ok.ensures c.in_ok-weave_all.ensures.ok);
      differs = when_none (slice_get c.args.log.now.items (length c.args.log.now.items)) _ _
          (slice_get_past c.args.log.now.items (length c.args.log.now.items) (omega arith))
          (λ all. true_false c.is_done.result (c.is_done.ensures.1 all) c.if-not-is_done.true);
    } in
    subst (λ n. IsDifference c.args.trails.now (nothing_woven (length c.args.trails.now)) c.args.log.now.items n) (sym c.len.ensures) missed

pub returns-in-Ok-outputs_of-clause-ok : goal.returns-in-Ok-outputs_of-clause-ok
returns-in-Ok-outputs_of-clause-ok c cert are =
    let begun = are_begun cert c.args.trails.now c.in-Some.trail.now c.assure.ensures are (sym c.in-Some.ensures.value) in
    woven_is_played cert c.args.trails.now begun.certified.verified.bounds_are (woven c.weave_all.new.self) c.args.log.now.items _ c.in-Some.trail.now begun
    (subst (λ x. WeavesAll c.args.trails.now x c.args.log.now.items (woven c.weave_all.new.self)) c.in-Ok.ensures c.in_ok-weave_all.ensures.ok)
    (c.is_done.ensures.0 c.if-not-is_done.false) (sym c.in-Some.ensures.value)
    (sym c.is_closed.ensures ∙ c.if-is_closed.true) c.in-Ok-outputs_of.ensures

pub returns-in-Ok-outputs_of-clause-whole : goal.returns-in-Ok-outputs_of-clause-whole
returns-in-Ok-outputs_of-clause-whole c = record {
  last = woven c.weave_all.new.self;
  weaves = subst (λ x. WeavesAll c.args.trails.now x c.args.log.now.items (woven c.weave_all.new.self)) c.in-Ok.ensures c.in_ok-weave_all.ensures.ok;
  all = c.is_done.ensures.0 c.if-not-is_done.false;
  trail = c.in-Some.trail.now;
  trail_is = sym c.in-Some.ensures.value;
  closed = sym c.is_closed.ensures ∙ c.if-is_closed.true;
}

pub returns-in-Ok-outputs_of-clause-within : goal.returns-in-Ok-outputs_of-clause-within
returns-in-Ok-outputs_of-clause-within c = woven_within c.args.trails.now (nothing_woven (length c.args.trails.now)) c.args.log.now.items
    (woven c.weave_all.new.self) (λ id t is. (c.assure.ensures id t is).0)
    (subst (λ x. WeavesAll c.args.trails.now x c.args.log.now.items (woven c.weave_all.new.self)) c.in-Ok.ensures c.in_ok-weave_all.ensures.ok)
