use Rattle.std.proofs.Common.{subst, arith, take_all}
use Rattle.std.specs.Prelude.{slice_get}
use Rattle.x10_workers.specs.Looms.{woven}
use Rattle.x10_workers.specs.Weaves.{weaves_none, WeavesAll}
use Rattle.x10_workers.proofs.WorkLemmas.{weaves_next, when_some, take_seen}
use Rattle.x10_workers.proofs.weaving.Loom.weave_all.Goals as goal

pub loop-at-init : goal.loop-at-init
loop-at-init c = weaves_none

pub returns-in-Ok-false-clause-err : goal.returns-in-Ok-false-clause-err
returns-in-Ok-false-clause-err c = record {
  within = omega (arith, c.loop-at-test.true, c.len-at-end.ensures);
  now = woven c.loop-at.self;
  before = c.loop-at.invariant;
  differs = when_some (slice_get c.args.log.now.items c.loop-at.at) c.at.result.now _ _ c.at.ensures
      (c.in-Ok-false.ensures.refuses c.in-Ok-false.field-0-test);
}

pub loop-at-preserved : goal.loop-at-preserved
loop-at-preserved c = weaves_next c.args.trails.now (woven c.args.self.now) (woven c.loop-at.self)
    (woven c.weave_turn.new.self) c.args.log.now.items c.loop-at.at c.at.result.now (take_seen c.args.log.now.items c.loop-at.at c.at.result.now c.at.ensures)
    c.loop-at.invariant (c.in-Ok-true.ensures.weaves c.in-Ok-true.field-0-test)

pub returns-clause-ok : goal.returns-clause-ok
returns-clause-ok c = subst (λ ts. WeavesAll c.args.trails.now (woven c.args.self.now) ts (woven c.loop-at.self))
    (take_all c.loop-at.at c.args.log.now.items (omega (arith, c.loop-at-test.false, c.len-at-end.ensures))) c.loop-at.invariant
