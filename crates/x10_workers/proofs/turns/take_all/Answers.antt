use Rattle.std.proofs.lemmas.List.{take_more}
use Rattle.std.proofs.lemmas.Option.{slice_get-get_or}
use Rattle.std.proofs.lemmas.Result.{err_from_is_err_and}
use Rattle.x10_workers.specs.Plays.{takes_none}
use Rattle.x10_workers.proofs.PlayLemmas.{takes_next}
use Rattle.x10_workers.proofs.ReplayFaults.{never_taken}
use Rattle.x10_workers.proofs.turns.take_all.Goals as goal

pub loop-at-init : goal.loop-at-init
loop-at-init c = (takes_none, c.requires)

pub loop-at-preserved : goal.loop-at-preserved
loop-at-preserved c = (
  takes_next c.args.world.now c.loop-at.world c.take_one.new.world c.args.place c.args.taken.now c.loop-at.at _
      (take_more c.args.taken.now c.loop-at.at _ c.loop-at-test.true) c.loop-at.invariant.0 (c.in_ok-take_one.ensures.takes c.if-not-branch.false),
  c.in_ok-take_one.ensures.goes,
)

pub returns-then-not-branch-clause-refuses : goal.returns-then-not-branch-clause-refuses
returns-then-not-branch-clause-refuses c f =
    never_taken c.args.world.now c.loop-at.world c.args.place c.args.taken.now c.loop-at.at _ c.loop-at.invariant.0
    (slice_get-get_or c.args.taken.now c.loop-at.at 0 c.loop-at-test.true) (c.in_ok-take_one.ensures.refuses c.if-not-branch.true)

pub returns-in_err-take_one-clause-halted : goal.returns-in_err-take_one-clause-halted
returns-in_err-take_one-clause-halted c =
    let p = err_from_is_err_and c.from_residual.result c.from_residual.ensures.1 in
    rw (p.1, p.2) (record {
      at = c.loop-at.at;
      number = _;
      now = c.loop-at.world;
      takes = c.loop-at.invariant.0;
      is_next = slice_get-get_or c.args.taken.now c.loop-at.at 0 c.loop-at-test.true;
      halted = c.in_err-take_one.ensures.halted;
    })
