use Rattle.std.proofs.Common.{[], ◌++◌, ◌∷◌, refl, sym, ap, ◌∙◌}
use Rattle.std.specs.Prelude.{take, length}
use Rattle.std.proofs.lemmas.List.{take_more}
use Rattle.std.proofs.lemmas.Option.{slice_get_read}
use Rattle.x10_workers.specs.Plays.{plays_none}
use Rattle.x10_workers.proofs.PlayLemmas.{plays_next}
use Rattle.x10_workers.proofs.auditing.replay_all.Goals as goal

pub loop-at-init : goal.loop-at-init
loop-at-init c = (plays_none, c.requires)

pub loop-at-preserved : goal.loop-at-preserved
loop-at-preserved c =
    let more = take_more c.args.log.now c.loop-at.at c.index-log-at.result c.loop-at-test.true
    ∙ ap (λ t. take c.loop-at.at c.args.log.now ++ t ∷ []) (sym c.index-log-at.is) in (
      plays_next c.args.world.now c.loop-at.world c.replay_turn.new.world c.args.log.now c.loop-at.at c.index-log-at.result more c.loop-at.invariant.0
          (c.in-Ok-true.ensures.plays c.in-Ok-true.field-0-test),
      c.in-Ok-true.ensures.goes,
    )

pub returns-in-Ok-false-clause-err : goal.returns-in-Ok-false-clause-err
returns-in-Ok-false-clause-err c = record {
  now = c.loop-at.world;
  turn = c.index-log-at.result;
  before = c.loop-at.invariant.0;
  is_next = slice_get_read c.args.log.now (length c.args.log.now) c.loop-at.at c.index-log-at.result refl c.loop-at-test.true c.index-log-at.is;
  other = c.in-Ok-false.ensures.refuses c.in-Ok-false.field-0-test;
}

pub returns-in-Err-clause-err : goal.returns-in-Err-clause-err
returns-in-Err-clause-err c = record {
  number = c.loop-at.at;
  now = c.loop-at.world;
  turn = c.index-log-at.result;
  before = c.loop-at.invariant.0;
  is_next = slice_get_read c.args.log.now (length c.args.log.now) c.loop-at.at c.index-log-at.result refl c.loop-at-test.true c.index-log-at.is;
  halts = c.in-Err.ensures.halted;
}
