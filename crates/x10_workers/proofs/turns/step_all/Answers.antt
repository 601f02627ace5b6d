use Rattle.std.proofs.Common.{◌++◌, ◌∷◌, [], ap, sym, ◌∙◌, Some, arith, take}
use Rattle.std.proofs.lemmas.List.{take_more}
use Rattle.std.proofs.lemmas.Option.{slice_get-get_or}
use Rattle.std.proofs.lemmas.Result.{err_from_is_err_and}
use Rattle.x10_workers.specs.Plays.{steps_none}
use Rattle.x10_workers.proofs.PlayLemmas.{steps_next}
use Rattle.x10_workers.proofs.turns.step_all.Goals as goal

pub loop-at-init : goal.loop-at-init
loop-at-init c = (steps_none, c.requires)

pub loop-at-preserved : goal.loop-at-preserved
loop-at-preserved c =
    let keys = c.args.keys.now in
    let at = c.loop-at.at in
    let more = take_more keys at 0 (omega (arith, c.loop-at-test.true, c.len-at-end.ensures)) ∙ ap (λ k. take at keys ++ k ∷ []) (sym c.at.ensures) in (
      steps_next c.args.world.now c.loop-at.world c.step_one.new.world c.args.place keys at c.at.result more c.loop-at.invariant.0
          c.in_ok-step_one.ensures.steps,
      c.in_ok-step_one.ensures.goes,
    )

pub returns-in_err-step_one-clause-halted : goal.returns-in_err-step_one-clause-halted
returns-in_err-step_one-clause-halted c =
    let p = err_from_is_err_and c.from_residual.result c.from_residual.ensures.1 in
    rw (p.1, p.2) (record {
      at = c.loop-at.at;
      key = c.at.result;
      now = c.loop-at.world;
      steps = c.loop-at.invariant.0;
      is_next = slice_get-get_or c.args.keys.now c.loop-at.at 0 (omega (arith, c.loop-at-test.true, c.len-at-end.ensures))
          ∙ ap Some (sym c.at.ensures);
      halted = c.in_err-step_one.ensures.halted;
    })
