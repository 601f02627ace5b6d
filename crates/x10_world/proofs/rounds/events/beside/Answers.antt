use Rattle.std.proofs.Common.{◌+◌, ◌-◌, ◌*◌, subst, arith}
use Rattle.x10_world.specs.declared.rounds.Unfinished.TheVariants as halt
use Rattle.x10_world.specs.Rounds.{RunsIn}
use Rattle.x10_world.proofs.RunCounts.{err_is, in_same, in_on, in_beside, in_repeats, cut_on, cut_stretch, rounds_all, rounds_few, rounds_within}
use Rattle.x10_world.proofs.rounds.events.beside.Goals as goal

pub returns-in_err-try_step-clause-made : goal.returns-in_err-try_step-clause-made
returns-in_err-try_step-clause-made c = err_is c.from_residual.result c.in_err-try_step.field-0.0 _ _ c.from_residual.ensures.1
    (c.in_err-try_step.ensures.cut c.args.left)

pub returns-in_err-steps-clause-made : goal.returns-in_err-steps-clause-made
returns-in_err-steps-clause-made c = err_is c.from_residual-in_err-steps.result
    (halt.Stop c.in_err-steps.field-0.0) _ _ c.from_residual-in_err-steps.ensures.1
    (cut_on c.args.world.now c.try_step.new.world c.run_activity.new.self 0 c.div_ceil.result c.args.left (halt.Stop c.in_err-steps.field-0.0)
    (in_same c.args.world.now c.try_step.new.world (c.in_ok-try_step.ensures.idle c.if-branch.false))
    (cut_stretch c.try_step.new.world c.run_activity.new.self c.args.activity.0 c.args.activity.1 c.div_ceil.result c.in_err-steps.field-0.0
    c.in_err-steps.ensures.kept (c.in_err-steps.ensures.hindered c.in_ok-try_step.ensures.made.goes))
    (let few = rounds_within c.args.left c.args.round c.requires.others in omega (arith, few, c.div_ceil.ensures)))

pub returns-in_err-try_step-2-clause-made : goal.returns-in_err-try_step-2-clause-made
returns-in_err-try_step-2-clause-made c = err_is c.from_residual-in_err-try_step-2.result c.in_err-try_step-2.field-0.0 _ _
    c.from_residual-in_err-try_step-2.ensures.1
    (cut_on c.args.world.now c.run_activity.new.self c.try_step-then-steps-eq0.new.world 0 c.args.left c.args.left c.in_err-try_step-2.field-0.0
    (in_on c.args.world.now c.try_step.new.world c.run_activity.new.self 0 0
    (in_same c.args.world.now c.try_step.new.world (c.in_ok-try_step.ensures.idle c.if-branch.false))
    (subst (λ n. RunsIn c.try_step.new.world n c.run_activity.new.self) c.if-steps-eq0.true
    (in_repeats c.try_step.new.world c.run_activity.new.self c.in_ok-steps.steps c.args.activity.0 c.args.activity.1 c.in_ok-steps.ensures.kept
    c.in_ok-steps.ensures.ok)))
    (c.in_err-try_step-2.ensures.cut c.args.left) (omega arith))

pub returns-then-steps-eq0-clause-made : goal.returns-then-steps-eq0-clause-made
returns-then-steps-eq0-clause-made c = record {
  few = c.requires.some;
  runs = in_on c.args.world.now c.run_activity.new.self c.try_step-then-steps-eq0.new.world 0 1
      (in_on c.args.world.now c.try_step.new.world c.run_activity.new.self 0 0
      (in_same c.args.world.now c.try_step.new.world (c.in_ok-try_step.ensures.idle c.if-branch.false))
      (subst (λ n. RunsIn c.try_step.new.world n c.run_activity.new.self) c.if-steps-eq0.true
      (in_repeats c.try_step.new.world c.run_activity.new.self c.in_ok-steps.steps c.args.activity.0 c.args.activity.1 c.in_ok-steps.ensures.kept
      c.in_ok-steps.ensures.ok)))
      c.in_ok-try_step-2.ensures.made.runs;
  goes = c.in_ok-try_step-2.ensures.made.goes;
}

pub returns-clause-made : goal.returns-clause-made
returns-clause-made c =
    let few = rounds_few c.args.left c.args.round c.in_ok-steps.steps c.requires.others
    (let f = c.in_ok-steps.ensures.few in omega (arith, f, c.div_ceil.ensures)) c.if-steps-eq0.false in
    let all = rounds_all c.args.round c.in_ok-steps.steps c.requires.others c.if-steps-eq0.false in
    record {
      few = few;
      runs = subst (λ n. RunsIn c.args.world.now n c.run_activity.new.self) all
          (in_beside c.args.world.now c.try_step.new.world c.run_activity.new.self
          ((c.in_ok-steps.steps - 1) * c.args.round + 1 - c.in_ok-steps.steps) c.in_ok-steps.steps
          (c.in_ok-try_step.ensures.idle c.if-branch.false) c.in_ok-try_step.ensures.made.runs
          (in_repeats c.try_step.new.world c.run_activity.new.self c.in_ok-steps.steps c.args.activity.0 c.args.activity.1 c.in_ok-steps.ensures.kept
          c.in_ok-steps.ensures.ok));
      goes = c.in_ok-steps.ensures.goes;
    }
