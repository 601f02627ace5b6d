use Rattle.std.proofs.Common.{◌+◌, ◌-◌, refl, subst, arith, sym, ◌∙◌, rules}
use Rattle.x10_world.specs.declared.rounds.Unfinished.TheVariants as halt
use Rattle.x10_world.specs.Rounds.{RunsIn}
use Rattle.x10_world.proofs.RunCounts.{err_if, runs_self, runs_on, in_none, in_on, in_one, in_to, cut_to, cut_on, cut_one, cut_is_halt, limit_made, limit_halted}
use Rattle.x10_schedule.specs.Schedules.{Acts}
use Rattle.x10_schedule.specs.Schedules.Acts.{not_yet}
use Rattle.x10_schedule.proofs.ScheduleRuns.{err_on, ok_on, acts_more, acting_all, acts_rest, acts_stopped, acts_refused, acts_limit, acts_able, not_rounds}
use Rattle.x10_schedule.proofs.run.run_by.Goals as goal

pub returns-in_err-going-clause-runs : goal.returns-in_err-going-clause-runs
returns-in_err-going-clause-runs c = runs_self c.args.world.now

pub returns-in_err-scheduler-clause-runs : goal.returns-in_err-scheduler-clause-runs
returns-in_err-scheduler-clause-runs c = runs_self c.args.world.now

pub returns-in_err-scheduler-clause-halted : goal.returns-in_err-scheduler-clause-halted
returns-in_err-scheduler-clause-halted c = λ on. err_if c.from_residual-in_err-scheduler.result halt.Memory _
    c.from_residual-in_err-scheduler.ensures.1 (0, omega arith, in_none c.args.world.now, on)

pub loop-made-init : goal.loop-made-init
loop-made-init c = record {
  runs = in_none c.args.world.now;
  goes = c.in_ok-going.ensures.ok;
  acts = λ other. not_yet;
  follows = refl;
}

pub returns-in_err-event-clause-runs : goal.returns-in_err-event-clause-runs
returns-in_err-event-clause-runs c = in_to c.args.world.now c.loop-made.world c.loop-made.made c.loop-made.invariant.runs

pub returns-in_err-event-clause-halted : goal.returns-in_err-event-clause-halted
returns-in_err-event-clause-halted c = λ on. err_if c.from_residual-in_err-event.result halt.Memory _ c.from_residual-in_err-event.ensures.1
    (c.loop-made.made, omega (arith, c.loop-made-test.true), c.loop-made.invariant.runs, c.loop-made.invariant.goes)

pub returns-in_default-clause-runs : goal.returns-in_default-clause-runs
returns-in_default-clause-runs c = runs_on c.args.world.now c.loop-made.world c.run_rounds-in_default.new.world
    (in_to c.args.world.now c.loop-made.world c.loop-made.made c.loop-made.invariant.runs) c.run_rounds-in_default.ensures.runs

pub returns-in_default-clause-made : goal.returns-in_default-clause-made
returns-in_default-clause-made c = λ on. ok_on c.args.world.now c.loop-made.world c.run_rounds-in_default.new.world c.loop-made.made
    (c.args.limit - c.loop-made.made) c.args.limit c.run_rounds-in_default.result c.loop-made.invariant.runs (omega (arith, c.loop-made-test.true))
    (c.run_rounds-in_default.ensures.made c.loop-made.invariant.goes)

pub returns-in_default-clause-halted : goal.returns-in_default-clause-halted
returns-in_default-clause-halted c = λ on. err_on c.args.world.now c.loop-made.world c.run_rounds-in_default.new.world c.loop-made.made
    (c.args.limit - c.loop-made.made) c.args.limit c.run_rounds-in_default.result (omega (arith, c.loop-made-test.true)) c.loop-made.invariant.runs
    (omega (arith, c.loop-made-test.true)) (c.run_rounds-in_default.ensures.halted c.loop-made.invariant.goes)

pub returns-in_err-make_one-clause-runs : goal.returns-in_err-make_one-clause-runs
returns-in_err-make_one-clause-runs c = runs_on c.args.world.now c.loop-made.world c.make_one.new.self
    (in_to c.args.world.now c.loop-made.world c.loop-made.made c.loop-made.invariant.runs)
    (cut_to c.loop-made.world c.make_one.new.self c.args.limit (halt.Stop c.in_err-make_one.field-0.0)
    (cut_one c.loop-made.world c.make_one.new.self c.in-Some.event c.args.limit c.in_err-make_one.field-0.0 c.in_err-make_one.ensures.stops))

pub returns-in_err-make_one-clause-halted : goal.returns-in_err-make_one-clause-halted
returns-in_err-make_one-clause-halted c = λ on. err_if c.from_residual-in_err-make_one.result
    (halt.Stop c.in_err-make_one.field-0.0) _ c.from_residual-in_err-make_one.ensures.1
    (cut_is_halt c.args.world.now c.make_one.new.self c.args.limit (halt.Stop c.in_err-make_one.field-0.0)
    (cut_on c.args.world.now c.loop-made.world c.make_one.new.self c.loop-made.made (c.args.limit - c.loop-made.made) c.args.limit
    (halt.Stop c.in_err-make_one.field-0.0) c.loop-made.invariant.runs
    (cut_one c.loop-made.world c.make_one.new.self c.in-Some.event
    (c.args.limit - c.loop-made.made) c.in_err-make_one.field-0.0 c.in_err-make_one.ensures.stops) (omega (arith, c.loop-made-test.true))))

pub returns-then-closed-clause-runs : goal.returns-then-closed-clause-runs
returns-then-closed-clause-runs c = in_to c.args.world.now c.make_one.new.self (c.loop-made.made + 1)
    (in_on c.args.world.now c.loop-made.world c.make_one.new.self c.loop-made.made 1 c.loop-made.invariant.runs
    (in_one c.loop-made.world c.make_one.new.self c.in-Some.event c.in_ok-make_one.ensures.kept c.in_ok-make_one.ensures.made))

pub returns-then-closed-clause-made : goal.returns-then-closed-clause-made
returns-then-closed-clause-made c = λ on. (
  c.loop-made.made + 1,
  record {
    few = omega (arith, c.loop-made-test.true);
    runs = in_on c.args.world.now c.loop-made.world c.make_one.new.self c.loop-made.made 1 c.loop-made.invariant.runs
        (in_one c.loop-made.world c.make_one.new.self c.in-Some.event c.in_ok-make_one.ensures.kept c.in_ok-make_one.ensures.made);
    goes = c.in_ok-make_one.ensures.goes;
  },
)

pub returns-then-closed-clause-ended : goal.returns-then-closed-clause-ended
returns-then-closed-clause-ended c = record { over = λ w stand. c.if-closed.ensures.ended w stand refl }

pub loop-made-preserved : goal.loop-made-preserved
loop-made-preserved c = record {
  runs = in_on c.args.world.now c.loop-made.world c.make_one.new.self c.loop-made.made 1 c.loop-made.invariant.runs
      (in_one c.loop-made.world c.make_one.new.self c.in-Some.event c.in_ok-make_one.ensures.kept c.in_ok-make_one.ensures.made);
  goes = c.in_ok-make_one.ensures.goes;
  acts = λ other. let before = not_rounds c.loop-made.scheduler c.next.new.self c.next.new.self (sym c.next.ensures.kept) refl other in
      acts_more c.args.world.now c.loop-made.world c.make_one.new.self c.loop-made.made c.in-Some.event c.in_ok-make_one.field-0
      (c.loop-made.invariant.acts before) (acts_able c.loop-made.scheduler c.loop-made.world c.in_ok-event.field-0 c.in-Some.event before
      c.in_ok-event.ensures.able c.in-Some.is) c.in_ok-make_one.ensures.told c.in_ok-make_one.ensures.kept c.in_ok-make_one.ensures.goes;
  follows = c.next.ensures.kept ∙ c.loop-made.invariant.follows;
}

pub returns-clause-runs : goal.returns-clause-runs
returns-clause-runs c = in_to c.args.world.now c.loop-made.world c.loop-made.made c.loop-made.invariant.runs

pub returns-clause-made : goal.returns-clause-made
returns-clause-made c = λ on. limit_made c.at_limit.result c.args.world.now c.loop-made.world c.args.limit
    (subst (λ n. RunsIn c.args.world.now n c.loop-made.world)
    (omega (arith, c.loop-made-test.false, c.loop-made.auto.made-end)) c.loop-made.invariant.runs) c.loop-made.invariant.goes

pub returns-clause-halted : goal.returns-clause-halted
returns-clause-halted c = λ on. limit_halted c.at_limit.result c.args.world.now c.loop-made.world c.args.limit
    (subst (λ n. RunsIn c.args.world.now n c.loop-made.world)
    (omega (arith, c.loop-made-test.false, c.loop-made.auto.made-end)) c.loop-made.invariant.runs) c.loop-made.invariant.goes c.at_limit.ensures.open

pub returns-clause-acts : goal.returns-clause-acts
returns-clause-acts c = λ other on. acts_limit c.args.world.now c.loop-made.world c.args.limit c.at_limit.result
    (subst (λ n. Acts c.args.world.now n c.loop-made.world)
    (omega (arith, c.loop-made-test.false, c.loop-made.auto.made-end))
    (c.loop-made.invariant.acts (not_rounds c.loop-made.scheduler c.in_ok-scheduler.scheduler c.args.schedule c.loop-made.invariant.follows
    c.in_ok-scheduler.ensures other))) c.at_limit.ensures.open

pub returns-in_err-scheduler-clause-acts : goal.returns-in_err-scheduler-clause-acts
returns-in_err-scheduler-clause-acts c = λ other on. acts_refused c.args.world.now c.args.world.now 0 c.args.limit
    c.from_residual-in_err-scheduler.result (omega arith) not_yet c.from_residual-in_err-scheduler.ensures.1

pub returns-in_err-event-clause-acts : goal.returns-in_err-event-clause-acts
returns-in_err-event-clause-acts c = λ other on. acts_refused c.args.world.now c.loop-made.world c.loop-made.made c.args.limit
    c.from_residual-in_err-event.result (omega (arith, c.loop-made-test.true))
    (c.loop-made.invariant.acts (not_rounds c.loop-made.scheduler c.in_ok-scheduler.scheduler c.args.schedule c.loop-made.invariant.follows
    c.in_ok-scheduler.ensures other)) c.from_residual-in_err-event.ensures.1

pub returns-in_default-clause-acts : goal.returns-in_default-clause-acts
returns-in_default-clause-acts c = λ other on. acts_rest c.args.world.now c.loop-made.world c.run_rounds-in_default.new.world c.loop-made.made
    (c.args.limit - c.loop-made.made) c.args.limit c.run_rounds-in_default.result (omega (arith, c.loop-made-test.true))
    (c.loop-made.invariant.acts (not_rounds c.loop-made.scheduler c.in_ok-scheduler.scheduler c.args.schedule c.loop-made.invariant.follows
    c.in_ok-scheduler.ensures other)) (search rules) (c.run_rounds-in_default.ensures.made c.loop-made.invariant.goes)
    (c.run_rounds-in_default.ensures.halted c.loop-made.invariant.goes)

pub returns-in_err-make_one-clause-acts : goal.returns-in_err-make_one-clause-acts
returns-in_err-make_one-clause-acts c = λ other on. acts_stopped c.args.world.now c.loop-made.world c.make_one.new.self c.loop-made.made c.args.limit
    c.from_residual-in_err-make_one.result c.in-Some.event c.in_err-make_one.field-0.0 (omega (arith, c.loop-made-test.true))
    (c.loop-made.invariant.acts (not_rounds c.loop-made.scheduler c.in_ok-scheduler.scheduler c.args.schedule c.loop-made.invariant.follows
    c.in_ok-scheduler.ensures other)) c.in_err-make_one.ensures.stops c.from_residual-in_err-make_one.ensures.1

pub returns-then-closed-clause-acts : goal.returns-then-closed-clause-acts
returns-then-closed-clause-acts c = λ other on.
    let before = not_rounds c.loop-made.scheduler c.in_ok-scheduler.scheduler c.args.schedule c.loop-made.invariant.follows
    c.in_ok-scheduler.ensures other in (
      c.loop-made.made + 1,
      omega (arith, c.loop-made-test.true),
      acting_all c.args.world.now c.make_one.new.self (c.loop-made.made + 1)
          (acts_more c.args.world.now c.loop-made.world c.make_one.new.self c.loop-made.made c.in-Some.event c.in_ok-make_one.field-0
          (c.loop-made.invariant.acts before) (acts_able c.loop-made.scheduler c.loop-made.world c.in_ok-event.field-0 c.in-Some.event before
          c.in_ok-event.ensures.able c.in-Some.is) c.in_ok-make_one.ensures.told c.in_ok-make_one.ensures.kept c.in_ok-make_one.ensures.goes),
    )
