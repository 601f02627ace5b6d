use Rattle.std.proofs.Common.{[], ◌∷◌, ◌++◌, refl, arith, sym, ◌∙◌}
use Rattle.x10_world.specs.declared.rounds.Unfinished.TheVariants as halt
use Rattle.x10_world.proofs.RunCounts.{err_if, runs_self, runs_on}
use Rattle.x10_stats.specs.Counts.Counted.{begins}
use Rattle.x10_schedule.proofs.ScheduleRuns.{not_rounds}
use Rattle.x10_stats.proofs.EventsCounted.{counts_more, one_longer, unmade_cut, cut_limit, due_by, due_cut, due_limit, due_refused, if_ok}
use Rattle.x10_stats.proofs.run.count_run.Goals as goal

pub returns-in_err-going-clause-runs : goal.returns-in_err-going-clause-runs
returns-in_err-going-clause-runs c = runs_self c.args.world.now

pub returns-in_err-scheduler-clause-runs : goal.returns-in_err-scheduler-clause-runs
returns-in_err-scheduler-clause-runs c = runs_self c.args.world.now

pub returns-in_err-scheduler-clause-cut : goal.returns-in_err-scheduler-clause-cut
returns-in_err-scheduler-clause-cut c = λ on. err_if c.from_residual-in_err-scheduler.result halt.Memory _
    c.from_residual-in_err-scheduler.ensures.1 (record { events = []; few = omega arith; counts = begins; goes = on })

pub loop-made-init : goal.loop-made-init
loop-made-init c = record {
  runs = runs_self c.args.world.now;
  events = [];
  count = refl;
  counted = begins;
  goes = c.in_ok-going.ensures.ok;
  due = λ other. tt;
  follows = refl;
}

pub returns-in_err-next-clause-cut : goal.returns-in_err-next-clause-cut
returns-in_err-next-clause-cut c = λ on. err_if c.from_residual-in_err-next.result halt.Memory _ c.from_residual-in_err-next.ensures.1
    (record {
      events = c.loop-made.invariant.events;
      few = (let count = c.loop-made.invariant.count in omega (arith, count, c.loop-made-test.true));
      counts = c.loop-made.invariant.counted;
      goes = c.loop-made.invariant.goes;
    })

pub returns-in_err-count_event-clause-runs : goal.returns-in_err-count_event-clause-runs
returns-in_err-count_event-clause-runs c = runs_on c.args.world.now c.loop-made.world c.count_event.new.world c.loop-made.invariant.runs
    c.count_event.ensures.runs

pub returns-in_err-count_event-clause-cut : goal.returns-in_err-count_event-clause-cut
returns-in_err-count_event-clause-cut c = λ on.
    let count = c.loop-made.invariant.count in
    err_if c.from_residual-in_err-count_event.result c.in_err-count_event.field-0.0 _ c.from_residual-in_err-count_event.ensures.1
    (unmade_cut c.args.counts.now c.args.world.now c.args.limit c.loop-made.counts c.count_event.new.counts c.loop-made.world
    c.count_event.new.world c.unwrap_or-event.result c.in_err-count_event.field-0.0 (record {
      events = c.loop-made.invariant.events;
      few = omega (arith, count, c.loop-made-test.true);
      counts = c.loop-made.invariant.counted;
      goes = c.loop-made.invariant.goes;
    }) c.in_err-count_event.ensures.unmade)

pub returns-then-closed-clause-runs : goal.returns-then-closed-clause-runs
returns-then-closed-clause-runs c = runs_on c.args.world.now c.loop-made.world c.count_event.new.world c.loop-made.invariant.runs
    c.count_event.ensures.runs

pub returns-then-closed-clause-counted : goal.returns-then-closed-clause-counted
returns-then-closed-clause-counted c = λ on.
    let longer = one_longer c.loop-made.invariant.events c.unwrap_or-event.result c.loop-made.made c.loop-made.invariant.count in record {
      events = c.loop-made.invariant.events ++ c.unwrap_or-event.result ∷ [];
      few = omega (arith, longer, c.loop-made-test.true);
      counts = (counts_more c.args.counts.now c.args.world.now c.loop-made.world c.count_event.new.world c.loop-made.invariant.events
          c.loop-made.counts c.count_event.new.counts c.unwrap_or-event.result c.loop-made.invariant.counted c.count_event.ensures.seen c.in_ok-count_event.ensures.done
          c.in_ok-count_event.ensures.made).0;
      goes = c.in_ok-count_event.ensures.goes;
    }

pub returns-then-closed-clause-ended : goal.returns-then-closed-clause-ended
returns-then-closed-clause-ended c = record { over = λ w stand. c.closed.ensures.ended w stand c.if-closed.true }

pub loop-made-preserved : goal.loop-made-preserved
loop-made-preserved c =
    let more = counts_more c.args.counts.now c.args.world.now c.loop-made.world c.count_event.new.world c.loop-made.invariant.events
    c.loop-made.counts c.count_event.new.counts c.unwrap_or-event.result c.loop-made.invariant.counted c.count_event.ensures.seen c.in_ok-count_event.ensures.done
    c.in_ok-count_event.ensures.made in record {
      runs = runs_on c.args.world.now c.loop-made.world c.count_event.new.world c.loop-made.invariant.runs c.count_event.ensures.runs;
      events = c.loop-made.invariant.events ++ c.unwrap_or-event.result ∷ [];
      count = one_longer c.loop-made.invariant.events c.unwrap_or-event.result c.loop-made.made c.loop-made.invariant.count;
      counted = more.0;
      goes = c.in_ok-count_event.ensures.goes;
      due = λ other. let before = not_rounds c.loop-made.scheduler c.next.new.self c.next.new.self (sym c.next.ensures.kept) refl other in
          more.1 (c.loop-made.invariant.due before) (due_by c.loop-made.scheduler c.loop-made.world c.in_ok-next.field-0 c.unwrap_or-event.result _ before c.in_ok-next.ensures.able
          c.in_ok-next.ensures.none c.unwrap_or-event.ensures);
      follows = c.next.ensures.kept ∙ c.loop-made.invariant.follows;
    }

pub returns-clause-counted : goal.returns-clause-counted
returns-clause-counted c = λ on. if_ok c.at_limit.result _ (let count = c.loop-made.invariant.count in record {
  events = c.loop-made.invariant.events;
  few = omega (arith, count, c.loop-made-test.false, c.loop-made.auto.made-end);
  counts = c.loop-made.invariant.counted;
  goes = c.loop-made.invariant.goes;
})

pub returns-clause-cut : goal.returns-clause-cut
returns-clause-cut c = λ on.
    let count = c.loop-made.invariant.count in
    cut_limit c.args.counts.now c.args.world.now c.args.limit c.loop-made.counts c.loop-made.world c.at_limit.result (record {
      events = c.loop-made.invariant.events;
      few = omega (arith, count, c.loop-made-test.false, c.loop-made.auto.made-end);
      counts = c.loop-made.invariant.counted;
      goes = c.loop-made.invariant.goes;
    }) (omega (arith, count, c.loop-made-test.false, c.loop-made.auto.made-end)) c.at_limit.ensures.open

pub returns-clause-due : goal.returns-clause-due
returns-clause-due c = λ other on.
    let count = c.loop-made.invariant.count in
    due_limit c.args.counts.now c.args.world.now c.args.limit c.loop-made.counts c.loop-made.world c.at_limit.result (record {
      has = record {
        events = c.loop-made.invariant.events;
        few = omega (arith, count, c.loop-made-test.false, c.loop-made.auto.made-end);
        counts = c.loop-made.invariant.counted;
        goes = c.loop-made.invariant.goes;
      };
      due = c.loop-made.invariant.due (not_rounds c.loop-made.scheduler c.in_ok-scheduler.scheduler c.args.schedule c.loop-made.invariant.follows c.in_ok-scheduler.ensures other);
    }) (omega (arith, count, c.loop-made-test.false, c.loop-made.auto.made-end)) c.at_limit.ensures.open

pub returns-in_err-scheduler-clause-due : goal.returns-in_err-scheduler-clause-due
returns-in_err-scheduler-clause-due c = λ other on. due_refused c.args.counts.now c.args.world.now c.args.limit c.args.counts.now c.args.world.now
    c.from_residual-in_err-scheduler.result (record { has = record { events = []; few = omega arith; counts = begins; goes = on }; due = tt })
    c.from_residual-in_err-scheduler.ensures.1

pub returns-in_err-next-clause-due : goal.returns-in_err-next-clause-due
returns-in_err-next-clause-due c = λ other on.
    let count = c.loop-made.invariant.count in
    due_refused c.args.counts.now c.args.world.now c.args.limit c.loop-made.counts c.loop-made.world
    c.from_residual-in_err-next.result (record {
      has = record {
        events = c.loop-made.invariant.events;
        few = omega (arith, count, c.loop-made-test.true);
        counts = c.loop-made.invariant.counted;
        goes = c.loop-made.invariant.goes;
      };
      due = c.loop-made.invariant.due (not_rounds c.loop-made.scheduler c.in_ok-scheduler.scheduler c.args.schedule c.loop-made.invariant.follows c.in_ok-scheduler.ensures other);
    }) c.from_residual-in_err-next.ensures.1

pub returns-in_err-count_event-clause-due : goal.returns-in_err-count_event-clause-due
returns-in_err-count_event-clause-due c = λ other on.
    let count = c.loop-made.invariant.count in
    due_cut c.args.counts.now c.args.world.now c.args.limit c.loop-made.counts c.count_event.new.counts c.loop-made.world
    c.count_event.new.world c.unwrap_or-event.result c.from_residual-in_err-count_event.result c.in_err-count_event.field-0.0 (record {
      has = record {
        events = c.loop-made.invariant.events;
        few = omega (arith, count, c.loop-made-test.true);
        counts = c.loop-made.invariant.counted;
        goes = c.loop-made.invariant.goes;
      };
      due = c.loop-made.invariant.due (not_rounds c.loop-made.scheduler c.in_ok-scheduler.scheduler c.args.schedule c.loop-made.invariant.follows c.in_ok-scheduler.ensures other);
    }) c.in_err-count_event.ensures.unmade c.from_residual-in_err-count_event.ensures.1

pub returns-then-closed-clause-due : goal.returns-then-closed-clause-due
returns-then-closed-clause-due c = λ other on.
    let longer = one_longer c.loop-made.invariant.events c.unwrap_or-event.result c.loop-made.made c.loop-made.invariant.count in
    let before = (not_rounds c.loop-made.scheduler c.in_ok-scheduler.scheduler c.args.schedule c.loop-made.invariant.follows c.in_ok-scheduler.ensures other) in
    let more = counts_more c.args.counts.now c.args.world.now c.loop-made.world c.count_event.new.world c.loop-made.invariant.events
    c.loop-made.counts c.count_event.new.counts c.unwrap_or-event.result c.loop-made.invariant.counted c.count_event.ensures.seen c.in_ok-count_event.ensures.done
    c.in_ok-count_event.ensures.made in record {
      has = record {
        events = c.loop-made.invariant.events ++ c.unwrap_or-event.result ∷ [];
        few = omega (arith, longer, c.loop-made-test.true);
        counts = more.0;
        goes = c.in_ok-count_event.ensures.goes;
      };
      due = more.1 (c.loop-made.invariant.due before) (due_by c.loop-made.scheduler c.loop-made.world c.in_ok-next.field-0 c.unwrap_or-event.result _ before c.in_ok-next.ensures.able
          c.in_ok-next.ensures.none c.unwrap_or-event.ensures);
    }
