use Rattle.std.proofs.Common.{◌+◌, subst, arith}
use Rattle.x10_world.specs.declared.rounds.Unfinished.TheVariants as halt
use Rattle.x10_world.specs.Rounds.{RunsIn}
use Rattle.x10_world.proofs.RunCounts.{err_if, runs_self, runs_on, in_none, in_on, in_to, cut_to, cut_on, cut_is_halt, limit_made, limit_halted}
use Rattle.x10_world.proofs.rounds.drive.run_rounds.Goals as goal

pub returns-in_err-going-clause-runs : goal.returns-in_err-going-clause-runs
returns-in_err-going-clause-runs c = runs_self c.args.world.now

pub returns-in_err-rounds-clause-runs : goal.returns-in_err-rounds-clause-runs
returns-in_err-rounds-clause-runs c = runs_self c.args.world.now

pub returns-in_err-rounds-clause-halted : goal.returns-in_err-rounds-clause-halted
returns-in_err-rounds-clause-halted c = λ on. err_if c.from_residual-in_err-rounds.result halt.Memory _ c.from_residual-in_err-rounds.ensures.1
    (0, omega arith, in_none c.args.world.now, on)

pub loop-init : goal.loop-init
loop-init c = record {
  done = 0;
  all = omega arith;
  turns = omega arith;
  some = λ some. omega (arith, some);
  runs = in_none c.args.world.now;
  goes = c.in_ok-going.ensures.ok;
}

pub run_turn-requires-clause-some : goal.run_turn-requires-clause-some
run_turn-requires-clause-some c = c.loop.invariant.some (omega (arith, c.loop-test.true))

pub returns-in_err-made-clause-runs : goal.returns-in_err-made-clause-runs
returns-in_err-made-clause-runs c = runs_on c.args.world.now c.loop.world c.run_turn.new.world
    (in_to c.args.world.now c.loop.world c.loop.invariant.done c.loop.invariant.runs)
    (cut_to c.loop.world c.run_turn.new.world c.loop.left c.in_err-made.field-0.0 c.in_err-made.ensures.made)

pub returns-in_err-made-clause-halted : goal.returns-in_err-made-clause-halted
returns-in_err-made-clause-halted c = λ on. err_if c.from_residual-in_err-made.result c.in_err-made.field-0.0 _ c.from_residual-in_err-made.ensures.1
    (cut_is_halt c.args.world.now c.run_turn.new.world c.args.limit c.in_err-made.field-0.0
    (cut_on c.args.world.now c.loop.world c.run_turn.new.world c.loop.invariant.done c.loop.left c.args.limit c.in_err-made.field-0.0
    c.loop.invariant.runs c.in_err-made.ensures.made (omega (arith, c.loop.invariant.all))))

pub returns-then-made-eq0-clause-runs : goal.returns-then-made-eq0-clause-runs
returns-then-made-eq0-clause-runs c = in_to c.args.world.now c.run_turn.new.world (c.loop.invariant.done + c.in_ok-made.made)
    (in_on c.args.world.now c.loop.world c.run_turn.new.world c.loop.invariant.done c.in_ok-made.made c.loop.invariant.runs
    c.in_ok-made.ensures.made.0.runs)

pub returns-then-made-eq0-clause-made : goal.returns-then-made-eq0-clause-made
returns-then-made-eq0-clause-made c = λ on. (
  c.loop.invariant.done + c.in_ok-made.made,
  record {
    few = omega (arith, c.loop.invariant.all, c.in_ok-made.ensures.made.0.few);
    runs = in_on c.args.world.now c.loop.world c.run_turn.new.world c.loop.invariant.done c.in_ok-made.made c.loop.invariant.runs
        c.in_ok-made.ensures.made.0.runs;
    goes = c.in_ok-made.ensures.made.0.goes;
  },
)

pub returns-then-closed-clause-runs : goal.returns-then-closed-clause-runs
returns-then-closed-clause-runs c = in_to c.args.world.now c.run_turn.new.world (c.loop.invariant.done + c.in_ok-made.made)
    (in_on c.args.world.now c.loop.world c.run_turn.new.world c.loop.invariant.done c.in_ok-made.made c.loop.invariant.runs
    c.in_ok-made.ensures.made.0.runs)

pub returns-then-closed-clause-made : goal.returns-then-closed-clause-made
returns-then-closed-clause-made c = λ on. (
  c.loop.invariant.done + c.in_ok-made.made,
  record {
    few = omega (arith, c.loop.invariant.all, c.in_ok-made.ensures.made.0.few);
    runs = in_on c.args.world.now c.loop.world c.run_turn.new.world c.loop.invariant.done c.in_ok-made.made c.loop.invariant.runs
        c.in_ok-made.ensures.made.0.runs;
    goes = c.in_ok-made.ensures.made.0.goes;
  },
)

pub returns-then-closed-clause-ended : goal.returns-then-closed-clause-ended
returns-then-closed-clause-ended c = record { over = λ w stand. c.closed.ensures.ended w stand c.if-closed.true }

pub returns-then-left-eq0-clause-runs : goal.returns-then-left-eq0-clause-runs
returns-then-left-eq0-clause-runs c = in_to c.args.world.now c.run_turn.new.world (c.loop.invariant.done + c.in_ok-made.made)
    (in_on c.args.world.now c.loop.world c.run_turn.new.world c.loop.invariant.done c.in_ok-made.made c.loop.invariant.runs
    c.in_ok-made.ensures.made.0.runs)

pub returns-then-left-eq0-clause-made : goal.returns-then-left-eq0-clause-made
returns-then-left-eq0-clause-made c = λ on. limit_made c.at_limit.result c.args.world.now c.run_turn.new.world c.args.limit
    (subst (λ n. RunsIn c.args.world.now n c.run_turn.new.world)
    (omega (arith, c.loop.invariant.all, c.in_ok-made.ensures.made.0.few, c.if-left-eq0.true))
    (in_on c.args.world.now c.loop.world c.run_turn.new.world c.loop.invariant.done c.in_ok-made.made c.loop.invariant.runs
    c.in_ok-made.ensures.made.0.runs)) c.in_ok-made.ensures.made.0.goes

pub returns-then-left-eq0-clause-halted : goal.returns-then-left-eq0-clause-halted
returns-then-left-eq0-clause-halted c = λ on. limit_halted c.at_limit.result c.args.world.now c.run_turn.new.world c.args.limit
    (subst (λ n. RunsIn c.args.world.now n c.run_turn.new.world)
    (omega (arith, c.loop.invariant.all, c.in_ok-made.ensures.made.0.few, c.if-left-eq0.true))
    (in_on c.args.world.now c.loop.world c.run_turn.new.world c.loop.invariant.done c.in_ok-made.made c.loop.invariant.runs
    c.in_ok-made.ensures.made.0.runs)) c.in_ok-made.ensures.made.0.goes c.at_limit.ensures.open

pub loop-preserved : goal.loop-preserved
loop-preserved c = record {
  done = c.loop.invariant.done + c.in_ok-made.made;
  all = omega (arith, c.loop.invariant.all, c.in_ok-made.ensures.made.0.few);
  turns = omega (arith, c.loop.invariant.turns, c.if-made-eq0.false);
  some = λ some. omega (arith, c.if-left-eq0.false);
  runs = in_on c.args.world.now c.loop.world c.run_turn.new.world c.loop.invariant.done c.in_ok-made.made c.loop.invariant.runs
      c.in_ok-made.ensures.made.0.runs;
  goes = c.in_ok-made.ensures.made.0.goes;
}

pub returns-clause-runs : goal.returns-clause-runs
returns-clause-runs c = in_to c.args.world.now c.loop.world c.loop.invariant.done c.loop.invariant.runs

pub returns-clause-made : goal.returns-clause-made
returns-clause-made c = λ on. limit_made c.at_limit-2.result c.args.world.now c.loop.world c.args.limit
    (subst (λ n. RunsIn c.args.world.now n c.loop.world) (omega (
      arith,
      c.loop.invariant.all,
      c.loop.invariant.turns,
      c.loop-test.false,
      c.loop.auto.counter-end,
    )) c.loop.invariant.runs) c.loop.invariant.goes

pub returns-clause-halted : goal.returns-clause-halted
returns-clause-halted c = λ on. limit_halted c.at_limit-2.result c.args.world.now c.loop.world c.args.limit
    (subst (λ n. RunsIn c.args.world.now n c.loop.world) (omega (
      arith,
      c.loop.invariant.all,
      c.loop.invariant.turns,
      c.loop-test.false,
      c.loop.auto.counter-end,
    )) c.loop.invariant.runs) c.loop.invariant.goes c.at_limit-2.ensures.open
