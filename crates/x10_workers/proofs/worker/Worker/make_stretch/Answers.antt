use Rattle.std.proofs.Common.{◌≢◌, replicate, true, refl, arith}
use Rattle.x10_workers.specs.Trails.{frames_sent}
use Rattle.x10_workers.proofs.WorkLemmas.{few_appended, if_ran, if_ok_at, strides_to_each}
use Rattle.std.proofs.lemmas.Bool.{both_ways}
use Rattle.std.proofs.lemmas.List.{length-replicate}
use Rattle.x10_kinds.specs.declared.stop.Stop.TheVariants as stop
use Rattle.x10_workers.specs.Causes.{Halts}
use Rattle.x10_workers.specs.declared.halt.Halt.TheVariants as halt
use Rattle.x10_workers.proofs.CauseLemmas.{if_halted, memory_halts, stretch_halts, told_as}
use Rattle.x10_workers.proofs.worker.Worker.make_stretch.Goals as goal

pub returns-clause-adds : goal.returns-clause-adds
returns-clause-adds c = record {
  more = replicate c.run-made.result.0 c.args.key;
  out = frames_sent c.in_ok-sent.sent;
  steps = strides_to_each c.args.key c.args.self.now.place c.run-made.result.0 c.in_ok-sent.sent c.run-made.new.self
      (if_ran c.run-made.result.1 c.in_ok-sent.sent _ _ c.in_ok-sent.was c.run-made.ensures.ran);
  goes = if_ok_at c.run-made.result.1 c.in_ok-sent.sent (λ s. c.run-made.new.self.stopped ≢ true) c.in_ok-sent.was c.run-made.ensures.goes;
  keys = c.in_ok-push.ensures.ok;
  frames = c.in_ok-put_sent.ensures;
  few = few_appended c.args.steps.now.keys (replicate c.run-made.result.0 c.args.key) c.push.new.self c.saturating_sub-most.result c.in_ok-push.ensures.ok
      (omega (arith, length-replicate c.run-made.result.0 c.args.key, c.run-made.ensures.few))
      (omega (arith, c.requires.few, c.from.ensures, c.len.ensures, c.saturating_sub-most.ensures));
  still = λ e. absurd (both_ways true e refl);
}

pub returns-in_err-sent-clause-halts : goal.returns-in_err-sent-clause-halts
returns-in_err-sent-clause-halts c = told_as c.from_residual.result (halt.Stop c.in_err-sent.field-0.0) (Halts c.args.self.now.place)
    c.from_residual.ensures.1
    (stretch_halts c.args.key c.args.self.now.place c.run-made.result.0 c.in_err-sent.field-0.0 c.run-made.new.self c.requires.goes
    (if_halted c.run-made.result.1 c.in_err-sent.field-0.0 _ _ c.in_err-sent.was c.run-made.ensures.ran))

pub returns-in_err-push-clause-halts : goal.returns-in_err-push-clause-halts
returns-in_err-push-clause-halts c = told_as c.from_residual-in_err-push.result (halt.Stop stop.Memory) (Halts c.args.self.now.place) c.from_residual-in_err-push.ensures.1
    (memory_halts c.args.self.now.place)

pub returns-in_err-stepped-clause-halts : goal.returns-in_err-stepped-clause-halts
returns-in_err-stepped-clause-halts c = told_as c.from_residual-in_err-stepped.result (halt.Stop stop.Memory) (Halts c.args.self.now.place) c.from_residual-in_err-stepped.ensures.1
    (memory_halts c.args.self.now.place)

pub returns-in_err-put_sent-clause-halts : goal.returns-in_err-put_sent-clause-halts
returns-in_err-put_sent-clause-halts c = told_as c.from_residual-in_err-put_sent.result (halt.Stop stop.Memory) (Halts c.args.self.now.place) c.from_residual-in_err-put_sent.ensures.1
    (memory_halts c.args.self.now.place)
