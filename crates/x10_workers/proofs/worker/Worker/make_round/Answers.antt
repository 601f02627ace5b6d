use Rattle.std.proofs.Common.{◌≢◌, ◌++◌, ◌∙◌, true, length, sym, ap, arith}
use Rattle.std.specs.Prelude.{take}
use Rattle.std.proofs.lemmas.List.{length-take-le}
use Rattle.x10_workers.specs.Trails.{frames_sent}
use Rattle.x10_workers.proofs.SweepTrails.{sweeps_to_each, swept_still, none_or}
use Rattle.x10_workers.proofs.WorkLemmas.{few_appended, if_ran, if_ok_at}
use Rattle.x10_kinds.specs.declared.stop.Stop.TheVariants as stop
use Rattle.x10_workers.specs.Causes.{Halts}
use Rattle.x10_workers.specs.declared.halt.Halt.TheVariants as halt
use Rattle.x10_workers.proofs.CauseLemmas.{if_halted, memory_halts, swept_halts, told_as}
use Rattle.x10_workers.proofs.worker.Worker.make_round.Goals as goal

pub returns-clause-adds : goal.returns-clause-adds
returns-clause-adds c =
    let swept = c.sweep-made.result in
    let ran = if_ran swept.last c.in_ok-sent.sent _ _ c.in_ok-sent.was c.sweep-made.ensures.ran in
    record {
      more = take swept.made c.deref.result.now;
      out = frames_sent c.in_ok-sent.sent;
      steps = sweeps_to_each c.deref.result.now c.args.self.now.place swept.made swept.moved c.in_ok-sent.sent c.sweep-made.new.self ran;
      goes = if_ok_at swept.last c.in_ok-sent.sent (λ s. c.sweep-made.new.self.stopped ≢ true) c.in_ok-sent.was
          (c.sweep-made.ensures.goes c.requires.goes);
      keys = c.in_ok-push_keys.ensures ∙ ap (λ ks. c.args.steps.now.keys ++ take swept.made ks)
          (c.deref-2.ensures.value ∙ sym c.deref.ensures.value);
      frames = c.in_ok-put_sent.ensures;
      few = few_appended c.args.steps.now.keys (take swept.made c.deref.result.now) c.push_keys.new.keys c.saturating_sub-most.result
          (c.in_ok-push_keys.ensures ∙ ap (λ ks. c.args.steps.now.keys ++ take swept.made ks)
          (c.deref-2.ensures.value ∙ sym c.deref.ensures.value))
          (omega (
            arith,
            length-take-le swept.made c.deref.result.now c.sweep-made.ensures.few,
            c.sweep-made.ensures.few,
            ap length c.deref.ensures.value,
            c.in_ok-fill_round.ensures.few,
          ))
          (omega (arith, c.requires.few, c.from.ensures, c.len.ensures, c.saturating_sub-most.ensures));
      still = λ e. (
        (none_or c.args.steps.now.moved swept.moved e).0,
        swept_still c.deref.result.now c.args.self.now.place swept.made swept.moved c.in_ok-sent.sent c.sweep-made.new.self ran
            (none_or c.args.steps.now.moved swept.moved e).1,
      );
    }

pub returns-in_err-fill_round-clause-halts : goal.returns-in_err-fill_round-clause-halts
returns-in_err-fill_round-clause-halts c = told_as c.from_residual.result (halt.Stop stop.Memory) (Halts c.args.self.now.place) c.from_residual.ensures.1
    (memory_halts c.args.self.now.place)

pub returns-in_err-sent-clause-halts : goal.returns-in_err-sent-clause-halts
returns-in_err-sent-clause-halts c = told_as c.from_residual-in_err-sent.result (halt.Stop c.in_err-sent.field-0.0) (Halts c.args.self.now.place)
    c.from_residual-in_err-sent.ensures.1
    (swept_halts c.deref.result.now c.args.self.now.place c.sweep-made.result.made c.sweep-made.result.moved c.in_err-sent.field-0.0 c.sweep-made.new.self
    c.requires.goes (if_halted c.sweep-made.result.last c.in_err-sent.field-0.0 _ _ c.in_err-sent.was c.sweep-made.ensures.ran))

pub returns-in_err-push_keys-clause-halts : goal.returns-in_err-push_keys-clause-halts
returns-in_err-push_keys-clause-halts c = told_as c.from_residual-in_err-push_keys.result (halt.Stop stop.Memory) (Halts c.args.self.now.place) c.from_residual-in_err-push_keys.ensures.1
    (memory_halts c.args.self.now.place)

pub returns-in_err-swept-clause-halts : goal.returns-in_err-swept-clause-halts
returns-in_err-swept-clause-halts c = told_as c.from_residual-in_err-swept.result (halt.Stop stop.Memory) (Halts c.args.self.now.place) c.from_residual-in_err-swept.ensures.1
    (memory_halts c.args.self.now.place)

pub returns-in_err-put_sent-clause-halts : goal.returns-in_err-put_sent-clause-halts
returns-in_err-put_sent-clause-halts c = told_as c.from_residual-in_err-put_sent.result (halt.Stop stop.Memory) (Halts c.args.self.now.place) c.from_residual-in_err-put_sent.ensures.1
    (memory_halts c.args.self.now.place)
