use Rattle.std.proofs.Common.{Ok, [], ◌∷◌, map, refl, sym, ap, ◌∙◌, append-nil, arith}
use Rattle.x10_hall.specs.Halls.{frame_of}
use Rattle.x10_place.specs.declared.place.Stepped.TheVariants as stepped
use Rattle.x10_workers.specs.Trails.{frames_sent}
use Rattle.x10_workers.proofs.WorkLemmas.{few_appended, steps_by}
use Rattle.x10_kinds.specs.declared.stop.Stop.TheVariants as stop
use Rattle.x10_workers.specs.Causes.{Halts}
use Rattle.x10_workers.specs.declared.halt.Halt.TheVariants as halt
use Rattle.x10_workers.proofs.CauseLemmas.{hindered_halts, memory_halts, told_as}
use Rattle.x10_workers.proofs.worker.Worker.make_step.Goals as goal

pub returns-in_ok-put_sent-in-Moved-clause-adds : goal.returns-in_ok-put_sent-in-Moved-clause-adds
returns-in_ok-put_sent-in-Moved-clause-adds c =
    let by = steps_by c.args.self.now.place c.step.new.self c.args.key c.step.result (stepped.Moved c.in-Moved.sent)
    (c.in_ok-step.was ∙ ap (λ s. Ok s) c.in-Moved.is) (c.step.ensures.idle c.requires.goes)
    (c.step.ensures.only c.requires.goes) c.step.ensures.some c.step.ensures.goes c.step.ensures.kept in
    record {
      more = c.args.key ∷ [];
      out = frames_sent c.in-Moved.sent;
      steps = by.steps;
      goes = by.goes;
      keys = c.in_ok-push.ensures.ok;
      frames = c.in_ok-put_sent-in-Moved.ensures;
      few = few_appended c.args.steps.now.keys (c.args.key ∷ []) c.push.new.self 1 c.in_ok-push.ensures.ok (omega arith)
          (omega (arith, c.requires.few));
      still = λ e. absurd cc;
    }

pub returns-in_ok-waits-in-Idle-clause-adds : goal.returns-in_ok-waits-in-Idle-clause-adds
returns-in_ok-waits-in-Idle-clause-adds c =
    let by = steps_by c.args.self.now.place c.step.new.self c.args.key c.step.result stepped.Idle (c.in_ok-step.was ∙ ap (λ s. Ok s) c.in-Idle.is)
    (c.step.ensures.idle c.requires.goes) (c.step.ensures.only c.requires.goes) c.step.ensures.some c.step.ensures.goes c.step.ensures.kept in
    record {
      more = c.args.key ∷ [];
      out = [];
      steps = by.steps;
      goes = by.goes;
      keys = c.in_ok-push.ensures.ok;
      frames = sym (append-nil (map frame_of c.args.steps.now.frames.items));
      few = few_appended c.args.steps.now.keys (c.args.key ∷ []) c.push.new.self 1 c.in_ok-push.ensures.ok (omega arith)
          (omega (arith, c.requires.few));
      still = λ e. (e, by.still refl);
    }

pub returns-in_err-push-clause-halts : goal.returns-in_err-push-clause-halts
returns-in_err-push-clause-halts c = told_as c.from_residual.result (halt.Stop stop.Memory) (Halts c.args.self.now.place) c.from_residual.ensures.1
    (memory_halts c.args.self.now.place)

pub returns-in_err-step-clause-halts : goal.returns-in_err-step-clause-halts
returns-in_err-step-clause-halts c = told_as c.from_residual-in_err-step.result (halt.Stop c.in_err-step.field-0.0) (Halts c.args.self.now.place)
    c.from_residual-in_err-step.ensures.1
    (hindered_halts c.args.self.now.place c.args.key c.in_err-step.field-0.0 (c.in_err-step.ensures.refused c.requires.goes))

pub returns-in_err-waits-in-Idle-clause-halts : goal.returns-in_err-waits-in-Idle-clause-halts
returns-in_err-waits-in-Idle-clause-halts c = told_as c.from_residual-in_err-waits-in-Idle.result (halt.Stop stop.Memory) (Halts c.args.self.now.place) c.from_residual-in_err-waits-in-Idle.ensures.1
    (memory_halts c.args.self.now.place)

pub returns-in_err-stepped-in-Moved-clause-halts : goal.returns-in_err-stepped-in-Moved-clause-halts
returns-in_err-stepped-in-Moved-clause-halts c = told_as c.from_residual-in_err-stepped-in-Moved.result (halt.Stop stop.Memory) (Halts c.args.self.now.place) c.from_residual-in_err-stepped-in-Moved.ensures.1
    (memory_halts c.args.self.now.place)

pub returns-in_err-put_sent-in-Moved-clause-halts : goal.returns-in_err-put_sent-in-Moved-clause-halts
returns-in_err-put_sent-in-Moved-clause-halts c = told_as c.from_residual-in_err-put_sent-in-Moved.result (halt.Stop stop.Memory) (Halts c.args.self.now.place) c.from_residual-in_err-put_sent-in-Moved.ensures.1
    (memory_halts c.args.self.now.place)
