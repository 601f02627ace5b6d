use Rattle.std.proofs.Common.{◌++◌, map, sym, subst, ◌∙◌}
use Rattle.x10_hall.specs.Halls.{frame_of}
use Rattle.x10_workers.specs.Trails.{StepsEach}
use Rattle.x10_workers.proofs.WorkLemmas.{steps_more}
use Rattle.x10_kinds.specs.declared.stop.Stop.TheVariants as stop
use Rattle.x10_workers.specs.Causes.{Halts}
use Rattle.x10_workers.specs.declared.halt.Halt.TheVariants as halt
use Rattle.x10_workers.proofs.CauseLemmas.{halts_stepped, memory_halts, told_as}
use Rattle.x10_workers.proofs.worker.Worker.make_steps.Goals as goal

pub loop-preserved : goal.loop-preserved
loop-preserved c =
    let adds = c.in_default-make_some.ensures.adds in
    let old = c.loop.invariant in
    record {
      steps = subst (λ ks. StepsEach c.args.self.now.place ks (map frame_of c.make_some.new.steps.frames.items) c.make_some.new.self.place)
          (sym adds.keys)
          (subst (λ fs. StepsEach c.args.self.now.place (c.loop.steps.keys ++ adds.more) fs c.make_some.new.self.place) (sym adds.frames)
          (steps_more c.args.self.now.place c.loop.self.place c.make_some.new.self.place c.loop.steps.keys adds.more
          (map frame_of c.loop.steps.frames.items) adds.out old.steps adds.steps));
      goes = adds.goes;
      still = λ e. let s = adds.still e in s.1 ∙ old.still s.0;
      kept = c.in_default-make_some.ensures.kept ∙ old.kept;
      few = adds.few;
    }

pub returns-in_err-key-clause-halts : goal.returns-in_err-key-clause-halts
returns-in_err-key-clause-halts c = told_as c.from_residual.result (halt.Stop stop.Memory) (Halts c.args.self.now.place) c.from_residual.ensures.1
    (memory_halts c.args.self.now.place)

pub returns-in-Err-clause-halts : goal.returns-in-Err-clause-halts
returns-in-Err-clause-halts c = halts_stepped c.args.self.now.place c.loop.self.place c.loop.steps.keys (map frame_of c.loop.steps.frames.items)
    c.in-Err.why c.loop.invariant.steps c.in-Err.ensures.halts

pub returns-in_err-note_refused-clause-halts : goal.returns-in_err-note_refused-clause-halts
returns-in_err-note_refused-clause-halts c = told_as c.from_residual-in_err-note_refused.result (halt.Stop stop.Memory)
    (Halts c.args.self.now.place) c.from_residual-in_err-note_refused.ensures.1 (memory_halts c.args.self.now.place)
