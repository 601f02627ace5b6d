use Rattle.std.proofs.Common.{[], ◌∷◌, length, map, sym, ap, subst, ◌∙◌, arith}
use Rattle.std.proofs.lemmas.List.{length-append, map-append}
use Rattle.x10_hall.specs.Halls.{told}
use Rattle.x10_workers.specs.Trails.{TakesEach}
use Rattle.x10_workers.proofs.WorkLemmas.{takes_one_more}
use Rattle.x10_workers.specs.Causes.{Halts}
use Rattle.x10_workers.proofs.CauseLemmas.{ended_halts, halts_taken, told_as}
use Rattle.x10_workers.proofs.worker.Worker.take_frames.Goals as goal

pub loop-preserved : goal.loop-preserved
loop-preserved g c =
    let took = c.in_ok-accept-in-Frame.ensures in
    let old = c.loop.invariant in
    record {
      takes = subst (λ fs. TakesEach c.args.self.now.place fs c.accept.new.self.place)
          (sym (ap (map told) took.taken ∙ map-append told c.loop.taken.items (c.in-Frame.frame ∷ [])))
          (takes_one_more c.args.self.now.place c.loop.self.place c.accept.new.self.place (map told c.loop.taken.items)
          (told c.in-Frame.frame) old.takes took.takes);
      goes = took.takes.goes;
      kept = took.kept ∙ old.kept;
      few = (let was = old.few in omega (arith, was, ap length took.taken, length-append c.loop.taken.items (c.in-Frame.frame ∷ [])));
    }

pub returns-in-Nothing-clause-few : goal.returns-in-Nothing-clause-few
returns-in-Nothing-clause-few g c = (let was = c.loop.invariant.few in omega (arith, was, c.loop-test.true))

pub returns-clause-few : goal.returns-clause-few
returns-clause-few g c = (let was = c.loop.invariant.few in omega (arith, was, c.loop.auto.counter-end))

pub returns-then-is_stopped-clause-halts : goal.returns-then-is_stopped-clause-halts
returns-then-is_stopped-clause-halts g c = ended_halts c.args.self.now.place

pub returns-in_err-accept-in-Frame-clause-halts : goal.returns-in_err-accept-in-Frame-clause-halts
returns-in_err-accept-in-Frame-clause-halts g c = told_as c.from_residual.result c.in_err-accept-in-Frame.field-0.0 (Halts c.args.self.now.place)
    c.from_residual.ensures.1 (halts_taken c.args.self.now.place c.loop.self.place (map told c.loop.taken.items) c.in_err-accept-in-Frame.field-0.0
    c.loop.invariant.takes c.in_err-accept-in-Frame.ensures.halts)

pub returns-in-Stopped-clause-halts : goal.returns-in-Stopped-clause-halts
returns-in-Stopped-clause-halts g c = ended_halts c.args.self.now.place
