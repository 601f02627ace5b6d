use Rattle.std.proofs.Common.{ap, subst, ◌∙◌}
use Rattle.x10_workers.proofs.WorkLemmas.{goes_same, goes_further}
use Rattle.x10_workers.specs.Causes.{Halts}
use Rattle.x10_workers.proofs.CauseLemmas.{ended_halts, halts_worked, told_as}
use Rattle.x10_workers.proofs.working.attend.Goals as goal

pub loop-preserved-then-eq : goal.loop-preserved-then-eq
loop-preserved-then-eq g c = goes_same c.args.worker.now.place c.turn.new.self.place c.end.new.self.place c.args.worker.now.kept.items
    c.turn.new.self.kept.items c.end.new.self.kept.items (goes_further c.args.worker.now.place c.loop.worker.place c.turn.new.self.place
    c.args.worker.now.kept.items c.loop.worker.kept.items c.turn.new.self.kept.items c.loop.invariant c.in_ok-went.ensures.works) c.end.ensures.place
    (ap (λ v. v.items) c.end.ensures.kept)

pub loop-preserved : goal.loop-preserved
loop-preserved g c = goes_same c.args.worker.now.place c.turn.new.self.place c.post.new.self.place c.args.worker.now.kept.items
    c.turn.new.self.kept.items c.post.new.self.kept.items (goes_further c.args.worker.now.place c.loop.worker.place c.turn.new.self.place
    c.args.worker.now.kept.items c.loop.worker.kept.items c.turn.new.self.kept.items c.loop.invariant c.in_ok-went.ensures.works)
    (c.post.ensures.place ∙ c.end.ensures.place) (ap (λ v. v.items) (c.post.ensures.kept ∙ c.end.ensures.kept))

pub returns-in-Finished-clause-works : goal.returns-in-Finished-clause-works
returns-in-Finished-clause-works g c = goes_same c.args.worker.now.place c.turn.new.self.place c.post.new.self.place c.args.worker.now.kept.items
    c.turn.new.self.kept.items c.post.new.self.kept.items (goes_further c.args.worker.now.place c.loop.worker.place c.turn.new.self.place
    c.args.worker.now.kept.items c.loop.worker.kept.items c.turn.new.self.kept.items c.loop.invariant c.in_ok-went.ensures.works)
    (c.post.ensures.place ∙ c.end.ensures.place) (ap (λ v. v.items) (c.post.ensures.kept ∙ c.end.ensures.kept))

pub returns-in_err-went-clause-halts : goal.returns-in_err-went-clause-halts
returns-in_err-went-clause-halts g c = told_as c.from_residual.result c.in_err-went.field-0.0 (Halts c.args.worker.now.place)
    c.from_residual.ensures.1 (halts_worked c.args.worker.now.place c.loop.worker.place c.args.worker.now.kept.items c.loop.worker.kept.items
    c.in_err-went.field-0.0 c.loop.invariant c.in_err-went.ensures.halts)

pub returns-in_err-end-clause-halts : goal.returns-in_err-end-clause-halts
returns-in_err-end-clause-halts g c = told_as c.from_residual-in_err-end.result c.in_err-end.field-0.0 (Halts c.args.worker.now.place)
    c.from_residual-in_err-end.ensures.1 (halts_worked c.args.worker.now.place c.turn.new.self.place c.args.worker.now.kept.items
    c.turn.new.self.kept.items c.in_err-end.field-0.0 (goes_further c.args.worker.now.place c.loop.worker.place c.turn.new.self.place
    c.args.worker.now.kept.items c.loop.worker.kept.items c.turn.new.self.kept.items c.loop.invariant c.in_ok-went.ensures.works)
    c.in_err-end.ensures.halts)

pub returns-in_err-post-clause-halts : goal.returns-in_err-post-clause-halts
returns-in_err-post-clause-halts g c = told_as c.from_residual-in_err-post.result c.in_err-post.field-0.0 (Halts c.args.worker.now.place)
    c.from_residual-in_err-post.ensures.1 (c.in_err-post.ensures.halts c.args.worker.now.place)

pub returns-in-Stopped-clause-halts : goal.returns-in-Stopped-clause-halts
returns-in-Stopped-clause-halts g c = ended_halts c.args.worker.now.place
