use Rattle.std.proofs.Common.{sym, subst}
use Rattle.x10_workers.specs.Workings.{KeepsTurn}
use Rattle.x10_kinds.specs.declared.stop.Stop.TheVariants as stop
use Rattle.x10_workers.specs.Causes.{Halts}
use Rattle.x10_workers.specs.declared.halt.Halt.TheVariants as halt
use Rattle.x10_workers.proofs.CauseLemmas.{memory_halts, told_as}
use Rattle.x10_workers.proofs.worker.Worker.keep.Goals as goal

pub returns-in_ok-post-clause-kept : goal.returns-in_ok-post-clause-kept
returns-in_ok-post-clause-kept g c = subst (λ k. KeepsTurn c.args.own c.args.self.now.kept.items k.items) (sym c.post.ensures.kept) c.in_ok-add.ensures.kept

pub returns-in_err-add-clause-halts : goal.returns-in_err-add-clause-halts
returns-in_err-add-clause-halts g c = told_as c.from_residual.result (halt.Stop stop.Memory) (Halts c.args.self.now.place) c.from_residual.ensures.1
    (memory_halts c.args.self.now.place)
