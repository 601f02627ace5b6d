use Rattle.x10_kinds.specs.declared.stop.Stop.TheVariants as stop
use Rattle.x10_workers.specs.Causes.{Halts}
use Rattle.x10_workers.specs.declared.halt.Halt.TheVariants as halt
use Rattle.x10_workers.specs.Halts.{halt_of_refusal}
use Rattle.x10_workers.proofs.CauseLemmas.{memory_halts, refused_halts, told_as}
use Rattle.x10_workers.proofs.worker.Worker.accept.Goals as goal

pub returns-in_err-reserve-clause-halts : goal.returns-in_err-reserve-clause-halts
returns-in_err-reserve-clause-halts c = told_as c.from_residual.result (halt.Stop stop.Memory) (Halts c.args.self.now.place) c.from_residual.ensures.1
    (memory_halts c.args.self.now.place)

pub returns-in_err-reserve-2-clause-halts : goal.returns-in_err-reserve-2-clause-halts
returns-in_err-reserve-2-clause-halts c = told_as c.from_residual-in_err-reserve-2.result (halt.Stop stop.Memory) (Halts c.args.self.now.place)
    c.from_residual-in_err-reserve-2.ensures.1 (memory_halts c.args.self.now.place)

pub returns-in_err-receive-clause-halts : goal.returns-in_err-receive-clause-halts
returns-in_err-receive-clause-halts c = told_as c.from_residual-in_err-receive.result (halt_of_refusal c.in_err-receive.field-0.0) (Halts c.args.self.now.place)
    c.from_residual-in_err-receive.ensures.1
    (refused_halts c.args.self.now.place c.deref-2.result.now c.in_err-receive.field-0.0 (c.in_err-receive.ensures.refused c.requires))

pub returns-in_err-came-clause-halts : goal.returns-in_err-came-clause-halts
returns-in_err-came-clause-halts c = told_as c.from_residual-in_err-came.result (halt.Stop stop.Memory) (Halts c.args.self.now.place) c.from_residual-in_err-came.ensures.1
    (memory_halts c.args.self.now.place)
