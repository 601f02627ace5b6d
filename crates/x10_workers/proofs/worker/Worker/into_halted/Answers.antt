use Rattle.std.proofs.Common.{refl, inl, inr}
use Rattle.x10_workers.proofs.worker.Worker.into_halted.Goals as goal

pub returns-in-Err : goal.returns-in-Err
returns-in-Err g c = inr c.in-Err.ensures.halts

pub returns : goal.returns
returns g c = inl refl
