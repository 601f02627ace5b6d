use Rattle.std.proofs.Common.{sym, ap, subst, inl, inr, refl}
use Rattle.x10_workers.specs.declared.halt.WorkFault.TheVariants as fault
use Rattle.x10_workers.specs.Reports.{TellsFailure, TellsHalt}
use Rattle.x10_workers.proofs.threads.fault_of.Goals as goal

pub returns-in-Stop-clause-told : goal.returns-in-Stop-clause-told
returns-in-Stop-clause-told c = c.stop_of.ensures.told c.args.turns

pub returns-in-Stop-clause-tells : goal.returns-in-Stop-clause-tells
returns-in-Stop-clause-tells c = subst (λ f. TellsFailure f c.stop_of.result) (sym c.in-Worker.is)
    (subst (λ h. TellsHalt c.in-Worker.place h c.stop_of.result) (sym c.in-Stop.is) c.stop_of.ensures.tells)

pub returns-in-Turns-clause-tells : goal.returns-in-Turns-clause-tells
returns-in-Turns-clause-tells c =
    let told = fault.Turns (record { outputs = c.in-Ok.outputs; log = c.args.log }) in
    subst (λ f. TellsFailure f told) (sym c.in-Worker.is)
    (subst (λ h. TellsHalt c.in-Worker.place h told) (sym c.in-Turns.is) (inr (_, inl refl)))

pub returns-in-Turns-2-clause-tells : goal.returns-in-Turns-2-clause-tells
returns-in-Turns-2-clause-tells c =
    let told = fault.Differs c.len-in-Turns-2.result in
    subst (λ f. TellsFailure f told) (sym c.in-Worker.is)
    (subst (λ h. TellsHalt c.in-Worker.place h told) (sym c.in-Turns-2.is)
    (inr (record { outputs = c.in-Ok.outputs; log = c.args.log }, inr (ap (λ n. fault.Differs n) c.len-in-Turns-2.ensures))))

pub returns-in-Refused-clause-tells : goal.returns-in-Refused-clause-tells
returns-in-Refused-clause-tells c =
    let told = fault.Differs c.len-in-Refused.result in
    subst (λ f. TellsFailure f told) (sym c.in-Worker.is)
    (subst (λ h. TellsHalt c.in-Worker.place h told) (sym c.in-Refused.is)
    (inr (record { outputs = c.in-Ok.outputs; log = c.args.log }, ap (λ n. fault.Differs n) c.len-in-Refused.ensures)))
