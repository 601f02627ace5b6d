use Rattle.std.proofs.Common.{List, subst}
use Rattle.std.proofs.lemmas.Result.{err_from_is_err_and}
use Rattle.x10_hall.specs.declared.turn.Turn.{Turn}
use Rattle.x10_workers.specs.Audits.{IsNotPlayed}
use Rattle.x10_cli.proofs.LogLemmas.{due_audit, due_places}
use Rattle.x10_cli.proofs.audited.outputs_of.Goals as goal

pub returns-in_err-permit-clause-due : goal.returns-in_err-permit-clause-due
returns-in_err-permit-clause-due c = λ bytes text is reads.
    let told = err_from_is_err_and c.from_residual.result c.from_residual.ensures.1 in
    rw (told.1, told.2) (due_places bytes text c.in_err-permit.field-0.0 c.in_err-permit.ensures.err.0 (record {
      c = c.args.verified.now;
      log = c.args.log.now;
      image = is;
      reads = reads;
      forbidden = c.in_err-permit.ensures.err.1;
    }))

pub returns-in_err-audit-clause-due : goal.returns-in_err-audit-clause-due
returns-in_err-audit-clause-due c = λ bytes text is reads.
    let told = err_from_is_err_and c.from_residual-in_err-audit.result c.from_residual-in_err-audit.ensures.1 in
    rw told.1 (due_audit bytes text c.in_err-audit.field-0.0 told.0 (record {
      c = c.args.verified.now;
      log = c.args.log.now;
      image = is;
      reads = reads;
      reason = subst (λ (ts : List Turn). IsNotPlayed c.args.verified.now c.args.log.now.places ts c.in_err-audit.field-0.0) c.deref.ensures.value
          c.in_err-audit.ensures.err;
    }) told.2)
