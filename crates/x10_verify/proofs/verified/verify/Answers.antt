use Rattle.x10_verify.proofs.Refuted.{flow_refutes}
use Rattle.x10_verify.proofs.Wholes.{least_assigns}
use Rattle.x10_verify.proofs.verified.verify.Goals as goal

pub returns-in-Err-check_flow-clause-err : goal.returns-in-Err-check_flow-clause-err
returns-in-Err-check_flow-clause-err c = rw c.named.ensures (flow_refutes c.args.image c.in-Err-check_flow.fault.cause c.in-Err-check_flow.function
    c.in-Err-check_flow.fault.pc (c.in-Ok.bounds.items, c.in-Ok.ensures.exact) c.in_default.ensures.ok c.in-Err-check_flow.ensures.err
    c.in-Err-check_flow.ensures.cause)

pub invariant_of-result : goal.invariant_of-result
invariant_of-result c = record {
  certified = record {
    fits = c.fits.ensures;
    verified = record {
      bounds_are = c.in-Ok.ensures.exact;
      in_range = c.in_default.ensures.ok;
      assignments = λ f function is. least_assigns c.args.image function (c.in_default-check_flow.ensures.ok f function is);
    };
  };
  least = c.in_default-check_flow.ensures.ok;
  noted = c.in_default-check_flow.ensures.noted;
}
