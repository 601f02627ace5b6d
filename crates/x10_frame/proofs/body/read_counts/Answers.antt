use Rattle.std.proofs.Common.{arith}
use Rattle.std.proofs.lemmas.Result.{err_from_is_err_and}
use Rattle.x10_model.proofs.Offsets.{ends_bytes}
use Rattle.x10_frame.specs.Faults.{named}
use Rattle.x10_frame.proofs.Bodies.{sent_fault, received_fault, counts_body}
use Rattle.x10_frame.proofs.body.read_counts.Goals as goal

pub returns-in_err-rest : goal.returns-in_err-rest
returns-in_err-rest c =
    let p = err_from_is_err_and c.from_residual.result c.from_residual.ensures.1 in
    rw (p.1, p.2) (record {
      exact = λ v from to finish. sent_fault c.args.places from to finish c.args.bytes.now
          (named c.in_err-rest.field-0.0) c.in_err-rest.ensures.exact;
    })

pub returns-in_err-rest-2 : goal.returns-in_err-rest-2
returns-in_err-rest-2 c =
    let p = err_from_is_err_and c.from_residual-in_err-rest-2.result c.from_residual-in_err-rest-2.ensures.1 in
    rw (p.1, p.2) (record {
      exact = λ v from to finish. received_fault c.args.places from to finish c.args.bytes.now c.in_ok-rest.rest.now
          (named c.in_err-rest-2.field-0.0) c.in_ok-rest.ensures.exact c.in_err-rest-2.ensures.exact;
    })

pub returns : goal.returns
returns c = record {
  exact = λ v from to finish. counts_body v c.args.places from to finish c.args.frame.now c.args.bytes.now c.in_ok-rest.rest.now
      c.in_ok-rest-2.rest.now c.new.result.items c.new-2.result.items c.new-3.result.items
      (ends_bytes _ _ (λ k. omega (arith, c.type_inv.frame k)) c.requires) c.requires c.new.ensures.items c.new-2.ensures.items c.new-3.ensures.items
      c.in_ok-rest.ensures.exact c.in_ok-rest-2.ensures.exact;
}
