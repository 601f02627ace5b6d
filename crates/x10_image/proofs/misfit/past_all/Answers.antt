use Rattle.std.proofs.lemmas.Result.{err_from_is_err_and}
use Rattle.std.proofs.Common.{refl, inl, inr, rules, tests}
use Rattle.x10_image.specs.Faults.{named}
use Rattle.x10_image.specs.Headers.{seen}
use Rattle.x10_image.proofs.FirstMisfit.{header_misfit, classes_misfit, ints_misfit, texts_misfit, functions_misfit, parts_whole, parts_trailing}
use Rattle.x10_image.proofs.misfit.past_all.Goals as goal

pub returns-in-Err-clause-part : goal.returns-in-Err-clause-part
returns-in-Err-clause-part c = inl (refl, refl, c.in-Err.ensures.exact)

pub returns-in-Err-clause-fault : goal.returns-in-Err-clause-fault
returns-in-Err-clause-fault c = header_misfit c.args.bytes.now (named c.in-Err.field.fault) c.in-Err.ensures.exact

pub returns-in_err-rest-clause-part : goal.returns-in_err-rest-clause-part
returns-in_err-rest-clause-part c =
    let p = err_from_is_err_and c.from_residual.result c.from_residual.ensures.1 in
    rw (p.1, p.2) (inr (seen c.in-Ok.read.0, c.in-Ok.read.1.now, c.in-Ok.ensures.exact, c.in_err-rest.ensures.part c.in-Ok.read.0.version))

pub returns-in_err-rest-clause-fault : goal.returns-in_err-rest-clause-fault
returns-in_err-rest-clause-fault c =
    let p = err_from_is_err_and c.from_residual.result c.from_residual.ensures.1 in
    rw (p.1, p.2) (classes_misfit c.args.bytes.now (seen c.in-Ok.read.0) c.in-Ok.read.1.now
    (named c.in_err-rest.field-0.0.fault) c.in-Ok.ensures.exact c.in_err-rest.ensures.fault)

pub returns-in_err-rest-2-clause-fault : goal.returns-in_err-rest-2-clause-fault
returns-in_err-rest-2-clause-fault c =
    let p = err_from_is_err_and c.from_residual-in_err-rest-2.result c.from_residual-in_err-rest-2.ensures.1 in
    rw (p.1, p.2) (ints_misfit c.args.bytes.now (seen c.in-Ok.read.0) c.in-Ok.read.1.now c.in_ok-rest.rest.now
    (named c.in_err-rest-2.field-0.0.fault) c.in-Ok.ensures.exact c.in_ok-rest.ensures.passed c.in_err-rest-2.ensures.fault)

pub returns-in_err-rest-3-clause-fault : goal.returns-in_err-rest-3-clause-fault
returns-in_err-rest-3-clause-fault c =
    let p = err_from_is_err_and c.from_residual-in_err-rest-3.result c.from_residual-in_err-rest-3.ensures.1 in
    rw (p.1, p.2) (texts_misfit c.args.bytes.now (seen c.in-Ok.read.0) c.in-Ok.read.1.now c.in_ok-rest.rest.now c.in_ok-rest-2.rest.now
    (named c.in_err-rest-3.field-0.0.fault) c.in-Ok.ensures.exact c.in_ok-rest.ensures.passed c.in_ok-rest-2.ensures.passed
    c.in_err-rest-3.ensures.fault)

pub returns-in_err-rest-4-clause-fault : goal.returns-in_err-rest-4-clause-fault
returns-in_err-rest-4-clause-fault c =
    let p = err_from_is_err_and c.from_residual-in_err-rest-4.result c.from_residual-in_err-rest-4.ensures.1 in
    rw (p.1, p.2) (functions_misfit c.args.bytes.now (seen c.in-Ok.read.0) c.in-Ok.read.1.now c.in_ok-rest.rest.now c.in_ok-rest-2.rest.now
    c.in_ok-rest-3.rest.now (named c.in_err-rest-4.field-0.0.fault) c.in-Ok.ensures.exact c.in_ok-rest.ensures.passed
    c.in_ok-rest-2.ensures.passed c.in_ok-rest-3.ensures.passed c.in_err-rest-4.ensures.fault)

pub returns-then-is_empty-clause-whole : goal.returns-then-is_empty-clause-whole
returns-then-is_empty-clause-whole c = parts_whole c.args.bytes.now
    (seen c.in-Ok.read.0) c.in-Ok.read.1.now c.in_ok-rest.rest.now c.in_ok-rest-2.rest.now c.in_ok-rest-3.rest.now c.in_ok-rest-4.rest.now
    c.in-Ok.ensures.exact c.in_ok-rest.ensures.passed c.in_ok-rest-2.ensures.passed c.in_ok-rest-3.ensures.passed c.in_ok-rest-4.ensures.passed
    (search (rules, tests))

pub returns-clause-fault : goal.returns-clause-fault
returns-clause-fault c = parts_trailing c.args.bytes.now (seen c.in-Ok.read.0) c.in-Ok.read.1.now c.in_ok-rest.rest.now c.in_ok-rest-2.rest.now
    c.in_ok-rest-3.rest.now c.in_ok-rest-4.rest.now c.in-Ok.ensures.exact c.in_ok-rest.ensures.passed c.in_ok-rest-2.ensures.passed
    c.in_ok-rest-3.ensures.passed c.in_ok-rest-4.ensures.passed (search (rules, tests))

pub returns-in_err-rest-2-clause-part : goal.returns-in_err-rest-2-clause-part
returns-in_err-rest-2-clause-part c =
    let p = err_from_is_err_and c.from_residual-in_err-rest-2.result c.from_residual-in_err-rest-2.ensures.1 in
    rw (p.1, p.2) (inr (
      seen c.in-Ok.read.0,
      c.in-Ok.read.1.now,
      c.in-Ok.ensures.exact,
      c.in_err-rest-2.ensures.part c.in-Ok.read.0.version c.in-Ok.read.0.classes,
    ))

pub returns-in_err-rest-3-clause-part : goal.returns-in_err-rest-3-clause-part
returns-in_err-rest-3-clause-part c =
    let p = err_from_is_err_and c.from_residual-in_err-rest-3.result c.from_residual-in_err-rest-3.ensures.1 in
    rw (p.1, p.2) (inr (
      seen c.in-Ok.read.0,
      c.in-Ok.read.1.now,
      c.in-Ok.ensures.exact,
      c.in_err-rest-3.ensures.part c.in-Ok.read.0.version c.in-Ok.read.0.classes,
    ))

pub returns-in_err-rest-4-clause-part : goal.returns-in_err-rest-4-clause-part
returns-in_err-rest-4-clause-part c =
    let p = err_from_is_err_and c.from_residual-in_err-rest-4.result c.from_residual-in_err-rest-4.ensures.1 in
    rw (p.1, p.2) (inr (seen c.in-Ok.read.0, c.in-Ok.read.1.now, c.in-Ok.ensures.exact, c.in_err-rest-4.ensures.part))

pub returns-clause-part : goal.returns-clause-part
returns-clause-part c = inr (seen c.in-Ok.read.0, c.in-Ok.read.1.now, c.in-Ok.ensures.exact, (refl, search (rules, tests)))
