use Rattle.std.proofs.Common.{[], arith, refl, rules, tests}
use Rattle.std.proofs.lemmas.Result.{err_from_is_err_and}
use Rattle.x10_frame.specs.Faults.{named}
use Rattle.x10_frame.proofs.Readers.{ends_after}
use Rattle.x10_frame.proofs.Heads.{version_drops, head_drops}
use Rattle.x10_frame.proofs.Whole.{version_fault, head_fault, body_fault, Steps, trailing, read_is, is_view, is_in}
use Rattle.x10_frame.proofs.view.whole.Goals as goal

pub returns-in_err-version : goal.returns-in_err-version
returns-in_err-version c =
    let p = err_from_is_err_and c.from_residual.result c.from_residual.ensures.1 in
    rw (p.1, p.2) (record { exact = version_fault c.args.places c.args.bytes.now (named c.in_err-version.field-0.0) c.in_err-version.ensures.exact })

pub returns-in_err-head : goal.returns-in_err-head
returns-in_err-head c =
    let p = err_from_is_err_and c.from_residual-in_err-head.result c.from_residual-in_err-head.ensures.1 in
    rw (p.1, p.2) (record {
      exact = head_fault c.in_ok-version.version c.args.places c.args.bytes.now c.in_ok-version.rest.now
          (named c.in_err-head.field-0.0) c.in_ok-version.ensures.exact c.in_err-head.ensures.exact;
    })

pub read_body-requires : goal.read_body-requires
read_body-requires c =
    let first = version_drops c.args.bytes.now _ _ (λ k. omega (arith, c.type_inv.bytes k)) c.in_ok-version.ensures.exact in
    ends_after c.args.bytes.now c.in_ok-version.rest.now _ (ends_after c.args.bytes.now c.args.bytes.now _ (record { before = []; is = refl }) first)
    (head_drops c.args.places c.ranges.places.fits c.in_ok-version.rest.now _ _ first.1.rest_fits c.in_ok-head.ensures.exact)

pub returns-in_err-body : goal.returns-in_err-body
returns-in_err-body c =
    let p = err_from_is_err_and c.from_residual-in_err-body.result c.from_residual-in_err-body.ensures.1 in
    rw (p.1, p.2) (record {
      exact = body_fault c.in_ok-version.version c.args.places c.args.bytes.now c.in_ok-version.rest.now c.in_ok-head.head
          c.in_ok-head.rest.now (named c.in_err-body.field-0.0) c.in_ok-version.ensures.exact c.in_ok-head.ensures.exact c.in_err-body.ensures.exact;
    })

pub returns-then-not-is_empty : goal.returns-then-not-is_empty
returns-then-not-is_empty c =
    let s : Steps c.in_ok-version.version c.args.places c.args.bytes.now c.in_ok-version.rest.now c.in_ok-head.head c.in_ok-head.rest.now
    c.in_ok-body.body.start c.in_ok-body.body.roots c.in_ok-body.body.texts.items c.in_ok-body.body.rails.items c.in_ok-body.body.nodes.items
    c.in_ok-body.rest.now = record {
      few = c.ranges.places.fits;
      small = λ k. omega (arith, c.type_inv.bytes k);
      version = c.in_ok-version.ensures.exact;
      head = c.in_ok-head.ensures.exact;
      body = c.in_ok-body.ensures.exact;
    } in
    record {
      exact = trailing c.in_ok-version.version c.args.places c.args.bytes.now c.in_ok-version.rest.now c.in_ok-head.head c.in_ok-head.rest.now
          c.in_ok-body.body.start c.in_ok-body.body.roots c.in_ok-body.body.texts.items c.in_ok-body.body.rails.items c.in_ok-body.body.nodes.items
          c.in_ok-body.rest.now s (search (rules, tests));
    }

pub invariant_of-result : goal.invariant_of-result
invariant_of-result c =
    let s : Steps c.in_ok-version.version c.args.places c.args.bytes.now c.in_ok-version.rest.now c.in_ok-head.head c.in_ok-head.rest.now
    c.in_ok-body.body.start c.in_ok-body.body.roots c.in_ok-body.body.texts.items c.in_ok-body.body.rails.items c.in_ok-body.body.nodes.items
    c.in_ok-body.rest.now = record {
      few = c.ranges.places.fits;
      small = λ k. omega (arith, c.type_inv.bytes k);
      version = c.in_ok-version.ensures.exact;
      head = c.in_ok-head.ensures.exact;
      body = c.in_ok-body.ensures.exact;
    } in
    is_view c.in_ok-version.version c.args.places c.args.bytes.now c.in_ok-version.rest.now c.in_ok-head.head c.in_ok-head.rest.now
    c.in_ok-body.body.start c.in_ok-body.body.roots c.in_ok-body.body.texts.items c.in_ok-body.body.rails.items c.in_ok-body.body.nodes.items
    c.in_ok-body.rest.now s (search (rules, tests))

pub returns : goal.returns
returns c =
    let s : Steps c.in_ok-version.version c.args.places c.args.bytes.now c.in_ok-version.rest.now c.in_ok-head.head c.in_ok-head.rest.now
    c.in_ok-body.body.start c.in_ok-body.body.roots c.in_ok-body.body.texts.items c.in_ok-body.body.rails.items c.in_ok-body.body.nodes.items
    c.in_ok-body.rest.now = record {
      few = c.ranges.places.fits;
      small = λ k. omega (arith, c.type_inv.bytes k);
      version = c.in_ok-version.ensures.exact;
      head = c.in_ok-head.ensures.exact;
      body = c.in_ok-body.ensures.exact;
    } in
    record {
      exact = is_in c.args.places c.args.bytes.now _ (read_is c.in_ok-version.version c.args.places c.args.bytes.now c.in_ok-version.rest.now
          c.in_ok-head.head c.in_ok-head.rest.now c.in_ok-body.body.start c.in_ok-body.body.roots c.in_ok-body.body.texts.items
          c.in_ok-body.body.rails.items c.in_ok-body.body.nodes.items c.in_ok-body.rest.now s (search (rules, tests)));
    }
