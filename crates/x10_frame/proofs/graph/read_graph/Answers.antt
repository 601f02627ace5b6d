use Rattle.std.proofs.Common.{arith}
use Rattle.std.proofs.lemmas.Result.{err_from_is_err_and}
use Rattle.x10_model.proofs.ReaderLaws.{bind_is}
use Rattle.x10_model.proofs.Offsets.{ends_bytes}
use Rattle.x10_frame.specs.Faults.{named}
use Rattle.x10_frame.specs.Items.{tables_in}
use Rattle.x10_frame.specs.Graphs.{counts_at}
use Rattle.x10_bytes.proofs.Loops.{lenient, early}
use Rattle.x10_frame.proofs.Readers.{ends_after}
use Rattle.x10_frame.proofs.Graphs.{counts_drop, graph_of_counts, graph_is}
use Rattle.x10_frame.proofs.graph.read_graph.Goals as goal

pub returns-in_err-counts : goal.returns-in_err-counts
returns-in_err-counts c =
    let p = err_from_is_err_and c.from_residual.result c.from_residual.ensures.1 in
    rw (p.1, p.2) (record {
      exact = rw graph_is (early (counts_at c.args.version c.args.most)
          (graph_of_counts c.args.version c.args.places) c.args.bytes.now (named c.in_err-counts.field-0.0)
          (lenient (named c.in_err-counts.field-0.0) (counts_at c.args.version c.args.most c.args.bytes.now) c.in_err-counts.ensures.exact));
    })

pub parts_of-requires-clause-ends : goal.parts_of-requires-clause-ends
parts_of-requires-clause-ends c = ends_after c.args.frame.now c.args.bytes.now _ c.requires
    (counts_drop c.args.version c.args.most c.args.bytes.now _ _
    (ends_bytes _ _ (λ k. omega (arith, c.type_inv.frame k)) c.requires) c.in_ok-counts.ensures.exact)

pub parts_of-requires-in-Wide-clause-ends : goal.parts_of-requires-in-Wide-clause-ends
parts_of-requires-in-Wide-clause-ends c = ends_after c.args.frame.now c.args.bytes.now _ c.requires
    (counts_drop c.args.version c.args.most c.args.bytes.now _ _
    (ends_bytes _ _ (λ k. omega (arith, c.type_inv.frame k)) c.requires) c.in_ok-counts.ensures.exact)

pub returns-in-Narrow : goal.returns-in-Narrow
returns-in-Narrow c = rw (
  graph_is,
  bind_is (counts_at c.args.version c.args.most) (graph_of_counts c.args.version c.args.places) c.args.bytes.now
      (c.in_ok-counts.counts.roots, tables_in c.in_ok-counts.counts.all) c.in_ok-counts.rest.now c.in_ok-counts.ensures.exact,
  c.in-Narrow.is,
)
    c.parts_of.ensures

pub returns-in-Wide : goal.returns-in-Wide
returns-in-Wide c = rw (
  graph_is,
  bind_is (counts_at c.args.version c.args.most) (graph_of_counts c.args.version c.args.places) c.args.bytes.now
      (c.in_ok-counts.counts.roots, tables_in c.in_ok-counts.counts.all) c.in_ok-counts.rest.now c.in_ok-counts.ensures.exact,
  c.in-Wide.is,
)
    c.parts_of-in-Wide.ensures
