use Rattle.std.proofs.Common.{slice_get, arith, refl, sym, ◌∙◌}
use Rattle.x10_frame.specs.Heads.{graph_of}
use Rattle.x10_copy.specs.Fitting.{class_fits, are_exported}
use Rattle.x10_copy.proofs.SameTests.{each_looked_start, each_looked_fail, each_looked_next, each_looked_end}
use Rattle.x10_copy.proofs.fitting.each_found.Goals as goal

pub loop-k-init : goal.loop-k-init
loop-k-init c = each_looked_start (λ n. class_fits (graph_of c.args.view.now) (slice_get c.args.image.now.classes n.class) n.fields)
    (λ n. are_exported c.args.here c.args.heap.now.exports n.fields) c.args.nodes.now

pub returns-in_default : goal.returns-in_default
returns-in_default c = each_looked_fail (λ n. class_fits (graph_of c.args.view.now) (slice_get c.args.image.now.classes n.class) n.fields)
    (λ n. are_exported c.args.here c.args.heap.now.exports n.fields) c.args.nodes.now c.loop-k.k c.loop-k.exported c.node.result c.loop-k.invariant
    c.node.ensures.value
    (sym c.in_default.is ∙ c.node_found.ensures)

pub loop-k-preserved : goal.loop-k-preserved
loop-k-preserved c = each_looked_next (λ n. class_fits (graph_of c.args.view.now) (slice_get c.args.image.now.classes n.class) n.fields)
    (λ n. are_exported c.args.here c.args.heap.now.exports n.fields) c.args.nodes.now c.loop-k.k c.loop-k.exported c.in-Some.named _ c.node.result
    c.loop-k.invariant c.node.ensures.value
    (sym c.in-Some.is ∙ c.node_found.ensures) refl

pub returns : goal.returns
returns c = each_looked_end (λ n. class_fits (graph_of c.args.view.now) (slice_get c.args.image.now.classes n.class) n.fields)
    (λ n. are_exported c.args.here c.args.heap.now.exports n.fields) c.args.nodes.now c.loop-k.k c.loop-k.exported c.loop-k.invariant
    (omega (arith, c.loop-k-test.false, c.len-k-end.ensures.value))
