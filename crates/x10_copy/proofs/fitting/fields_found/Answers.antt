use Rattle.std.proofs.Common.{rules, arith, refl, sym}
use Rattle.x10_frame.specs.Heads.{graph_of}
use Rattle.x10_copy.specs.Fitting.{item_fits, is_exported}
use Rattle.x10_copy.proofs.SameTests.{some_left, looked_start, looked_fail, looked_next, looked_end}
use Rattle.x10_copy.proofs.fitting.fields_found.Goals as goal

pub loop-j-init : goal.loop-j-init
loop-j-init c = looked_start (item_fits (graph_of c.args.view.now))
    (is_exported c.args.here c.args.heap.now.exports) c.args.class.now c.args.node.now.fields c.values-values.result c.values-values.ensures.value

pub step-item-requires : goal.step-item-requires
step-item-requires c = some_left c.args.node.now.fields c.loop-j.values c.loop-j.j c.loop-j.invariant.left_are
    (omega (arith, c.loop-j-test.true, c.len-j-end.ensures.value, c.fields.ensures.value, c.len.ensures.value, c.if-fields-len.false))

pub returns-then-not-item_fits : goal.returns-then-not-item_fits
returns-then-not-item_fits c = looked_fail (item_fits (graph_of c.args.view.now))
    (is_exported c.args.here c.args.heap.now.exports) c.args.class.now c.args.node.now.fields c.loop-j.j c.loop-j.exported c.loop-j.values
    c.step-item.new.self _ _
    c.loop-j.invariant c.field.ensures.value c.step-item.ensures (search rules)

pub loop-j-preserved : goal.loop-j-preserved
loop-j-preserved c = looked_next (item_fits (graph_of c.args.view.now))
    (is_exported c.args.here c.args.heap.now.exports) c.args.class.now c.args.node.now.fields c.loop-j.j c.loop-j.exported
    c.is_exported-exported.result _ c.loop-j.values c.step-item.new.self _ _
    c.loop-j.invariant c.field.ensures.value c.step-item.ensures (search rules) (sym c.is_exported-exported.ensures) refl

pub returns : goal.returns
returns c = looked_end (item_fits (graph_of c.args.view.now))
    (is_exported c.args.here c.args.heap.now.exports) c.args.class.now c.args.node.now.fields c.loop-j.j c.loop-j.exported c.loop-j.values
    c.loop-j.invariant
    (omega (arith, c.loop-j-test.false, c.len-j-end.ensures.value))
    (omega (arith, c.loop-j-test.false, c.len-j-end.ensures.value, c.fields.ensures.value, c.len.ensures.value, c.if-fields-len.false))
