use Rattle.std.proofs.Common.{arith}
use Rattle.x10_frame.specs.Heads.{graph_of}
use Rattle.x10_copy.proofs.Additions.{texts_start, texts_next, texts_end}
use Rattle.x10_copy.proofs.adding.add_texts.Goals as goal

pub loop-i-init : goal.loop-i-init
loop-i-init c = texts_start c.args.heap.now (graph_of c.args.view.now).texts

pub loop-i-preserved : goal.loop-i-preserved
loop-i-preserved c = texts_next c.args.heap.now c.loop-i.heap c.new_text.new.self (graph_of c.args.view.now).texts c.loop-i.i c.text.result.now
    c.loop-i.invariant c.text.ensures.value c.in_ok-new_text.ensures.ok.1

pub returns-clause-ok : goal.returns-clause-ok
returns-clause-ok c = texts_end c.args.heap.now c.loop-i.heap (graph_of c.args.view.now).texts c.loop-i.i c.loop-i.invariant
    (omega (arith, c.loop-i-test.false, c.texts-i-end.ensures.value))
