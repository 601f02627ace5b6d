use Rattle.std.proofs.Common.{arith}
use Rattle.x10_frame.specs.Heads.{graph_of}
use Rattle.x10_copy.proofs.Additions.{rails_start, rails_next, rails_end}
use Rattle.x10_copy.proofs.adding.add_rails.Goals as goal

pub loop-i-init : goal.loop-i-init
loop-i-init c = rails_start c.args.heap.now (graph_of c.args.view.now).rails

pub loop-i-preserved : goal.loop-i-preserved
loop-i-preserved c = rails_next c.args.heap.now c.loop-i.heap c.copy_rail.new.self (graph_of c.args.view.now).rails c.loop-i.i c.rail.result.now
    c.loop-i.invariant c.rail.ensures.value c.in_ok-copy_rail.ensures.ok.1

pub returns-clause-ok : goal.returns-clause-ok
returns-clause-ok c = rails_end c.args.heap.now c.loop-i.heap (graph_of c.args.view.now).rails c.loop-i.i c.loop-i.invariant
    (omega (arith, c.loop-i-test.false, c.rails-i-end.ensures.value))
