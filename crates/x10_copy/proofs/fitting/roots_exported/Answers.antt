use Rattle.std.proofs.Common.{rules}
use Rattle.x10_frame.specs.Heads.{graph_of}
use Rattle.x10_copy.specs.Fitting.{is_exported}
use Rattle.x10_copy.proofs.Tests.{each_next, each_fail}
use Rattle.x10_copy.proofs.fitting.roots_exported.Goals as goal

pub returns-then-not-is_exported : goal.returns-then-not-is_exported
returns-then-not-is_exported c = each_fail (is_exported c.args.here c.args.heap.now.exports) _ (graph_of c.args.view.now).roots c.loop-i.i _
    c.loop-i.invariant c.root.ensures.value (search rules)

pub loop-i-preserved : goal.loop-i-preserved
loop-i-preserved c = each_next (is_exported c.args.here c.args.heap.now.exports) _ (graph_of c.args.view.now).roots c.loop-i.i _ c.loop-i.invariant
    c.root.ensures.value (search rules)
